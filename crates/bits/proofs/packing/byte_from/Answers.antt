-- One bit more is pushed in from below; past the end it is a zero.
use mathlib.Core.Path.{◌≡◌, refl, ap₂, ◌∙◌}
use Prim.Native.Nat.{ℕ, ◌+◌, ◌*◌, ◌%◌, ◌^◌}
use native.Mathlib.Omega.{arith}
use lib.Bits.{bit_or}
use lib.ListN.{get_or}
use Rattle.std.proofs.lemmas.Grind.{common_steps}
use Rattle.std.proofs.lemmas.Option.{gets}
use Rattle.bits.specs.Pack.{val}
use Rattle.bits.proofs.Laws.Loops.{push}
use Rattle.bits.proofs.packing.byte_from.Goals as goal

pub loop-t-init : goal.loop-t-init
unfolding val
loop-t-init c = refl

pub loop-t-preserved : goal.loop-t-preserved
loop-t-preserved c =
    let a = c.args in
    let f : ℕ → ℕ = λ t. get_or a.bits.now (a.at + t) 0 in
    let next : c.unwrap_or.result ≡ f c.loop-t.t = grind (arith, common_steps, gets) in
    ap₂ (λ (v b : ℕ). bit_or (v * 2 % 2 ^ 8) b) c.loop-t.invariant next ∙ push 8 f c.loop-t.t (λ t. c.requires.1 (a.at + t)) c.loop-t-test.true
