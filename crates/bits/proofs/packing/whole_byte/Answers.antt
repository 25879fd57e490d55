-- One bit more is pushed in from below.
use mathlib.Core.Path.{refl, ap, ◌∙◌}
use Prim.Native.Nat.{ℕ, ◌+◌, ◌*◌, ◌%◌, ◌^◌}
use lib.Bits.{bit_or}
use lib.ListN.{get_or}
use Rattle.bits.specs.Pack.{val}
use Rattle.bits.proofs.Laws.Loops.{push}
use Rattle.bits.proofs.packing.whole_byte.Goals as goal

pub loop-t-init : goal.loop-t-init
unfolding val
loop-t-init c = refl

pub loop-t-preserved : goal.loop-t-preserved
loop-t-preserved c =
    let a = c.args in
    let f : ℕ → ℕ = λ t. get_or a.bits.now (a.at + t) 0 in
    ap (λ (v : ℕ). bit_or (v * 2 % 2 ^ 8) (f c.loop-t.t)) c.loop-t.invariant ∙ push 8 f c.loop-t.t (λ t. c.requires.1 (a.at + t)) c.loop-t-test.true
