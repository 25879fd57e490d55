-- At the loop's head v is the sum over the first i bits.
use mathlib.Core.Path.{refl, sym, ap, ap₂, ◌∙◌}
use Prim.Native.Nat.{ℕ, ◌+◌, ◌*◌}
use native.Mathlib.Omega.{arith}
use lib.ListN.{get_or}
use native.Mathlib.Numerals.{add-one}
use Rattle.word_columns.specs.Inner.{mix_sum}
use Rattle.word_columns.proofs.Loops.{mix_fits}
use Rattle.word_columns.proofs.mixing.mixed.Goals as goal

pub loop-i-init : goal.loop-i-init
unfolding mix_sum
loop-i-init c = refl

pub overflow_add-v : goal.overflow_add-v
overflow_add-v c =
    let l = c.loop-i in
    let s = c in
    let h : ℕ → ℕ = λ i. get_or s.args.coded.now (s.args.x + 2160 * i) 0 in
    let w : ℕ → ℕ = λ i. get_or s.args.mask.now (144 * i + s.args.y) 0 in
    omega (arith, l.invariant, c.chosen-v.ensures, mix_fits h w (λ i. s.requires.0.bits (s.args.x + 2160 * i)) (s.requires.1.fits s.args.y s.requires.3) l.i (omega arith))

pub loop-i-preserved : goal.loop-i-preserved
unfolding mix_sum
loop-i-preserved c =
    let l = c.loop-i in
    let s = c in
    ap₂ (λ (a b : ℕ). a + b) l.invariant c.chosen-v.ensures ∙ ap (mix_sum (λ i. get_or s.args.coded.now (s.args.x + 2160 * i) 0) (λ i. get_or s.args.mask.now (144 * i + s.args.y) 0)) (sym (add-one l.i))
