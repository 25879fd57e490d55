-- At the loop's head r is the sum over the first k sixes.
use mathlib.Core.Path.{◌≡◌, refl, sym, ap, ap₂, ◌∙◌}
use Prim.Native.Nat.{ℕ, ◌+◌, ◌*◌, ◌/◌, ◌^◌}
use native.Mathlib.Omega.{arith}
use native.Mathlib.Numerals.{add-one}
use lib.Bits.{bit_xor, and_mask}
use lib.ListN.{get_or}
use borrow.Author.Rules.{rules}
use Rattle.bits.specs.Count.{xor_sum}
use Rattle.crc_steps.specs.Inner.{change_of}
use Rattle.crc_steps.proofs.Sixes.{six_at, eleven_sixes}
use Rattle.crc_steps.proofs.eleven.Goals as goal

pub loop-k-init : goal.loop-k-init
unfolding xor_sum
loop-k-init c = refl

pub loop-k-preserved : goal.loop-k-preserved
unfolding xor_sum
loop-k-preserved c =
    let l = c.loop-k in
    let s = c in
    let v = c.args.v in ap₂ bit_xor l.invariant
    (ap (λ (six : ℕ). get_or s.args.table.now (64 * l.k + six) 0) (and_mask (v / 2 ^ (6 * l.k)) 6)
    ∙ s.requires.entry l.k (six_at v l.k) (search rules) (omega arith))
    ∙ ap (xor_sum (λ k. change_of k (six_at v k))) (sym (add-one l.k))

pub returns : goal.returns
returns c =
    let l = c.loop-k in
    let v = c.args.v in
    let done : l.k ≡ 11 = omega arith in
    l.invariant ∙ ap (xor_sum (λ k. change_of k (six_at v k))) done ∙ eleven_sixes v c.ranges.v.fits
