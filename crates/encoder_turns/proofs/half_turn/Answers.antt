-- Eight coded bits after the other are those of the entries that the turn's bits choose.
use mathlib.Core.Path.{◌≡◌, refl}
use mathlib.Core.List.{List}
use Prim.Native.Nat.{ℕ, ◌+◌, ◌/◌, ◌^◌, ◌<◌}
use native.Mathlib.Omega.{arith}
use lib.Bits.{bit_and, and_mask}
use lib.ListN.{get_or}
use Rattle.sizes.specs.Sizes.{inputs_per, coded_per}
use Rattle.convolution.specs.Code.{input_place}
use Rattle.encoder_turns.specs.Inner.{bit_in, byte_of, turn_bit, Halves}
use Rattle.convolution.proofs.Filling.{put_on, put_same}
use Rattle.encoder_turns.proofs.Turning.{group}
use Rattle.encoder_turns.proofs.half_turn.Goals as goal

first : (w : ℕ) (table : List ℕ) → Halves table → (t : ℕ) → t < 8 → byte_of (get_or table (bit_and (w / 2 ^ 4) 63) 0) t ≡ turn_bit 1 (bit_in 10 w) t
unfolding input_place inputs_per coded_per
first w table h t l =
    group 1 0 0 6 0 4 10 w _ table h.first (omega (arith, and_mask (w / 2 ^ 4) 6)) refl (λ t l. omega arith) t t l (omega arith)

last : (w : ℕ) (table : List ℕ) → Halves table → (t : ℕ) → t < 8 → byte_of (get_or table (bit_and w 63) 0) t ≡ turn_bit 1 (bit_in 10 w) (8 + t)
unfolding input_place inputs_per coded_per
last w table h t l =
    group 1 8 4 6 0 0 10 w _ table h.last (omega (arith, and_mask w 6)) refl (λ t l. omega arith) t (8 + t) l refl

pub returns : goal.returns
returns c =
    let s = c in
    let a = c.args in
    let f : ℕ → ℕ = turn_bit 1 (bit_in 10 a.w) in
    let p0 = c.put_low_eight in
    let p1 = c.put_low_eight-2 in
    let one = put_same _ _ a.at 8 _ f p0.ensures (first a.w a.table.now s.requires.halves) in
    put_on _ _ _ a.at 8 8 f _ one p1.ensures (last a.w a.table.now s.requires.halves)
