-- Eight coded bits after the other are those of the entries that the turn's bits choose.
use mathlib.Core.Path.{◌≡◌, refl}
use mathlib.Core.List.{List}
use Prim.Native.Nat.{ℕ, ◌+◌, ◌/◌, ◌^◌, ◌<◌}
use native.Mathlib.Omega.{arith}
use lib.Bits.{bit_and, and_mask}
use lib.ListN.{get_or}
use Rattle.sizes.specs.Sizes.{inputs_per, coded_per}
use Rattle.convolution.specs.Code.{input_place}
use Rattle.encoder_turns.specs.Inner.{bit_in, byte_of, turn_bit, TwoThirds}
use Rattle.convolution.proofs.Filling.{put_on, put_same}
use Rattle.encoder_turns.proofs.Turning.{group}
use Rattle.encoder_turns.proofs.two_thirds_turn.Goals as goal

first : (w : ℕ) (table : List ℕ) → TwoThirds table → (t : ℕ) → t < 8 → byte_of (get_or table (bit_and (w / 2 ^ 11) 127) 0) t ≡ turn_bit 2 (bit_in 18 w) t
unfolding input_place inputs_per coded_per
first w table h t l =
    group 2 0 0 7 0 11 18 w _ table h.first (omega (arith, and_mask (w / 2 ^ 11) 7)) refl (λ t l. omega arith) t t l (omega arith)

next : (w : ℕ) (table : List ℕ) → TwoThirds table → (t : ℕ) → t < 8 → byte_of (get_or table (128 + bit_and (w / 2 ^ 5) 255) 0) t ≡ turn_bit 2 (bit_in 18 w) (8 + t)
unfolding input_place inputs_per coded_per
next w table h t l =
    group 2 8 5 8 128 5 18 w _ table h.next (omega (arith, and_mask (w / 2 ^ 5) 8)) refl (λ t l. omega arith) t (8 + t) l refl

last : (w : ℕ) (table : List ℕ) → TwoThirds table → (t : ℕ) → t < 8 → byte_of (get_or table (384 + bit_and w 255) 0) t ≡ turn_bit 2 (bit_in 18 w) (16 + t)
unfolding input_place inputs_per coded_per
last w table h t l =
    group 2 16 10 8 384 0 18 w _ table h.last (omega (arith, and_mask w 8)) refl (λ t l. omega arith) t (16 + t) l refl

pub returns : goal.returns
returns c =
    let s = c in
    let a = c.args in
    let f : ℕ → ℕ = turn_bit 2 (bit_in 18 a.w) in
    let p0 = c.put_low_eight in
    let p1 = c.put_low_eight-2 in
    let p2 = c.put_low_eight-3 in
    let one = put_same _ _ a.at 8 _ f p0.ensures (first a.w a.table.now s.requires.two_thirds) in
    let two = put_on _ _ _ a.at 8 8 f _ one p1.ensures (next a.w a.table.now s.requires.two_thirds) in
    put_on _ _ _ a.at 16 8 f _ two p2.ensures (last a.w a.table.now s.requires.two_thirds)
