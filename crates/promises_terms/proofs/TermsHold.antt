-- The proofs of the terms.
use mathlib.Core.Path.{◌≡◌, refl, ap₂, ◌∙◌}
use mathlib.Core.Logic.{⊎_elim}
use Prim.Native.Nat.{ℕ, ◌/◌, ◌%◌, ◌^◌, ◌≤◌, ◌<◌}
use native.Mathlib.Omega.{arith}
use native.Mathlib.Nat.{add-zero}
use lib.ListN.{get_or}
use borrow.Author.Tests.{eq-eqb, ne_eqb}
use Rattle.bits.specs.Pack.{val, bit_at}
use Rattle.bits.specs.Count.{differences, weight, xor_sum}
use Rattle.bits.proofs.Laws.Choice.{lt_or_le}
use Rattle.bits.proofs.Laws.First.{found_at, all_pass}
use Rattle.bits.proofs.Laws.Pack.{length_bytes, byte_at, cut_in, cut_past, length_plus, get_or_plus}
use Rattle.bits.proofs.Laws.Table.{length_tab, get_or_tab}
use Rattle.promises_terms.specs.Terms.{Terms, BitAtIs, ValIs, BytesOfIs, CutIs, BytesIs, BitsIs, BoolIs, PickIs, TabIs, PieceIs, PlusIs, UpToIs, WeightIs, XorSumIs, DifferencesIs}

pub bit_at_is : BitAtIs
unfolding bit_at
bit_at_is xs i t l = ap₂ (λ (x y : ℕ). get_or xs x 0 / 2 ^ y % 2) (omega arith) (omega arith)

pub val_is : ValIs
unfolding val
val_is f n = (refl, refl)

pub bytes_of_is : BytesOfIs
bytes_of_is n f = (length_bytes n f, byte_at n f)

pub cut_is : CutIs
cut_is m x i = (cut_in m x i, cut_past m x i)

pub bytes_is : BytesIs
bytes_is xs = (λ b. b, λ b. b)

pub bits_is : BitsIs
bits_is f = (λ b. b, λ b. b)

pub bool_is : BoolIs
bool_is = (refl, refl)

pub pick_is : PickIs
pick_is a b = (refl, refl)

pub tab_is : TabIs
tab_is n f = (length_tab n f, get_or_tab n f)

pub piece_is : PieceIs
piece_is n xs j = refl

pub plus_is : PlusIs
plus_is xs ys e = (length_plus xs ys, λ i. get_or_plus xs ys i e)

pub up_to_is : UpToIs
up_to_is p end k most before fails =
    ⊎_elim
    (λ (l : k < end). found_at p 0 end k (omega arith) l (λ i a b. before i b) (fails l))
    (λ (l : end ≤ k). let e : k ≡ end = omega arith in all_pass p end (λ i b. before i (omega arith)) ∙ omega arith)
    (lt_or_le k end)

pub weight_is : WeightIs
unfolding weight
weight_is f n = (refl, refl)

pub xor_sum_is : XorSumIs
unfolding xor_sum
xor_sum_is f n = (refl, refl)

pub differences_is : DifferencesIs
unfolding differences
differences_is f g n = (refl, λ e. rw (eq-eqb (f n) (g n) e) (add-zero (differences f g n)), λ ne. rw (ne_eqb (f n) (g n) ne) refl)

-- all of it
pub terms : Terms
terms = record {
  bit_at_is = bit_at_is;
  val_is = val_is;
  bytes_of_is = bytes_of_is;
  cut_is = cut_is;
  bytes_is = bytes_is;
  bits_is = bits_is;
  bool_is = bool_is;
  pick_is = pick_is;
  tab_is = tab_is;
  piece_is = piece_is;
  plus_is = plus_is;
  up_to_is = up_to_is;
  weight_is = weight_is;
  xor_sum_is = xor_sum_is;
  differences_is = differences_is;
}
