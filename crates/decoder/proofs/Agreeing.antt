-- Coded bits that agree with those that input bits make.
use mathlib.Core.Path.{◌≡◌, sym, ap, ◌∙◌}
use mathlib.Core.List.{List}
use Prim.Native.Nat.{ℕ, ◌<◌}
use lib.Dec.{eqb}
use lib.ListN.{get_or}
use borrow.Author.Tests.{eq-eqb}
use Rattle.bits.specs.Basics.{up_to, tab}
use Rattle.bits.proofs.Laws.First.{first_same, all_pass}
use Rattle.bits.specs.Pack.{bit_at}
use Rattle.bits.proofs.Laws.Table.{get_or_tab}
use Rattle.sizes.specs.Inner.{input_bits}
use Rattle.sizes.specs.Sizes.{word_bits}
use Rattle.convolution.specs.Code.{encode, decode}
use Rattle.convolution.proofs.Laws.Code.{encode_same, decode_same, decode_encode}
use Rattle.decoder_bits.specs.Inner.{same_at}
use Rattle.convolution.specs.Inner.{Made}

-- where one list is made by a function, the comparison is with its values
pub same_made : (f : ℕ → ℕ) (made coded : List ℕ) → made ≡ tab word_bits f → up_to (same_at made coded) 0 word_bits ≡ up_to (λ j. eqb (get_or coded j 0) (f j)) 0 word_bits
same_made f made coded e =
    first_same (same_at made coded) (λ j. eqb (get_or coded j 0) (f j)) word_bits (λ k l.
    ap (eqb (get_or coded k 0)) (ap (λ (xs : List ℕ). get_or xs k 0) e ∙ get_or_tab word_bits f k l))

-- input bits that make all coded bits are those that the second output gives, and nothing is wrong
module _ (rate : ℕ) (coded input : List ℕ) (h : rate < 3) (made : Made rate coded input) where
  c : ℕ → ℕ
  c j = get_or coded j 0

  pub made_bits : (i : ℕ) → i < input_bits rate → bit_at input i ≡ decode rate (λ j. get_or coded j 0) i
  unfolding c
  made_bits i l = sym (decode_same rate c (encode rate (bit_at input)) h made i l ∙ decode_encode rate (bit_at input) h i)

  pub made_all : word_bits ≡ up_to (λ j. eqb (get_or coded j 0) (encode rate (decode rate (λ j. get_or coded j 0)) j)) 0 word_bits
  unfolding c
  made_all =
      sym (all_pass (λ j. eqb (c j) (encode rate (decode rate c) j)) word_bits (λ j l.
      eq-eqb (c j) (encode rate (decode rate c) j) (made j l ∙ encode_same rate (bit_at input) (decode rate c) h made_bits j l)))
