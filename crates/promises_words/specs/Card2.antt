-- Card 2. "The square term depends only on j mod 36, so 36 constants can stand in for the formula. Every promise keeps its text; show that the
-- constants are the formula's."
--
-- The constants are `SQUARES` of the crate `interleaver_line`, from which both ways of step 5 take their places. `Squares` says that a table has 36
-- entries, entry c being 210 c² mod 15,120; that it holds of `SQUARES` is one computed test over all entries, in the proof of `first_line`.
use Rattle.std.specs.Prelude.{◌≡◌, List, [], ◌∷◌, ℕ, ◌+◌, ◌*◌, ◌%◌, get_or}
use Rattle.interleaver.specs.Interleaver.{source_bit, Squares}

-- The square term depends only on j mod 36,
abbrev pub SquareTerm : Type 0
SquareTerm = (j : ℕ) → 210 * (j * j) % 15120 ≡ 210 * ((j % 36) * (j % 36)) % 15120

-- and the constants are the formula's, for every j,
abbrev pub ConstantsAreTheFormula's : Type 0
ConstantsAreTheFormula's = (table : List ℕ) → Squares table → (j : ℕ) → get_or table (j % 36) 0 ≡ 210 * (j * j) % 15120

-- so the place that they give is step 5's.
abbrev pub PlacesByTheTable : Type 0
PlacesByTheTable = (table : List ℕ) → Squares table → (j : ℕ) → (11 * j + get_or table (j % 36) 0) % 15120 ≡ source_bit j

-- These are the 36.
abbrev pub TheConstants : Type 0
TheConstants =
    Squares
    (0 ∷ 210 ∷ 840 ∷ 1890 ∷ 3360 ∷ 5250 ∷ 7560 ∷ 10290 ∷ 13440 ∷ 1890 ∷ 5880 ∷ 10290 ∷ 0 ∷ 5250 ∷ 10920 ∷ 1890 ∷ 8400 ∷ 210 ∷ 7560 ∷ 210 ∷ 8400 ∷ 1890 ∷ 10920 ∷ 5250 ∷ 0 ∷ 10290 ∷ 5880 ∷ 1890 ∷ 13440 ∷ 10290 ∷ 7560 ∷ 5250 ∷ 3360 ∷ 1890 ∷ 840 ∷ 210 ∷ [])

-- ---- what is promised, all of it: the contract of `card_2`
pub record Card2 : Type 0 where
  pub square_term_lem : SquareTerm
  pub constants_are_the_formula : ConstantsAreTheFormula's
  pub places_by_the_table : PlacesByTheTable
  pub the_constants : TheConstants
