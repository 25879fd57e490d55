-- The proofs of card 2.
use mathlib.Core.Path.{refl}
use Rattle.interleaver.proofs.Laws.Squares.{square_36, constants, source_squares, table_right}
use Rattle.promises_words.specs.Card2.{Card2, SquareTerm, ConstantsAreTheFormula's, PlacesByTheTable, TheConstants}

pub square_term_lem : SquareTerm
square_term_lem = square_36

pub constants_are_the_formula : ConstantsAreTheFormula's
constants_are_the_formula = constants

pub places_by_the_table : PlacesByTheTable
places_by_the_table = source_squares

pub the_constants : TheConstants
the_constants = table_right _ refl tt

-- all of it
pub card_2 : Card2
card_2 = record {
  square_term_lem = square_term_lem;
  constants_are_the_formula = constants_are_the_formula;
  places_by_the_table = places_by_the_table;
  the_constants = the_constants;
}
