-- The proofs of card 12.
use mathlib.Core.Path.{ap}
use Prim.Native.Nat.{ℕ}
use Rattle.randomizer.specs.Randomizer.{randomize}
use Rattle.word.proofs.Laws.Checks as law_of_checks
use Rattle.word.proofs.Laws.Exports as word_laws
use Rattle.word.proofs.Laws.Word as step_laws
use Rattle.promises_words.specs.Card12.{Card12, ChecksDiffer, CheckFinds, WordCarriedOn, TakenInIs, CarriedOnIs, BlockFirst, FieldBehind}

pub checks_differ : ChecksDiffer
checks_differ = law_of_checks.checks_differ

pub check_finds : CheckFinds
check_finds = law_of_checks.check_finds

pub word_carried_on : WordCarriedOn
word_carried_on = word_laws.word_carried

pub taken_in_is : TakenInIs
unfolding randomize
taken_in_is block i = ap (λ (f : ℕ → ℕ). f i) (step_laws.taken_steps block)

pub carried_on_is : CarriedOnIs
carried_on_is = step_laws.carried_steps

pub block_first : BlockFirst
block_first = law_of_checks.taken_first

pub field_behind : FieldBehind
field_behind = law_of_checks.field_behind

-- all of it
pub card_12 : Card12
card_12 = record {
  checks_differ = checks_differ;
  check_finds = check_finds;
  word_carried_on = word_carried_on;
  taken_in_is = taken_in_is;
  carried_on_is = carried_on_is;
  block_first = block_first;
  field_behind = field_behind;
}
