-- Card 6, of the calls: a header that is refused is refused by every call that is lent it, with that number, and "question 20 is put to every call that is lent a header, Card 1's
-- search too".
use Rattle.std.specs.Prelude.{◌≡◌, true, false, List, ℕ, ◌<◌}
use Rattle.answers.specs.Answer.{Done, No}
use Rattle.header.specs.Header.{fields_of}
use Rattle.header_questions.specs.Questions.{copies_good, form_says, header_says, marks_good}
use Rattle.header_convert.specs.Convert.{narrow_says}
use Rattle.capture_search.specs.Search.{find_says, find_from_says}
use Rattle.capture_cut.specs.Cut.{cut_says}
use Rattle.delay.specs.Delay.{step_says}
use Rattle.fades.specs.Fades.{fades_say}
use Rattle.rack.specs.Rack as racks
use Rattle.run.specs.Run.{run_read_says, run_write_says}

-- ---- a header that is refused is refused by every call that is lent it, with that number: by the calls that are lent marker symbols too, where these are good.
-- The rack puts its own questions first (Card10), which an owner's load of an existing place passes

abbrev pub HeaderRefused : Type 0
HeaderRefused =
    (header marker frames slots capture fades area : List ℕ) (capture_length s n q c p number place : ℕ) → header_says header ≡ No number place
    → (cut_says header capture_length s n ≡ No number place)
    × (fades_say header fades n ≡ No number place)
    × (step_says header q n ≡ No number place)
    × (narrow_says header n ≡ No number place)
    × (c < 4 → p < 4 → racks.says area (racks.call_of c c p (racks.Load header)) ≡ No number place)
    × (marks_good (fields_of header) marker ≡ true
    → (run_write_says header marker frames n ≡ No number place)
    × (run_read_says header marker slots n ≡ No number place)
    × (find_says header marker capture ≡ No number place)
    × (find_from_says header marker capture s ≡ No number place))

-- ---- "Question 20 is put to every call that is lent a header, Card 1's search too": of the search, the cut, the steps of the delay lines and the way
-- back, where what comes before it passes. The run calls have it in Demand1 and Card5; any other call that is lent ten bytes of header puts all of
-- `header_says`, which ends with it, in its card's `..-asks`

abbrev pub FactorRefused : Type 0
FactorRefused =
    (header marker capture : List ℕ) (capture_length s n q : ℕ) → form_says header ≡ Done → copies_good (fields_of header).copies ≡ false
    → (marks_good (fields_of header) marker ≡ true
    → (find_says header marker capture ≡ No 20 0) × (find_from_says header marker capture s ≡ No 20 0))
    × (cut_says header capture_length s n ≡ No 20 0)
    × (step_says header q n ≡ No 20 0)
    × (narrow_says header n ≡ No 20 0)

-- ---- what is promised, all of it: a part of the contract of `card_6`
pub record HeaderRefusals : Type 0 where
  pub header_refused : HeaderRefused
  pub factor_refused : FactorRefused
