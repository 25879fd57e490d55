-- Finding a start in a capture: the earliest slot, from a given one on, at which the whole marker begins, and question 19. Every bit of a capture b is a
-- slot.
use Rattle.std.specs.Prelude.{Bool, List, ℕ, ◌*◌, ◌^◌, ◌+◌, ◌≤◌, ◌<◌, ltb, leb, eqb, length, get_or, ◌≡◌}
use Rattle.bits.specs.Basics.{both, bool}
use Rattle.answers.specs.Answer.{Answer, code_with, ask, then}
use Rattle.header.specs.Header.{fields_of}
use Rattle.header.specs.declared.Fields.{Fields}
use Rattle.header_sizes.specs.Quantities.{marker_bytes, slots_per_symbol}
use Rattle.header_questions.specs.Questions.{run_says}
use Rattle.plan.specs.declared.Plan.{Plan}
use Rattle.plan.specs.Plan.{plan_in}
use Rattle.pulses.specs.Pulses.{slot_bit}
use Rattle.pattern_search.specs.Starts.{starts, earliest}
use Rattle.bits.specs.Pack.{bit_at}

-- ---- the marker of a run: the slots of its W symbols, guard slots included (step 10)

abbrev pub marker_slots : Plan → ℕ
marker_slots p = p.layout.markers * p.group

abbrev pub marker_slot : Plan → ℕ → ℕ
marker_slot p = slot_bit p.group p.layout.markers (λ w. get_or p.marks w 0)

-- the earliest slot, from a given one on, at which they begin, all of them; where there is none, a number too high for a start
abbrev pub first_fit_from : Plan → List ℕ → ℕ → ℕ
first_fit_from p b from = earliest (marker_slot p) (marker_slots p) b from

-- and over the whole capture
abbrev pub first_fit : Plan → List ℕ → ℕ
first_fit p b = first_fit_from p b 0

-- ---- the call

-- the longest capture, in bytes: its slots can be counted in the 56 bits that a place has
abbrev pub capture_most : ℕ
capture_most = 2 ^ 53

-- 8: has the marker as many symbols as the header says, and the capture no more bytes than it may?
unfoldable pub find_lengths_right : Fields → ℕ → ℕ → Bool
find_lengths_right f marker_length capture_length = both (eqb marker_length (marker_bytes f)) (leb capture_length capture_most)

-- 19: does the marker begin at any slot from `from` on?
unfoldable pub slot_says : Plan → List ℕ → ℕ → Answer
slot_says p b from = ask (ltb (first_fit_from p b from) (starts (marker_slots p) b)) 19 0

-- all questions: 1 to 7, 20, 8 and 19
unfoldable pub find_from_says : List ℕ → List ℕ → List ℕ → ℕ → Answer
find_from_says header marker b from =
    then (run_says header marker)
    (then (ask (find_lengths_right (fields_of header) (length marker) (length b)) 8 0)
    (slot_says (plan_in header marker) b from))

-- C gets an acceptance with its slot as the place
abbrev pub find_from_code : List ℕ → List ℕ → List ℕ → ℕ → ℕ
find_from_code header marker b from = code_with (find_from_says header marker b from) (first_fit_from (plan_in header marker) b from)

-- the search of the whole capture
abbrev pub find_says : List ℕ → List ℕ → List ℕ → Answer
find_says header marker b = find_from_says header marker b 0

abbrev pub find_code : List ℕ → List ℕ → List ℕ → ℕ
find_code header marker b = find_from_code header marker b 0

-- What the search's answer says of the capture, in terms of the header, the lent marker symbols and the capture's bits alone.

-- the whole marker begins at slot x: its W symbols of M + M/4 slots lie in the capture, and a slot has a pulse if it is the symbol, and none if not
pub record MarkerAt (header marker b : List ℕ) (x : ℕ) : Type 0 where
  pub inside : x + (fields_of header).markers * slots_per_symbol (fields_of header) ≤ 8 * length b
  pub slot : (w r : ℕ) → w < (fields_of header).markers → r < slots_per_symbol (fields_of header)
      → bit_at b (x + (w * slots_per_symbol (fields_of header) + r)) ≡ bool (eqb r (get_or marker w 0))
