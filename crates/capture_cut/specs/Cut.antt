-- The slots of a run from a capture: as many as the header says, copies counted, from any slot on, repacked with spare bits of 0.
use Rattle.std.specs.Prelude.{Bool, List, ℕ, ◌+◌, ◌*◌, ◌≤◌, ◌<◌, leb, eqb, ◌≡◌, length}
use Rattle.bits.specs.Pack.{bit_at, bytes_of, cut}
use Rattle.bits.specs.Basics.{both}
use Rattle.answers.specs.Answer.{Answer, after, ask, then}
use Rattle.header.specs.Header.{fields_of}
use Rattle.header.specs.declared.Fields.{Fields}
use Rattle.header_sizes.specs.Quantities.{slot_count, slot_bytes}
use Rattle.header_questions.specs.Questions.{header_says}
use Rattle.capture_search.specs.Search.{capture_most}
use Rattle.header_sizes.specs.Quantities as quantities
use Rattle.run.specs.Run.{run_of}
use Rattle.run.specs.Steps.{slot}

-- the run's slots of a capture b from slot s on
unfoldable pub cut_of : Fields → List ℕ → ℕ → List ℕ
cut_of f b s = bytes_of (slot_bytes f) (cut (slot_count f) (λ i. bit_at b (s + i)))

-- 8: is the capture not too long, does the slice for the slots have its length, and are they within the capture?
unfoldable pub cut_lengths_right : Fields → ℕ → ℕ → ℕ → Bool
cut_lengths_right f capture_length s slots_length =
    both (leb capture_length capture_most) (both (eqb slots_length (slot_bytes f)) (leb (s + slot_count f) (8 * capture_length)))

-- the questions: 1 to 7 and 20 of the header alone, and 8
unfoldable pub cut_says : List ℕ → ℕ → ℕ → ℕ → Answer
cut_says header capture_length s slots_length = then (header_says header) (ask (cut_lengths_right (fields_of header) capture_length s slots_length) 8 0)

-- what the slice lent for the result holds afterwards: the result on acceptance, otherwise what it held
abbrev pub cut_after : List ℕ → List ℕ → ℕ → List ℕ → List ℕ
cut_after header capture slot old = after (cut_says header (length capture) slot (length old)) (cut_of (fields_of header) capture slot) old

-- A sound run in a capture is cut out of it as it was written, and read; where each symbol is sent once, it is found at its first slot.

-- the run of these frames begins at slot s: all its slots are in the capture, as they were written; whatever else is there is free
pub record RunAt (header marker frames b : List ℕ) (s : ℕ) : Type 0 where
  pub inside : s + quantities.slot_count (fields_of header) ≤ 8 * length b
  pub slot : (i : ℕ) → i < quantities.slot_count (fields_of header) → bit_at b (s + i) ≡ bit_at (run_of header marker frames) i
