-- Question 8, and with it all that a call asks before it looks at frames or slots.
use Rattle.std.specs.Prelude.{Bool, List, ℕ, eqb, length}
use Rattle.bits.specs.Basics.{both}
use Rattle.answers.specs.Answer.{Answer, ask, then}
use Rattle.header.specs.Header.{fields_of}
use Rattle.header_sizes.specs.Quantities.{marker_bytes, frame_bytes, slot_bytes}
use Rattle.header_questions.specs.Questions.{run_says}
use Rattle.header.specs.declared.Fields.{Fields}

-- 8: does every slice have exactly the length that the header implies?
unfoldable pub run_lengths_right : Fields → ℕ → ℕ → ℕ → Bool
run_lengths_right f marker_length frames_length slots_length =
    both (eqb marker_length (marker_bytes f)) (both (eqb frames_length (frame_bytes f)) (eqb slots_length (slot_bytes f)))

-- questions 1 to 7, 20 and 8 of a call on frames and slots
unfoldable pub call_says : List ℕ → List ℕ → ℕ → ℕ → Answer
call_says header marker frames_length slots_length =
    then (run_says header marker)
    (ask (run_lengths_right (fields_of header) (length marker) frames_length slots_length) 8 0)
