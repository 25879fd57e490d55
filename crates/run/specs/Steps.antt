-- The run's steps and questions under one roof, in the specification's order (docs/SPECIFICATION.md). Each is the definition of the crate that has it, for a header and its marker symbols; the laws say how each is made of the one before, and that a run and the reader's answer are made of these and nothing else.
use Rattle.std.specs.Prelude.{List, ℕ}
use Rattle.word.specs.Word.{word_of}
use Rattle.header.specs.Header.{fields_of}
use Rattle.plan.specs.Plan.{plan_in}
use Rattle.stream_writer.specs.Stream.{stream_bit, block_at}
use Rattle.slots.specs.Writing.{data_symbol, placed_symbol, symbol_at, run_slot}

module _ (header marker frames : List ℕ) where
  -- step 1: bit x of the marked frames and the fill after them; block j, packed
  abbrev pub step1 : ℕ → ℕ
  step1 x = stream_bit (fields_of header).size (fields_of header).frames frames x

  abbrev pub block : ℕ → List ℕ
  block j = block_at (fields_of header).rate step1 j

  -- step 7, and then steps 2 to 6: word j
  abbrev pub word : ℕ → List ℕ
  word j = word_of (fields_of header).rate (block j)

  -- step 8: symbol t of all words
  abbrev pub step8 : ℕ → ℕ
  step8 t = data_symbol (plan_in header marker) word t

  abbrev pub standing : ℕ → ℕ
  standing x = placed_symbol (plan_in header marker) word x

  -- step 10: symbol s with markers counted, and slot x
  abbrev pub step10 : ℕ → ℕ
  step10 s = symbol_at (plan_in header marker) word s

  abbrev pub slot : ℕ → ℕ
  slot x = run_slot (plan_in header marker) word x
