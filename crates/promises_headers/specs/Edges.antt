-- Edges of questions 1 to 8 and 20 in figures, which antt computes: the specification's example, 59 50 F0 1B E8 02 04 00 00 00, with its 16 marker symbols, two
-- frames of 223 bytes and 8,444,880 bytes of slots; and headers at the ends of each range.
use Rattle.std.specs.Prelude.{◌≡◌, Bool, true, false, List, [], ◌∷◌, ◌++◌, ℕ, zero, suc}
use Rattle.bits.specs.Basics.{pick}
use Rattle.answers.specs.Answer.{Done, No}
use Rattle.header.specs.Header.{fields_of}
use Rattle.header.specs.declared.Fields.{Fields}
use Rattle.header_sizes.specs.Quantities.{slot_count, slot_bytes}
use Rattle.header_questions.specs.Questions.{copies_good, header_says}
use Rattle.plan.specs.Lengths.{run_lengths_right}

-- question 1: ten bytes, the last 26 bits zero; eleven bytes, nine, an archived header's eight, or a bit set get 1
abbrev pub ExampleHeader : Type 0
ExampleHeader = header_says (89 ∷ 80 ∷ 240 ∷ 27 ∷ 232 ∷ 2 ∷ 4 ∷ 0 ∷ 0 ∷ 0 ∷ []) ≡ Done

abbrev pub OtherHeaders : Type 0
OtherHeaders =
    (header_says (89 ∷ 80 ∷ 240 ∷ 27 ∷ 232 ∷ 2 ∷ 4 ∷ 0 ∷ 0 ∷ 0 ∷ 0 ∷ []) ≡ No 1 0)
    × (header_says (89 ∷ 80 ∷ 240 ∷ 27 ∷ 232 ∷ 2 ∷ 4 ∷ 0 ∷ 0 ∷ []) ≡ No 1 0)
    × (header_says (89 ∷ 80 ∷ 240 ∷ 27 ∷ 232 ∷ 2 ∷ 0 ∷ 0 ∷ []) ≡ No 1 0)
    × (header_says (89 ∷ 80 ∷ 240 ∷ 27 ∷ 232 ∷ 2 ∷ 4 ∷ 0 ∷ 0 ∷ 1 ∷ []) ≡ No 1 0)
    × (header_says (89 ∷ 80 ∷ 240 ∷ 27 ∷ 232 ∷ 2 ∷ 6 ∷ 0 ∷ 0 ∷ 0 ∷ []) ≡ No 1 0)

-- its fields
abbrev pub example : Fields
example = record { rate = 1; bits = 6; rows = 84; step = 120; size = 223; markers = 16; frames = 2; copies = 1 }

abbrev pub ExampleFields : Type 0
ExampleFields = fields_of (89 ∷ 80 ∷ 240 ∷ 27 ∷ 232 ∷ 2 ∷ 4 ∷ 0 ∷ 0 ∷ 0 ∷ []) ≡ example

-- ---- the ends of the ranges

-- rate 2 passes, and 3 gets 2
abbrev pub RateEdges : Type 0
RateEdges =
    (header_says (0x88 ∷ 0x04 ∷ 0x02 ∷ 0x00 ∷ 0x20 ∷ 0x81 ∷ 0x04 ∷ 0x00 ∷ 0x00 ∷ 0x00 ∷ []) ≡ Done)
    × (header_says (0xC8 ∷ 0x04 ∷ 0x02 ∷ 0x00 ∷ 0x20 ∷ 0x81 ∷ 0x04 ∷ 0x00 ∷ 0x00 ∷ 0x00 ∷ []) ≡ No 2 0)

-- m 2 passes, here with rate 0 and 1 in all other fields, and so does 8; 1 and 9 get 3
abbrev pub OrderEdges : Type 0
OrderEdges =
    (header_says (0x08 ∷ 0x04 ∷ 0x02 ∷ 0x00 ∷ 0x20 ∷ 0x81 ∷ 0x04 ∷ 0x00 ∷ 0x00 ∷ 0x00 ∷ []) ≡ Done)
    × (header_says (0x20 ∷ 0x04 ∷ 0x02 ∷ 0x00 ∷ 0x20 ∷ 0x81 ∷ 0x04 ∷ 0x00 ∷ 0x00 ∷ 0x00 ∷ []) ≡ Done)
    × (header_says (0x04 ∷ 0x04 ∷ 0x02 ∷ 0x00 ∷ 0x20 ∷ 0x81 ∷ 0x04 ∷ 0x00 ∷ 0x00 ∷ 0x00 ∷ []) ≡ No 3 0)
    × (header_says (0x24 ∷ 0x04 ∷ 0x02 ∷ 0x00 ∷ 0x20 ∷ 0x81 ∷ 0x04 ∷ 0x00 ∷ 0x00 ∷ 0x00 ∷ []) ≡ No 3 0)

-- N 128 passes with m 5 and B 189, and with m 7 and B 135; 129 and 0 get 4
abbrev pub RowEdges : Type 0
RowEdges =
    (header_says (0x16 ∷ 0x01 ∷ 0x7A ∷ 0x00 ∷ 0x20 ∷ 0x81 ∷ 0x04 ∷ 0x00 ∷ 0x00 ∷ 0x00 ∷ []) ≡ Done)
    × (header_says (0x1E ∷ 0x01 ∷ 0x0E ∷ 0x00 ∷ 0x20 ∷ 0x81 ∷ 0x04 ∷ 0x00 ∷ 0x00 ∷ 0x00 ∷ []) ≡ Done)
    × (header_says (0x16 ∷ 0x05 ∷ 0x7A ∷ 0x00 ∷ 0x20 ∷ 0x81 ∷ 0x04 ∷ 0x00 ∷ 0x00 ∷ 0x00 ∷ []) ≡ No 4 0)
    × (header_says (0x08 ∷ 0x00 ∷ 0x02 ∷ 0x00 ∷ 0x20 ∷ 0x81 ∷ 0x04 ∷ 0x00 ∷ 0x00 ∷ 0x00 ∷ []) ≡ No 4 0)

-- B 256 passes, 257 and 0 get 4
abbrev pub StepEdges : Type 0
StepEdges =
    (header_says (0x08 ∷ 0x06 ∷ 0x00 ∷ 0x00 ∷ 0x20 ∷ 0x81 ∷ 0x04 ∷ 0x00 ∷ 0x00 ∷ 0x00 ∷ []) ≡ Done)
    × (header_says (0x08 ∷ 0x06 ∷ 0x02 ∷ 0x00 ∷ 0x20 ∷ 0x81 ∷ 0x04 ∷ 0x00 ∷ 0x00 ∷ 0x00 ∷ []) ≡ No 4 0)
    × (header_says (0x08 ∷ 0x04 ∷ 0x00 ∷ 0x00 ∷ 0x20 ∷ 0x81 ∷ 0x04 ∷ 0x00 ∷ 0x00 ∷ 0x00 ∷ []) ≡ No 4 0)

-- m 8 with N 10: B 21 passes, 20 gets 5; N 2 gets 5 with B 256, and N 128 with m 5 and B 188
abbrev pub MultipleEdges : Type 0
MultipleEdges =
    (header_says (0x20 ∷ 0x28 ∷ 0x2A ∷ 0x00 ∷ 0x20 ∷ 0x81 ∷ 0x04 ∷ 0x00 ∷ 0x00 ∷ 0x00 ∷ []) ≡ Done)
    × (header_says (0x20 ∷ 0x28 ∷ 0x28 ∷ 0x00 ∷ 0x20 ∷ 0x81 ∷ 0x04 ∷ 0x00 ∷ 0x00 ∷ 0x00 ∷ []) ≡ No 5 0)
    × (header_says (0x08 ∷ 0x0A ∷ 0x00 ∷ 0x00 ∷ 0x20 ∷ 0x81 ∷ 0x04 ∷ 0x00 ∷ 0x00 ∷ 0x00 ∷ []) ≡ No 5 0)
    × (header_says (0x16 ∷ 0x01 ∷ 0x78 ∷ 0x00 ∷ 0x20 ∷ 0x81 ∷ 0x04 ∷ 0x00 ∷ 0x00 ∷ 0x00 ∷ []) ≡ No 5 0)

-- F 2048 passes, 2049 and 0 get 6; A 64 passes, 65 and 0 get 6
abbrev pub FrameEdges : Type 0
FrameEdges =
    (header_says (0x08 ∷ 0x04 ∷ 0x03 ∷ 0x00 ∷ 0x00 ∷ 0x81 ∷ 0x04 ∷ 0x00 ∷ 0x00 ∷ 0x00 ∷ []) ≡ Done)
    × (header_says (0x08 ∷ 0x04 ∷ 0x03 ∷ 0x00 ∷ 0x20 ∷ 0x81 ∷ 0x04 ∷ 0x00 ∷ 0x00 ∷ 0x00 ∷ []) ≡ No 6 0)
    × (header_says (0x08 ∷ 0x04 ∷ 0x02 ∷ 0x00 ∷ 0x00 ∷ 0x81 ∷ 0x04 ∷ 0x00 ∷ 0x00 ∷ 0x00 ∷ []) ≡ No 6 0)
    × (header_says (0x08 ∷ 0x04 ∷ 0x02 ∷ 0x00 ∷ 0x20 ∷ 0xC0 ∷ 0x04 ∷ 0x00 ∷ 0x00 ∷ 0x00 ∷ []) ≡ Done)
    × (header_says (0x08 ∷ 0x04 ∷ 0x02 ∷ 0x00 ∷ 0x20 ∷ 0xC1 ∷ 0x04 ∷ 0x00 ∷ 0x00 ∷ 0x00 ∷ []) ≡ No 6 0)
    × (header_says (0x08 ∷ 0x04 ∷ 0x02 ∷ 0x00 ∷ 0x20 ∷ 0x80 ∷ 0x04 ∷ 0x00 ∷ 0x00 ∷ 0x00 ∷ []) ≡ No 6 0)

-- W 32 passes, 33 and 0 get 7
abbrev pub MarkerEdges : Type 0
MarkerEdges =
    (header_says (0x08 ∷ 0x04 ∷ 0x02 ∷ 0x00 ∷ 0x30 ∷ 0x01 ∷ 0x04 ∷ 0x00 ∷ 0x00 ∷ 0x00 ∷ []) ≡ Done)
    × (header_says (0x08 ∷ 0x04 ∷ 0x02 ∷ 0x00 ∷ 0x30 ∷ 0x81 ∷ 0x04 ∷ 0x00 ∷ 0x00 ∷ 0x00 ∷ []) ≡ No 7 0)
    × (header_says (0x08 ∷ 0x04 ∷ 0x02 ∷ 0x00 ∷ 0x20 ∷ 0x01 ∷ 0x04 ∷ 0x00 ∷ 0x00 ∷ 0x00 ∷ []) ≡ No 7 0)

-- the first no gives the number: all fields wrong and a spare bit set, and then put right one after another
abbrev pub NumbersInOrder : Type 0
NumbersInOrder =
    (header_says (0xE4 ∷ 0x00 ∷ 0x28 ∷ 0x00 ∷ 0x00 ∷ 0x00 ∷ 0x30 ∷ 0x00 ∷ 0x00 ∷ 0x01 ∷ []) ≡ No 1 0)
    × (header_says (0xE4 ∷ 0x00 ∷ 0x28 ∷ 0x00 ∷ 0x00 ∷ 0x00 ∷ 0x30 ∷ 0x00 ∷ 0x00 ∷ 0x00 ∷ []) ≡ No 2 0)
    × (header_says (0x24 ∷ 0x00 ∷ 0x28 ∷ 0x00 ∷ 0x00 ∷ 0x00 ∷ 0x30 ∷ 0x00 ∷ 0x00 ∷ 0x00 ∷ []) ≡ No 3 0)
    × (header_says (0x20 ∷ 0x00 ∷ 0x28 ∷ 0x00 ∷ 0x00 ∷ 0x00 ∷ 0x30 ∷ 0x00 ∷ 0x00 ∷ 0x00 ∷ []) ≡ No 4 0)
    × (header_says (0x20 ∷ 0x28 ∷ 0x28 ∷ 0x00 ∷ 0x00 ∷ 0x00 ∷ 0x30 ∷ 0x00 ∷ 0x00 ∷ 0x00 ∷ []) ≡ No 5 0)
    × (header_says (0x20 ∷ 0x28 ∷ 0x2A ∷ 0x00 ∷ 0x00 ∷ 0x00 ∷ 0x30 ∷ 0x00 ∷ 0x00 ∷ 0x00 ∷ []) ≡ No 6 0)
    × (header_says (0x20 ∷ 0x28 ∷ 0x2A ∷ 0x00 ∷ 0x20 ∷ 0x01 ∷ 0x30 ∷ 0x00 ∷ 0x00 ∷ 0x00 ∷ []) ≡ No 7 0)
    × (header_says (0x20 ∷ 0x28 ∷ 0x2A ∷ 0x00 ∷ 0x20 ∷ 0x81 ∷ 0x30 ∷ 0x00 ∷ 0x00 ∷ 0x00 ∷ []) ≡ No 20 0)
    × (header_says (0x20 ∷ 0x28 ∷ 0x2A ∷ 0x00 ∷ 0x20 ∷ 0x81 ∷ 0x0C ∷ 0x00 ∷ 0x00 ∷ 0x00 ∷ []) ≡ Done)

-- of the numbers that six bits can hold, seven are factors
abbrev pub passing : (ℕ → Bool) → ℕ → List ℕ
passing test zero = []
passing test (suc n) = passing test n ++ pick (test n) (n ∷ []) []

abbrev pub FactorsAll : Type 0
FactorsAll = passing copies_good 64 ≡ 1 ∷ 2 ∷ 3 ∷ 4 ∷ 8 ∷ 16 ∷ 32 ∷ []

-- ---- question 8: these lengths, and none that is one off
abbrev pub ExampleLengths : Type 0
ExampleLengths = run_lengths_right example 16 446 8444880 ≡ true

abbrev pub OtherLengths : Type 0
OtherLengths =
    (run_lengths_right example 15 446 8444880 ≡ false) × (run_lengths_right example 17 446 8444880 ≡ false)
    × (run_lengths_right example 16 445 8444880 ≡ false) × (run_lengths_right example 16 447 8444880 ≡ false)
    × (run_lengths_right example 16 446 8444879 ≡ false) × (run_lengths_right example 16 446 8444881 ≡ false)

-- a last byte with spare bits: 37,805 slots in 4,726 bytes; the largest run: 1,457,029,760 slots in 182,128,720 bytes
abbrev pub smallest : Fields
smallest = record { rate = 0; bits = 2; rows = 1; step = 1; size = 1; markers = 1; frames = 1; copies = 1 }

abbrev pub largest : Fields
largest = record { rate = 0; bits = 8; rows = 127; step = 255; size = 2048; markers = 32; frames = 64; copies = 1 }

abbrev pub SlotLengths : Type 0
SlotLengths = (slot_count smallest ≡ 37805) × (slot_bytes smallest ≡ 4726) × (slot_count largest ≡ 1457029760) × (slot_bytes largest ≡ 182128720)

-- ---- what is promised, all of it: the contract of `edges`
pub record Edges : Type 0 where
  pub example_header : ExampleHeader
  pub other_headers : OtherHeaders
  pub example_fields_lem : ExampleFields
  pub rate_edges : RateEdges
  pub order_edges : OrderEdges
  pub row_edges : RowEdges
  pub step_edges : StepEdges
  pub multiple_edges : MultipleEdges
  pub frame_edges : FrameEdges
  pub marker_edges : MarkerEdges
  pub numbers_in_order : NumbersInOrder
  pub factors_all : FactorsAll
  pub example_lengths : ExampleLengths
  pub other_lengths : OtherLengths
  pub slot_lengths : SlotLengths
