-- The proofs of the edges.
use mathlib.Core.Path.{refl}
use Rattle.bits.specs.Pack.{val, bit_at}
use Rattle.sizes.specs.Sizes.{info_bits}
use Rattle.header.specs.Header.{field, fields_of, spare_of}
use Rattle.header_sizes.specs.Quantities.{pulse_order, symbols_per_word, marked_bits, block_count, interleaver_delay, sequence_length, line_count, symbol_count, slots_per_symbol, slot_count, slot_bytes, frame_bytes}
use Rattle.header_questions.specs.Questions.{question1, question2, question3, question4, question5, question6, question7, copies_good, fields_say, form_says, header_says}
use Rattle.plan.specs.Lengths.{run_lengths_right}
use Rattle.promises_headers.specs.Edges.{Edges, ExampleHeader, OtherHeaders, ExampleFields, RateEdges, OrderEdges, RowEdges, StepEdges, MultipleEdges, FrameEdges, MarkerEdges, NumbersInOrder, FactorsAll, ExampleLengths, OtherLengths, SlotLengths}

pub example_header : ExampleHeader
unfolding header_says form_says fields_say question1 question2 question3 question4 question5 question6 question7 copies_good fields_of spare_of field val bit_at symbols_per_word interleaver_delay
example_header = refl

pub other_headers : OtherHeaders
unfolding header_says form_says question1 spare_of field val bit_at
other_headers = (refl, refl, refl, refl, refl)

pub example_fields_lem : ExampleFields
unfolding fields_of field val bit_at
example_fields_lem = refl

-- ---- the ends of the ranges

pub rate_edges : RateEdges
unfolding header_says form_says fields_say question1 question2 question3 question4 question5 question6 question7 copies_good fields_of spare_of field val bit_at symbols_per_word interleaver_delay
rate_edges = (refl, refl)

pub order_edges : OrderEdges
unfolding header_says form_says fields_say question1 question2 question3 question4 question5 question6 question7 copies_good fields_of spare_of field val bit_at symbols_per_word interleaver_delay
order_edges = (refl, refl, refl, refl)

pub row_edges : RowEdges
unfolding header_says form_says fields_say question1 question2 question3 question4 question5 question6 question7 copies_good fields_of spare_of field val bit_at symbols_per_word interleaver_delay
row_edges = (refl, refl, refl, refl)

pub step_edges : StepEdges
unfolding header_says form_says fields_say question1 question2 question3 question4 question5 question6 question7 copies_good fields_of spare_of field val bit_at symbols_per_word interleaver_delay
step_edges = (refl, refl, refl)

pub multiple_edges : MultipleEdges
unfolding header_says form_says fields_say question1 question2 question3 question4 question5 question6 question7 copies_good fields_of spare_of field val bit_at symbols_per_word interleaver_delay
multiple_edges = (refl, refl, refl, refl)

pub frame_edges : FrameEdges
unfolding header_says form_says fields_say question1 question2 question3 question4 question5 question6 question7 copies_good fields_of spare_of field val bit_at symbols_per_word interleaver_delay
frame_edges = (refl, refl, refl, refl, refl, refl)

pub marker_edges : MarkerEdges
unfolding header_says form_says fields_say question1 question2 question3 question4 question5 question6 question7 copies_good fields_of spare_of field val bit_at symbols_per_word interleaver_delay
marker_edges = (refl, refl, refl)

pub numbers_in_order : NumbersInOrder
unfolding header_says form_says fields_say question1 question2 question3 question4 question5 question6 question7 copies_good fields_of spare_of field val bit_at symbols_per_word interleaver_delay
numbers_in_order = (refl, refl, refl, refl, refl, refl, refl, refl, refl)

pub factors_all : FactorsAll
unfolding copies_good
factors_all = refl

-- ---- the lengths

pub example_lengths : ExampleLengths
unfolding run_lengths_right slot_bytes slot_count frame_bytes slots_per_symbol pulse_order symbol_count line_count sequence_length block_count marked_bits symbols_per_word interleaver_delay info_bits
example_lengths = refl

pub other_lengths : OtherLengths
unfolding run_lengths_right slot_bytes slot_count frame_bytes slots_per_symbol pulse_order symbol_count line_count sequence_length block_count marked_bits symbols_per_word interleaver_delay info_bits
other_lengths = (refl, refl, refl, refl, refl, refl)

pub slot_lengths : SlotLengths
unfolding slot_bytes slot_count slots_per_symbol pulse_order symbol_count line_count sequence_length block_count marked_bits symbols_per_word interleaver_delay info_bits
slot_lengths = (refl, refl, refl, refl)

-- all of it
pub edges : Edges
edges = record {
  example_header = example_header;
  other_headers = other_headers;
  example_fields_lem = example_fields_lem;
  rate_edges = rate_edges;
  order_edges = order_edges;
  row_edges = row_edges;
  step_edges = step_edges;
  multiple_edges = multiple_edges;
  frame_edges = frame_edges;
  marker_edges = marker_edges;
  numbers_in_order = numbers_in_order;
  factors_all = factors_all;
  example_lengths = example_lengths;
  other_lengths = other_lengths;
  slot_lengths = slot_lengths;
}
