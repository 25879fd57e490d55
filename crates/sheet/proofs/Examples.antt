-- The specification's example: antt computes its line, and the line of no input.
use mathlib.Core.Path.{◌≡◌, refl}
use mathlib.Core.List.{[], ◌∷◌}
use Rattle.bits.specs.Pack.{val, bit_at}
use Rattle.sizes.specs.Sizes.{info_bits, inputs_per, coded_per}
use Rattle.header.specs.Header.{field, fields_of, spare_of}
use Rattle.header_sizes.specs.Quantities.{pulse_order, symbols_per_word, marked_bits, block_count, interleaver_delay, sequence_length, line_count, symbol_count, sent_symbols, slots_per_symbol, slot_count}
use Rattle.header_questions.specs.Questions.{question1, question2, question3, question4, question5, question6, question7, copies_good, fields_say, form_says, header_says}
use Rattle.sheet.specs.Text.{decimal_in, decimal, item, items}
use Rattle.sheet.specs.Line.{rate_text, run_numbers, run_line, no_line, line_of}

-- `1/2 64 84 120 223 16 2 1 844488 67559040 1` for 59 50 F0 1B E8 02 04 00 00 00
pub example : line_of (89 ∷ 80 ∷ 240 ∷ 27 ∷ 232 ∷ 2 ∷ 4 ∷ 0 ∷ 0 ∷ 0 ∷ []) ≡ 49 ∷ 47 ∷ 50 ∷ 32 ∷ 54 ∷ 52 ∷ 32 ∷ 56 ∷ 52 ∷ 32 ∷ 49 ∷ 50 ∷ 48 ∷ 32 ∷ 50 ∷ 50 ∷ 51 ∷ 32 ∷ 49 ∷ 54 ∷ 32 ∷ 50 ∷ 32 ∷ 49 ∷ 32 ∷ 56 ∷ 52 ∷ 52 ∷ 52 ∷ 56 ∷ 56 ∷ 32 ∷ 54 ∷ 55 ∷ 53 ∷ 53 ∷ 57 ∷ 48 ∷ 52 ∷ 48 ∷ 32 ∷ 49 ∷ 10 ∷ []
unfolding line_of run_line rate_text run_numbers decimal decimal_in item items header_says form_says fields_say question1 question2 question3 question4 question5 question6 question7 copies_good fields_of spare_of field val bit_at pulse_order symbols_per_word marked_bits block_count interleaver_delay sequence_length line_count symbol_count sent_symbols slots_per_symbol slot_count info_bits inputs_per coded_per
example = refl

-- `1/2 64 84 120 223 16 2 1 2533464 202677120 3` where the factor is 3
pub example_3 : line_of (89 ∷ 80 ∷ 240 ∷ 27 ∷ 232 ∷ 2 ∷ 12 ∷ 0 ∷ 0 ∷ 0 ∷ []) ≡ 49 ∷ 47 ∷ 50 ∷ 32 ∷ 54 ∷ 52 ∷ 32 ∷ 56 ∷ 52 ∷ 32 ∷ 49 ∷ 50 ∷ 48 ∷ 32 ∷ 50 ∷ 50 ∷ 51 ∷ 32 ∷ 49 ∷ 54 ∷ 32 ∷ 50 ∷ 32 ∷ 49 ∷ 32 ∷ 50 ∷ 53 ∷ 51 ∷ 51 ∷ 52 ∷ 54 ∷ 52 ∷ 32 ∷ 50 ∷ 48 ∷ 50 ∷ 54 ∷ 55 ∷ 55 ∷ 49 ∷ 50 ∷ 48 ∷ 32 ∷ 51 ∷ 10 ∷ []
unfolding line_of run_line rate_text run_numbers decimal decimal_in item items header_says form_says fields_say question1 question2 question3 question4 question5 question6 question7 copies_good fields_of spare_of field val bit_at pulse_order symbols_per_word marked_bits block_count interleaver_delay sequence_length line_count symbol_count sent_symbols slots_per_symbol slot_count info_bits inputs_per coded_per
example_3 = refl

-- `no 1`
pub no_input : line_of [] ≡ 110 ∷ 111 ∷ 32 ∷ 49 ∷ 10 ∷ []
unfolding line_of no_line decimal decimal_in item items header_says form_says question1 spare_of
no_input = refl
