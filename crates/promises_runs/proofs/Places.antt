-- The places of refusals, all of them: theorems, and worked values of words.
use Rattle.promises_runs.proofs.PlacesHold.{place_of_10, place_of_10_once, place_of_11, place_of_12, place_of_13_to_15, place_of_16, spare_is_9, fill_is_18, word_place_of_13, word_is_14, word_is_15, pass_place, place_of_28, place_of_29}
use Rattle.promises_runs.proofs.WordValues.{read_bit_two, zero_word_refused}
use Rattle.promises_runs.specs.Places.{Places}

pub places : Places
places = record {
  place_of_10 = place_of_10;
  place_of_10_once = place_of_10_once;
  place_of_11 = place_of_11;
  place_of_12 = place_of_12;
  place_of_13_to_15 = place_of_13_to_15;
  place_of_16 = place_of_16;
  spare_is_9 = spare_is_9;
  fill_is_18 = fill_is_18;
  word_place_of_13 = word_place_of_13;
  word_is_14 = word_is_14;
  word_is_15 = word_is_15;
  read_bit_two = read_bit_two;
  zero_word_refused = zero_word_refused;
  pass_place = pass_place;
  place_of_28 = place_of_28;
  place_of_29 = place_of_29;
}
