-- The proofs of card 9.
use mathlib.Core.Path.{◌≡◌, refl}
use lib.Dec.{ltb}
use lib.ListN.{length}
use borrow.Author.Tests.{lt-ltb}
use Rattle.answers.specs.Answer.{Answer, Done, ask}
use Rattle.answers.proofs.Laws.Answer.{then_when, ask_yes}
use Rattle.sizes.specs.Sizes.{info_bits}
use Rattle.word.proofs.Laws.Exports as word_laws
use Rattle.header.specs.Header.{fields_of}
use Rattle.header.specs.declared.Fields.{Fields}
use Rattle.header_sizes.specs.Quantities.{fill_bits}
use Rattle.header_sizes.proofs.Laws.Bounds.{fill_sum, fill_few}
use Rattle.header_convert.proofs.Laws.Theorems as trip_laws
use Rattle.plan.specs.Lengths.{call_says}
use Rattle.plan.proofs.Laws.Accepted.{ready}
use Rattle.stream_reader.specs.Frames.{frames_say}
use Rattle.run.specs.Run as runs
use Rattle.run.specs.Run.{run_read_says}
use Rattle.run.proofs.Laws.Return as run_laws
use Rattle.capture_search.proofs.Laws.Search as search_laws
use Rattle.capture_cut.proofs.Laws.Cut as cut_laws
use Rattle.pass.proofs.Laws.Answers as pass_laws
use Rattle.spread.proofs.Laws.Spread as spread_laws
use Rattle.fades.proofs.Laws.Fades as fade_laws
use Rattle.promises_calls.specs.Card9.{Card9, FewFillBits, Asked17, WordWriteNot17, WordReadNot17, RunWriteNot17, RunReadNot17, PassWriteNot17, PassReadNot17, SpreadNot17, FindNot17, CutNot17, WidenNot17, NarrowNot17, FadesNot17}

pub few_fill_bits : FewFillBits
few_fill_bits header marker n s e =
    let f : Fields = fields_of header in
    let v = (ready header marker n s e).valid in
    (fill_sum f v, fill_few f v)

pub asked_17 : Asked17
unfolding run_read_says runs.buffer_says runs.stream_says frames_say
asked_17 header marker slots n f word ef ew =
    rw (ef, ew)
    (then_when (call_says header marker n (length slots)) _ _ (λ e.
    let few = (few_fill_bits header marker n (length slots) e).1 in
    let asked : Answer = ask (ltb (fill_bits (fields_of header)) (info_bits (fields_of header).rate)) 17 0 in
    let yes : asked ≡ Done = ask_yes _ 17 0 (lt-ltb (fill_bits (fields_of header)) (info_bits (fields_of header).rate) few) in
    rw yes refl))

pub word_write_not_17 : WordWriteNot17
word_write_not_17 rate block n = (word_laws.write_fits rate block n).listed

pub word_read_not_17 : WordReadNot17
word_read_not_17 rate word n = (word_laws.read_fits rate word n).listed

pub run_write_not_17 : RunWriteNot17
run_write_not_17 header marker frames n = (run_laws.write_fits header marker frames n).listed

pub run_read_not_17 : RunReadNot17
run_read_not_17 header marker slots n = (run_laws.read_fits header marker slots n).listed

pub pass_write_not_17 : PassWriteNot17
pass_write_not_17 rate blocks n = (pass_laws.write_fits rate blocks n).listed

pub pass_read_not_17 : PassReadNot17
pass_read_not_17 rate slice n = (pass_laws.read_fits rate slice n).listed

pub spread_not_17 : SpreadNot17
spread_not_17 rate bit n = (spread_laws.spread_fits rate bit n).listed

pub find_not_17 : FindNot17
find_not_17 header marker capture from = ((search_laws.find_fits header marker capture 0).listed, (search_laws.find_fits header marker capture from).listed)

pub cut_not_17 : CutNot17
cut_not_17 header capture_length s slots_length = (cut_laws.cut_fits header capture_length s slots_length).listed

pub widen_not_17 : WidenNot17
widen_not_17 old n = (trip_laws.widen_fits old n).listed

pub narrow_not_17 : NarrowNot17
narrow_not_17 header n = (trip_laws.narrow_fits header n).listed

pub fades_not_17 : FadesNot17
fades_not_17 header fades n = (fade_laws.fades_fit header fades n).listed

-- all of it
pub card_9 : Card9
card_9 = record {
  few_fill_bits = few_fill_bits;
  asked_17 = asked_17;
  word_write_not_17 = word_write_not_17;
  word_read_not_17 = word_read_not_17;
  run_write_not_17 = run_write_not_17;
  run_read_not_17 = run_read_not_17;
  pass_write_not_17 = pass_write_not_17;
  pass_read_not_17 = pass_read_not_17;
  spread_not_17 = spread_not_17;
  find_not_17 = find_not_17;
  cut_not_17 = cut_not_17;
  widen_not_17 = widen_not_17;
  narrow_not_17 = narrow_not_17;
  fades_not_17 = fades_not_17;
}
