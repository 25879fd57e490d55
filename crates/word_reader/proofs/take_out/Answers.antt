-- Two steps are undone, the last first.
use Rattle.word.proofs.Laws.Word.{coded_made}
use Rattle.word_reader.proofs.take_out.Goals as goal

pub returns : goal.returns
returns c =
    let w1 = c.differentiate in
    let s = c in
    let w2 = c.deinterleave in
    coded_made s.args.word.now w1.new.inputs w2.new.coded s.requires.word_is w1.ensures w2.ensures
