-- Two steps on packed bytes, one after the other.
use lib.ListN.{get_or}
use Rattle.word.proofs.Laws.Word.{shuffled_made}
use Rattle.word_writer.proofs.shuffle.Goals as goal

pub returns : goal.returns
returns c =
    let s = c in
    let w1 = c.interleave in
    let w2 = c.accumulate in
    shuffled_made (λ j. get_or s.args.coded.now j 0) w1.new.word w2.new.word s.requires.bits_are w1.ensures w2.ensures
