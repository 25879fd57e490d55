-- The code makes the coded bits of the input bits.
use mathlib.Core.Path.{◌∙◌}
use Rattle.word.proofs.Laws.Lists.{coded_list}
use Rattle.word_writer.proofs.encode.Goals as goal

pub returns : goal.returns
returns c =
    let s = c in
    let t = c.take_in in
    c.encode.ensures ∙ coded_list s.args.rate s.args.block.now t.new.input s.requires.inputs.rate_is t.ensures
