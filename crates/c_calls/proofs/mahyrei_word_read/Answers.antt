-- The code of the answer, which fits.
use mathlib.Core.Path.{ap, ◌∙◌}
use lib.ListN.{length}
use Rattle.answers.specs.Answer.{Answer, code_of, after}
use Rattle.word.specs.Word.{block_in}
use Rattle.word.proofs.Laws.Exports.{read_fits}
use Rattle.c_calls.proofs.mahyrei_word_read.Goals as goal

pub code-requires : goal.code-requires
code-requires c =
    let a = c.args in
    rw c.read.ensures.value (read_fits a.rate a.word.now (length a.block.now))

pub returns : goal.returns
returns c =
    let a = c.args in
    let r = c.read in record {
      value = c.code.ensures ∙ ap code_of r.ensures.value;
      block_after = r.ensures.block_after ∙ ap (λ (x : Answer). after x (block_in a.rate a.word.now) a.block.now) r.ensures.value;
    }
