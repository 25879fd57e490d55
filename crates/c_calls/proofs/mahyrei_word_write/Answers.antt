-- The code of the answer, which fits.
use mathlib.Core.Path.{ap, ◌∙◌}
use lib.ListN.{length}
use Rattle.answers.specs.Answer.{Answer, code_of, after}
use Rattle.word.specs.Word.{word_of}
use Rattle.word.proofs.Laws.Exports.{write_fits}
use Rattle.c_calls.proofs.mahyrei_word_write.Goals as goal

pub code-requires : goal.code-requires
code-requires c =
    let a = c.args in
    rw c.write.ensures.value (write_fits a.rate a.block.now (length a.word.now))

pub returns : goal.returns
returns c =
    let a = c.args in
    let r = c.write in record {
      value = c.code.ensures ∙ ap code_of r.ensures.value;
      word_after = r.ensures.word_after ∙ ap (λ (x : Answer). after x (word_of a.rate a.block.now) a.word.now) r.ensures.value;
    }
