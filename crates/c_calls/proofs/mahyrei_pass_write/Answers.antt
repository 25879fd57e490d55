-- The code of the answer, which fits.
use mathlib.Core.Path.{ap, ◌∙◌}
use lib.ListN.{length}
use Rattle.answers.specs.Answer.{Answer, code_of, after}
use Rattle.pass.specs.Pass.{words_of}
use Rattle.pass.proofs.Laws.Answers.{write_fits}
use Rattle.c_calls.proofs.mahyrei_pass_write.Goals as goal

pub code-requires : goal.code-requires
code-requires c =
    let a = c.args in
    rw c.write.ensures.value (write_fits a.rate a.blocks.now (length a.words.now))

pub returns : goal.returns
returns c =
    let a = c.args in
    let r = c.write in record {
      value = c.code.ensures ∙ ap code_of r.ensures.value;
      words_after = r.ensures.words_after ∙ ap (λ (x : Answer). after x (words_of a.rate a.blocks.now) a.words.now) r.ensures.value;
    }
