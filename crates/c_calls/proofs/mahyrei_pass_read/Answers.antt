-- The code of the answer, which fits.
use mathlib.Core.Path.{ap, ◌∙◌}
use lib.ListN.{length}
use Rattle.answers.specs.Answer.{Answer, code_of, after}
use Rattle.pass.specs.Pass.{blocks_of}
use Rattle.pass.proofs.Laws.Answers.{read_fits}
use Rattle.c_calls.proofs.mahyrei_pass_read.Goals as goal

pub code-requires : goal.code-requires
code-requires c =
    let a = c.args in
    rw c.read.ensures.value (read_fits a.rate a.words.now (length a.blocks.now))

pub returns : goal.returns
returns c =
    let a = c.args in
    let r = c.read in record {
      value = c.code.ensures ∙ ap code_of r.ensures.value;
      blocks_after = r.ensures.blocks_after ∙ ap (λ (x : Answer). after x (blocks_of a.rate a.words.now) a.blocks.now) r.ensures.value;
    }
