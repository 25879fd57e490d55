-- The code of the answer, which fits.
use mathlib.Core.Path.{ap, ◌∙◌}
use lib.ListN.{length}
use Rattle.answers.specs.Answer.{Answer, code_of, after}
use Rattle.header_convert.specs.Convert.{narrowed}
use Rattle.header_convert.proofs.Laws.Theorems.{narrow_fits}
use Rattle.c_calls.proofs.mahyrei_header_narrow.Goals as goal

pub code-requires : goal.code-requires
code-requires c =
    let a = c.args in
    rw c.narrow.ensures.value (narrow_fits a.ten.now (length a.eight.now))

pub returns : goal.returns
returns c =
    let a = c.args in
    let r = c.narrow in record {
      value = c.code.ensures ∙ ap code_of r.ensures.value;
      eight_after = r.ensures.eight_after ∙ ap (λ (x : Answer). after x (narrowed a.ten.now) a.eight.now) r.ensures.value;
    }
