-- The code of the answer, which fits.
use mathlib.Core.Path.{ap, ◌∙◌}
use lib.ListN.{length}
use Rattle.answers.specs.Answer.{Answer, code_of, after}
use Rattle.header_convert.specs.Convert.{widened}
use Rattle.header_convert.proofs.Laws.Theorems.{widen_fits}
use Rattle.c_calls.proofs.mahyrei_header_widen.Goals as goal

pub code-requires : goal.code-requires
code-requires c =
    let a = c.args in
    rw c.widen.ensures.value (widen_fits a.eight.now (length a.ten.now))

pub returns : goal.returns
returns c =
    let a = c.args in
    let r = c.widen in record {
      value = c.code.ensures ∙ ap code_of r.ensures.value;
      ten_after = r.ensures.ten_after ∙ ap (λ (x : Answer). after x (widened a.eight.now) a.ten.now) r.ensures.value;
    }
