-- The code of the answer, which fits.
use mathlib.Core.Path.{ap, ◌∙◌}
use lib.ListN.{length}
use Rattle.answers.specs.Answer.{Answer, code_of, after}
use Rattle.fades.specs.Fades.{counts_in}
use Rattle.fades.proofs.Laws.Fades.{fades_fit}
use Rattle.c_calls.proofs.mahyrei_fades_count.Goals as goal

pub code-requires : goal.code-requires
code-requires c =
    let a = c.args in
    rw c.count.ensures.value (fades_fit a.header.now a.fades.now (length a.counts.now))

pub returns : goal.returns
returns c =
    let a = c.args in
    let r = c.count in record {
      value = c.code.ensures ∙ ap code_of r.ensures.value;
      counts_after = r.ensures.counts_after ∙ ap (λ (x : Answer). after x (counts_in a.header.now a.fades.now) a.counts.now) r.ensures.value;
    }
