-- The code of the answer, which fits.
use mathlib.Core.Path.{ap, ◌∙◌}
use Rattle.answers.specs.Answer.{code_of}
use Rattle.rack.proofs.Laws.Answers.{says_fits}
use Rattle.c_calls.proofs.mahyrei_rack_load.Goals as goal

pub code-requires : goal.code-requires
code-requires c = rw c.load.ensures.value (says_fits _ _)

pub returns : goal.returns
returns c =
    let r = c.load in
    record {
      value = c.code.ensures ∙ ap code_of r.ensures.value;
      area_after = r.ensures.area_after;
    }
