-- The code of the answer, which fits.
use mathlib.Core.Path.{ap, ◌∙◌}
use lib.ListN.{length}
use Rattle.answers.specs.Answer.{Answer, code_of, after}
use Rattle.header.specs.Header.{fields_of}
use Rattle.capture_cut.specs.Cut.{cut_of}
use Rattle.capture_cut.proofs.Laws.Cut.{cut_fits}
use Rattle.c_calls.proofs.mahyrei_run_cut.Goals as goal

pub code-requires : goal.code-requires
code-requires c =
    let a = c.args in
    rw c.cut_out.ensures.value (cut_fits a.header.now (length a.capture.now) a.slot (length a.slots.now))

pub returns : goal.returns
returns c =
    let a = c.args in
    let r = c.cut_out in record {
      value = c.code.ensures ∙ ap code_of r.ensures.value;
      slots_after = r.ensures.slots_after ∙ ap (λ (x : Answer). after x (cut_of (fields_of a.header.now) a.capture.now a.slot) a.slots.now) r.ensures.value;
    }
