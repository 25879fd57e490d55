-- The code of the answer, which fits.
use mathlib.Core.Path.{ap, ◌∙◌}
use lib.ListN.{length}
use Rattle.answers.specs.Answer.{Answer, code_of, after}
use Rattle.run.specs.Run.{frames_read}
use Rattle.run.proofs.Laws.Return.{read_fits}
use Rattle.c_calls.proofs.mahyrei_run_read.Goals as goal

pub code-requires : goal.code-requires
code-requires c =
    let a = c.args in
    rw c.read.ensures.value (read_fits a.header.now a.marker.now a.slots.now (length a.frames.now))

pub returns : goal.returns
returns c =
    let a = c.args in
    let r = c.read in record {
      value = c.code.ensures ∙ ap code_of r.ensures.value;
      frames_after = r.ensures.frames_after ∙ ap (λ (x : Answer). after x (frames_read a.header.now a.marker.now a.slots.now) a.frames.now) r.ensures.value;
    }
