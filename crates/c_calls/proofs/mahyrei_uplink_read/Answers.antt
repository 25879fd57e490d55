-- The code of the answer, which fits.
use mathlib.Core.Path.{ap, ◌∙◌}
use lib.ListN.{length}
use Rattle.answers.specs.Answer.{Answer, code_of, after}
use Rattle.uplink.specs.Uplink.{uplink_frames_of}
use Rattle.uplink.proofs.Laws.Exports.{read_fits}
use Rattle.c_calls.proofs.mahyrei_uplink_read.Goals as goal

pub code-requires : goal.code-requires
code-requires c =
    let a = c.args in
    rw c.read.ensures.value (read_fits a.slots.now (length a.frames.now))

pub returns : goal.returns
returns c =
    let a = c.args in
    let r = c.read in record {
      value = c.code.ensures ∙ ap code_of r.ensures.value;
      frames_after = r.ensures.frames_after ∙ ap (λ (x : Answer). after x (uplink_frames_of a.slots.now) a.frames.now) r.ensures.value;
    }
