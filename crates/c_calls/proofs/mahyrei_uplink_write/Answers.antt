-- The code of the answer, which fits.
use mathlib.Core.Path.{ap, ◌∙◌}
use lib.ListN.{length}
use Rattle.answers.specs.Answer.{Answer, code_of, after}
use Rattle.uplink.specs.Uplink.{uplink_slots_of}
use Rattle.uplink.proofs.Laws.Exports.{write_fits}
use Rattle.c_calls.proofs.mahyrei_uplink_write.Goals as goal

pub code-requires : goal.code-requires
code-requires c =
    let a = c.args in
    rw c.write.ensures.value (write_fits a.frames.now (length a.slots.now))

pub returns : goal.returns
returns c =
    let a = c.args in
    let r = c.write in record {
      value = c.code.ensures ∙ ap code_of r.ensures.value;
      slots_after = r.ensures.slots_after ∙ ap (λ (x : Answer). after x (uplink_slots_of a.frames.now) a.slots.now) r.ensures.value;
    }
