-- Every number is the quantity of its name.
use Rattle.plan.specs.Plan.{plan_of}
use Rattle.plan.proofs.plan_of.Goals as goal

pub returns : goal.returns
unfolding plan_of
returns c =
    let q = c.args.q in
    λ i. record {
      copies = q.fields.copies;
      bits = q.fields.bits;
      order = c.pulse_order-order.ensures i;
      group = c.slots_per_symbol-group.ensures i;
      layout = c.layout_of-layout.ensures i;
      marks = q.marks;
    }
