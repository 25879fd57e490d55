-- A part of what is asked for can be asked for.
use mathlib.Core.Path.{refl}
use Rattle.slots_gather.proofs.Laws.Columns.{strides_part}
use Rattle.slots_gather.proofs.gather_part.Goals as goal

pub gather_some-requires : goal.gather_some-requires
gather_some-requires c =
    let cut = c.args.cut in
    let to = c.args.to in
    strides_part cut.at cut.step cut.shift cut.mask _ to.from to.n to.count _ _ c.args.j c.args.few c.requires.0 c.requires.1 refl
