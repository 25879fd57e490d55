-- Where N is 1 the row is laid as it is.
use Rattle.slots_flat.proofs.Laws.Flat.{laid_flat}
use Rattle.slots_flat.proofs.take_full.Goals as goal

pub returns-in-1-eq2 : goal.returns-in-1-eq2
returns-in-1-eq2 c =
    let a = c.args in
    λ at shown laid. laid_flat a.p 2 a.from a.to a.x a.row.now c.in-1-eq2.is-0 c.in-1-eq2.is-1 c.requires.0 at a.words.now c.take.new.words shown c.take.ensures laid

pub returns-in-1-eq4 : goal.returns-in-1-eq4
returns-in-1-eq4 c =
    let a = c.args in
    λ at shown laid. laid_flat a.p 4 a.from a.to a.x a.row.now c.in-1-eq4.is-0 c.in-1-eq4.is-1 c.requires.0 at a.words.now c.take-in-1-eq4.new.words shown c.take-in-1-eq4.ensures laid
