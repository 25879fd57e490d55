-- The only pulse is the first.
use mathlib.Core.Path.{◌∙◌}
use native.Mathlib.Omega.{arith}
use Rattle.pulses.proofs.Seen.{symbol_first}
use Rattle.pulses.proofs.symbol_there.Goals as goal

pub overflow_sub-result : goal.overflow_sub-result
overflow_sub-result c =
    let a = c.args in
    let h = c.requires in
    let e = c.first_one.ensures ∙ symbol_first a.order a.group h.0.of_group.group_least a.b.now a.s h.1 in
    omega arith

pub returns : goal.returns
returns c =
    let a = c.args in
    let h = c.requires in
    let e = c.first_one.ensures ∙ symbol_first a.order a.group h.0.of_group.group_least a.b.now a.s h.1 in
    omega arith
