-- Each symbol goes into the row as it is asked for.
use Rattle.std.proofs.Common.{◌≡◌, arith, rules}
use Rattle.pulses.specs.Pulses.{symbol_in}
use Rattle.pulses.proofs.Laws.Needs.{held}
use Rattle.pulses_rows.proofs.Laws.Rows.{reach_value, reach_full}
use Rattle.pulses_rows.proofs.singly.Goals as goal

pub fill-requires-clause-callable : goal.fill-requires-clause-callable
fill-requires-clause-callable c = λ k low high. let h = held _ _ _ _ c.requires.0 k high in search rules

pub returns : goal.returns
returns c =
    let a = c.args in
    let reached = c.fill.ensures.reached (symbol_in a.order a.group a.b.now) (λ k q low high e small. search rules) c.requires.4 in
    record {
      value = reach_value _ _ _ _ _ _ _ reached (λ l.
          let bad = c.fill.ensures.stops l in
          let post = bad.1 in
          let is : bad.0 ≡ symbol_in a.order a.group a.b.now c.fill.result = search rules in
          rw is at bad.2);
      filled = λ h. reach_full _ _ _ _ _ _ _ reached (omega arith);
      row_len_unchanged = c.fill.ensures.row_len_unchanged;
    }
