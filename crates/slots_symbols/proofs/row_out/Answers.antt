-- Sent once, a symbol is decided where its group has one pulse, and is that pulse.
use mathlib.Core.Path.{◌≡◌, sym, ◌∙◌}
use Prim.Native.Nat.{◌+◌}
use native.Mathlib.Omega.{arith}
use Rattle.slots_symbols.proofs.Once.{sent_in, groups_in, once, undecided_once}
use Rattle.slots_symbols.proofs.row_out.Goals as goal

pub row_out-requires : goal.row_out-requires
row_out-requires c =
    let s = c in
    let a = c.args in
    let h = c.requires in
    let one : a.p.copies ≡ 1 = omega arith in
    (groups_in a.p a.b.now h.0 one a.to h.2, h.1, h.3)

pub returns-then-p-eq1 : goal.returns-then-p-eq1
returns-then-p-eq1 c =
    let s = c in
    let a = c.args in
    let h = c.requires.0 in
    let one : a.p.copies ≡ 1 = omega arith in
    let o = c.row_out.ensures in
    record {
      value = o.value ∙ undecided_once a.p a.b.now h one a.from a.to;
      row = λ l. record { symbols = λ i k. o.filled l i k ∙ sym (once a.p a.b.now h one (a.from + i)) };
    }

pub row_out-requires-2 : goal.row_out-requires-2
row_out-requires-2 c =
    let s = c in
    let h = c.requires in
    (sent_in s.args.p s.args.b.now h.0 s.args.to h.2, h.1, h.3)
