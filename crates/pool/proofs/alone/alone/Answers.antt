-- One number shows a small group whole, and several show one that fills bytes.
use mathlib.Core.Path.{sym, ◌∙◌}
use Prim.Native.Nat.{ℕ, ◌+◌, ◌/◌}
use native.Mathlib.Omega.{arith}
use borrow.Author.Rules.{rules}
use Rattle.pool.proofs.Joining.{lit_alone, number_of, sole_alone}
use Rattle.pool.proofs.alone.alone.Goals as goal

pub returns-then-group-le57 : goal.returns-then-group-le57
returns-then-group-le57 c = λ l.
    let a = c.args in
    lit_alone a.b.now a.copies a.group a.s c.lone.result (omega arith) l (sym c.slots_from.ensures ∙ c.lone.ensures (omega arith))

pub returns-then-group-eq0 : goal.returns-then-group-eq0
returns-then-group-eq0 c = λ l.
    let a = c.args in
    let n : ℕ = (a.group + 63) / 64 in
    sole_alone a.b.now a.copies a.group a.s n c.only.result (omega arith)
    (c.only.ensures (omega arith) (number_of a.b.now a.copies a.group a.s) (λ k v d e. search rules))
