-- All rows are put; then the spare bits after them, which the zeros ran into, are cleared.
use native.Mathlib.Omega.{arith}
use Rattle.slots.proofs.Laws.Bounds.{bounds}
use Rattle.slots_lines.proofs.Laws.Lines.{holds_all}
use Rattle.bits.specs.Pack.{piece}
use Rattle.sizes.specs.Sizes.{word_bytes}
use Rattle.slots_writer.proofs.write.Goals as goal

pub overflow_add-end : goal.overflow_add-end
overflow_add-end c = let s = c in let k = bounds s.args.p s.requires.given.fine in omega arith

pub overflow_mul-end-2 : goal.overflow_mul-end-2
overflow_mul-end-2 c = let s = c in let k = bounds s.args.p s.requires.given.fine in omega arith

pub overflow_mul-end-3 : goal.overflow_mul-end-3
overflow_mul-end-3 c = let s = c in let k = bounds s.args.p s.requires.given.fine in omega arith

pub fill_zeros-requires : goal.fill_zeros-requires
fill_zeros-requires c = let s = c in let k = bounds s.args.p s.requires.given.fine in (omega arith, omega arith, omega arith)

pub returns : goal.returns
returns c = let s = c in holds_all s.args.p s.requires.given.fine (piece word_bytes s.args.words.now) _ _ c.put_lines.ensures c.clear_spare.ensures (λ i. omega (arith, c.type_inv.slots i))
