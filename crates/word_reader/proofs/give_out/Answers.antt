-- The sequence is added to a copy of the first bytes, and what it leaves in the spare bits is cleared.
use mathlib.Core.Path.{◌∙◌}
use native.Mathlib.Omega.{arith}
use Rattle.sizes.specs.Inner.{input_bits}
use Rattle.sizes.proofs.Laws.Rate.{block_size}
use Rattle.word.proofs.Laws.Lists.{undone_made}
use Rattle.word_reader.proofs.give_out.Goals as goal

pub copy_part-requires : goal.copy_part-requires
unfolding input_bits
copy_part-requires c =
    let s = c in
    let size = block_size s.args.rate s.requires.rate_is in
    let n = c.requires.input_is in
    let b = c.requires.block_is in
    (omega arith, omega arith)

pub clear_spare-requires : goal.clear_spare-requires
clear_spare-requires c =
    let s = c in
    let long = c.randomize.auto.bytes ∙ c.copy_part.auto.out ∙ s.requires.block_is in
    let k = c.info_bits.ensures in
    let size = block_size s.args.rate s.requires.rate_is in
    (omega arith, omega arith)

pub returns : goal.returns
returns c =
    let s = c in
    let a = c.args in
    let p = c.copy_part in
    let w = c.randomize in
    let r = c in
    undone_made a.rate r.info_bits.result a.input.now a.block.now _ w.new.bytes r.clear_spare.new.packed
    s.requires.rate_is r.info_bits.ensures s.requires.block_is p.ensures w.ensures (λ i. omega (arith, c.type_inv.block i)) r.clear_spare.ensures
