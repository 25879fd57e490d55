-- The whole bytes' register, and then one bit a turn, which is the definition's own step.
use mathlib.Core.Path.{sym, ap, ap₂, ◌∙◌}
use native.Mathlib.Omega.{arith}
use native.Mathlib.Numerals.{add-one}
use Rattle.bits.specs.Pack.{bit_at}
use Rattle.bits.proofs.Laws.Pack.{bit_lt}
use Rattle.crc.specs.Check.{advance, register}
use Rattle.crc_check.proofs.check.Goals as goal

pub advance_bit-r-requires : goal.advance_bit-r-requires
advance_bit-r-requires c =
    let block = c.args.block.now in
    omega (arith, c.bit_at.ensures, bit_lt block c.loop-j.j)

pub loop-j-preserved : goal.loop-j-preserved
unfolding register
loop-j-preserved c =
    let l = c.loop-j in
    let block = c.args.block.now in
    c.advance_bit-r.ensures
    ∙ ap₂ advance l.invariant c.bit_at.ensures
    ∙ ap (register (bit_at block)) (sym (add-one l.j))
