-- The register after each turn is that of the definition after 64 bits more.
use mathlib.Core.Path.{refl, ap, ◌∙◌}
use Prim.Native.Nat.{ℕ, ◌*◌, ◌%◌, ◌^◌}
use lib.Bits.{bit_xor}
use Rattle.bits.specs.Pack.{bit_of}
use Rattle.crc.specs.Check.{register}
use Rattle.crc.specs.Inner.{advances}
use Rattle.crc_steps.proofs.Ahead.{register_eight}
use Rattle.crc_steps.proofs.by_eights.Goals as goal

pub loop-j-init : goal.loop-j-init
unfolding register
loop-j-init c = refl

pub loop-j-preserved : goal.loop-j-preserved
loop-j-preserved c =
    let l = c.loop-j in
    let block = c.args.block.now in c.eleven-r.ensures
    ∙ ap (λ (v : ℕ). advances 0 (bit_of (bit_xor (l.r * 2 ^ 32 % 2 ^ 64) v)) 64) c.eight.ensures
    ∙ register_eight block l.j l.r l.invariant
