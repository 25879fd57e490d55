-- The marker is the number of its bits, of which a shift and a mask leave eight.
use mathlib.Core.Path.{◌≡◌, sym, ap, ◌∙◌}
use Prim.Native.Nat.{ℕ, ◌+◌, ◌-◌, ◌/◌, ◌^◌}
use native.Mathlib.Omega.{arith}
use lib.Bits.{bit_and}
use Rattle.bits.specs.Pack.{val}
use Rattle.bits.proofs.Laws.Parts.{cut_part}
use Rattle.sizes.specs.Sizes.{marker_bits}
use Rattle.stream_writer.specs.Stream.{marker_bit}
use Rattle.stream_writer.proofs.Laws.Stream.{marker_bits_lem, marker_val}
use Rattle.stream_bits.proofs.marked.marker_byte.Goals as goal

pub returns : goal.returns
returns c =
    let r = c.args.r in
    let d = marker_bits - 8 - r in
    let e : marker_bits ≡ r + 8 + d = omega arith in
    ap (λ (v : ℕ). bit_and (v / 2 ^ d) 255) (sym marker_val ∙ ap (val marker_bit) e) ∙ cut_part marker_bit marker_bits_lem r 8 d
