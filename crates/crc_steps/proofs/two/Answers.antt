-- The two sixes of a byte.
use mathlib.Core.Path.{◌≡◌, ap, ap₂, ◌∙◌}
use Prim.Native.Nat.{ℕ, ◌+◌, ◌*◌, ◌/◌, ◌%◌, ◌<◌}
use native.Mathlib.Omega.{arith}
use lib.Bits.{bit_xor, bit_and, and_mask}
use lib.ListN.{get_or}
use Rattle.crc_steps.specs.Inner.{change_of}
use Rattle.crc_steps.proofs.Sixes.{two_sixes}
use Rattle.crc_steps.proofs.two.Goals as goal

pub returns : goal.returns
returns c =
    let s = c in
    let b : ℕ = s.args.b in
    let l : b < 256 = s.requires.1 in
    let at : bit_and b 63 ≡ 64 * 0 + b % 64 = omega (arith, and_mask b 6) in
    let high : b / 64 ≡ b / 64 % 64 = omega arith in
    ap₂ bit_xor
    (ap (λ (i : ℕ). get_or s.args.table.now i 0) at ∙ s.requires.0.entry 0 (b % 64) (omega arith) (omega arith))
    (s.requires.0.entry 1 (b / 64) (omega arith) (omega arith) ∙ ap (change_of 1) high)
    ∙ two_sixes b l
