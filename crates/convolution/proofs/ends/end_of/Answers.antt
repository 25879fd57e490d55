-- The last 34 bits of the number of the last eight bytes.
use mathlib.Core.Path.{ap, ◌∙◌}
use Prim.Native.Nat.{ℕ, ◌+◌, ◌-◌, ◌*◌}
use native.Mathlib.Omega.{arith}
use lib.Bits.{bit_and}
use lib.ListN.{length}
use Rattle.bits.specs.Pack.{bit_at}
use Rattle.bits.proofs.Laws.Pack.{val_same, bit_lt}
use Rattle.convolution.proofs.Ending.{end_value}
use Rattle.convolution.proofs.ends.end_of.Goals as goal

pub returns : goal.returns
returns c =
    let xs = c.args.input.now in
    let at : ℕ = 8 * (length xs - 8) in
    ap (λ (v : ℕ). bit_and v 0x3FFFFFFFF) c.eight.ensures
    ∙ end_value (λ t. bit_at xs (at + t)) (λ t. bit_lt xs (at + t))
    ∙ val_same (λ t. bit_at xs (at + (30 + t))) (λ t. bit_at xs (at + 30 + t)) 34 (λ t l. ap (bit_at xs) (omega arith))
