-- The input bits as packed bytes: their room, and what stands in them.
use mathlib.Core.Path.{◌≡◌, sym, ap, ◌∙◌}
use mathlib.Core.List.{List}
use Prim.Native.Nat.{ℕ, ◌+◌, ◌-◌, ◌*◌, ◌/◌, ◌%◌, ◌^◌, ◌≤◌, ◌<◌}
use native.Mathlib.Omega.{arith}
use lib.Dec.{ltb}
use lib.ListN.{length}
use Rattle.bits.specs.Basics.{pick}
use Rattle.bits.specs.Pack.{bit_at}
use Rattle.sizes.specs.Sizes.{info_bits, block_bytes}
use Rattle.sizes.specs.Inner.{input_bits}
use Rattle.sizes.proofs.Laws.Rate.{block_size, block_room}
use Rattle.crc.specs.Check.{register, check_bit, checked}
use Rattle.convolution.specs.Code.{terminated}
use Rattle.convolution.specs.Inner.{Ended}

-- the input bits fill the bytes of a block and four more, for which there is room at any rate
pub input_size : (rate n : ℕ) → rate < 3 → n ≡ block_bytes rate → 8 * (n + 4) ≡ input_bits rate
unfolding input_bits
input_size rate n h e = let size = block_size rate h in omega arith

pub input_fits : (rate n : ℕ) → rate < 3 → n ≡ block_bytes rate → n + 4 ≤ 1260
input_fits rate n h e = let room = block_room rate h in omega arith

-- the input bits are the first k, their check after them, and two zeros
pub input_ended : (rate : ℕ) (before after : List ℕ) (check k : ℕ) → 8 * length before ≡ input_bits rate → k ≡ info_bits rate → check ≡ register (bit_at before) k → Ended before check after
    → (i : ℕ) → i < input_bits rate → bit_at after i ≡ terminated (info_bits rate + 32) (checked (info_bits rate) (bit_at before)) i
unfolding input_bits checked check_bit
input_ended rate before after check k size ek ec h i l =
    let n : ℕ = info_bits rate in
    h.bits n i (sym size) (omega arith)
    ∙ ap (λ (c : ℕ). terminated (n + 32) (λ j. pick (ltb j n) (bit_at before j) (c / 2 ^ (31 - (j - n)) % 2)) i) (ec ∙ ap (register (bit_at before)) ek)
