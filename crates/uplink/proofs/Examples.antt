-- Worked values, computed: the slots of some frames.
use mathlib.Core.Path.{◌≡◌, refl}
use mathlib.Core.List.{[], ◌∷◌}
use Prim.Native.Nat.{◌+◌}
use lib.ListN.{take, replicate}
use Rattle.bits.specs.Basics.{tab}
use Rattle.bits.specs.Pack.{val, bit_at, bytes_of}
use Rattle.bits.specs.Count.{xor_sum}
use Rattle.randomizer.specs.Randomizer.{next, window, sequence, randomize}
use Rattle.ldpc.specs.Code.{rows, row_bit, parity_bit, codeword}
use Rattle.uplink.specs.Uplink.{codeblock, sent_bit, slot_of, uplink_slots_of}

-- the zero frame: its codeword is zero, so its slots are those of the sequence, FF480EC09A0D70BC and so on
pub zero_frame : take 8 (uplink_slots_of (replicate 8 0)) ≡ 0x44 ∷ 0x44 ∷ 0x44 ∷ 0x44 ∷ 0x84 ∷ 0x88 ∷ 0x48 ∷ 0x88 ∷ []
unfolding tab val bit_at bytes_of xor_sum next window sequence randomize rows row_bit parity_bit codeword codeblock sent_bit slot_of uplink_slots_of
zero_frame = refl

-- a second frame begins anew: after one zero frame, another is sent as the sequence from its start
pub zero_again : val (λ t. sent_bit (replicate 16 0) (128 + t)) 64 ≡ 0xFF480EC09A0D70BC
unfolding val bit_at xor_sum next window sequence randomize rows row_bit parity_bit codeword codeblock sent_bit
zero_again = refl

-- frame 0123456789ABCDEF, whose parity bits are 57B93EE3C084BA54
pub counting_frame : take 8 (uplink_slots_of (0x01 ∷ 0x23 ∷ 0x45 ∷ 0x67 ∷ 0x89 ∷ 0xAB ∷ 0xCD ∷ 0xEF ∷ []))
    ≡ 0x44 ∷ 0x44 ∷ 0x44 ∷ 0x48 ∷ 0x84 ∷ 0x48 ∷ 0x48 ∷ 0x44 ∷ []
unfolding tab val bit_at bytes_of xor_sum next window sequence randomize rows row_bit parity_bit codeword codeblock sent_bit slot_of uplink_slots_of
counting_frame = refl

-- and all its 128 bits as they are sent
pub counting_sent : val (sent_bit (0x01 ∷ 0x23 ∷ 0x45 ∷ 0x67 ∷ 0x89 ∷ 0xAB ∷ 0xCD ∷ 0xEF ∷ [])) 128 ≡ 0xFE6B4BA713A6BD53D995AD4E6733FC9A
unfolding val bit_at xor_sum next window sequence randomize rows row_bit parity_bit codeword codeblock sent_bit
counting_sent = refl
