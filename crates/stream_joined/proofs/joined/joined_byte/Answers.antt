-- Bits of one block lie together; those that do not are read one by one.
use mathlib.Core.Path.{ap, ◌∙◌}
use Prim.Native.Nat.{ℕ, ◌+◌, ◌*◌, ◌≤◌}
use native.Mathlib.Omega.{arith}
use lib.Bits.{bit_and}
use Rattle.bits.specs.Pack.{val, bit_at, piece}
use Rattle.bits.proofs.Laws.Loops.{byte_mask}
use Rattle.sizes.specs.Sizes.{info_bits, block_bytes}
use Rattle.sizes.proofs.Laws.Rate.{info_le}
use Rattle.stream_reader.proofs.Laws.Blocks.{joined_bits}
use Rattle.stream_reader.specs.Inner.{bit_of}
use Rattle.stream_joined.proofs.Rooms.{stretch_in}
use Rattle.stream_joined.proofs.Bytes.{joined_from, byte_there}
use Rattle.stream_joined.proofs.joined.joined_byte.Goals as goal

pub overflow_add-bit : goal.overflow_add-bit
overflow_add-bit c =
    let s = c in
    let w = info_le s.args.rate in
    let inside = c.requires.inside in
    omega arith

pub byte_from-requires : goal.byte_from-requires
byte_from-requires c =
    let s = c in
    let a = c.args in
    let e = c.info_bits.ensures in
    let l : a.at.bit + 8 * 1 ≤ info_bits a.rate = omega arith in
    let w = stretch_in a.rate 8 a.blocks.now a.at s.requires (omega arith) 1 l in
    rw c.packed_bit.ensures w

pub returns-then-bit-info_bits : goal.returns-then-bit-info_bits
returns-then-bit-info_bits c =
    let s = c in
    let a = c.args in
    let e = c.info_bits.ensures in
    let l : a.at.bit + 8 ≤ info_bits a.rate = omega arith in
    c.byte_from.ensures ∙ ap (λ (y : ℕ). val (λ t. bit_at a.blocks.now (y + t)) 8) c.packed_bit.ensures
    ∙ byte_there a.rate a.blocks.now a.at s.requires.held.lie.rate3 l

pub returns : goal.returns
returns c =
    let s = c in
    let a = c.args in
    ap (λ (v : ℕ). bit_and v 255) c.joined_eight.ensures
    ∙ byte_mask (joined_from a.rate a.blocks.now a.at s.requires.held.lie.rate3) (λ t. joined_bits a.rate (piece (block_bytes a.rate) a.blocks.now) (bit_of a.rate a.at + t))
