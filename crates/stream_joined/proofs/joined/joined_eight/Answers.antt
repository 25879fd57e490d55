-- Before turn t the bits passed make the number, and `here` is the place of the next.
use mathlib.Core.Path.{◌≡◌, refl, ap, ap₂, ◌∙◌}
use Prim.Native.Nat.{ℕ, ◌+◌, ◌*◌, ◌%◌, ◌^◌, ◌<◌}
use native.Mathlib.Omega.{arith}
use lib.Bits.{bit_or}
use Rattle.bits.specs.Pack.{val, piece}
use Rattle.bits.proofs.Laws.Loops.{push}
use Rattle.bits.proofs.Laws.Positions.{at_on}
use Rattle.bits.specs.declared.pieces.Position.{Position}
use Rattle.bits.specs.Inner.{At}
use Rattle.sizes.specs.Sizes.{info_bits, block_bytes}
use Rattle.sizes.proofs.Laws.Rate.{info_le, info_ge}
use Rattle.stream_reader.specs.Frames.{joined}
use Rattle.stream_reader.proofs.Laws.Blocks.{joined_bits}
use Rattle.stream_reader.specs.Inner.{bit_of}
use Rattle.stream_joined.proofs.Rooms.{piece_le}
use Rattle.stream_joined.proofs.joined.joined_eight.Goals as goal

-- the place of bit t
here : (rate : ℕ) (at : Position) {k : ℕ} (r : Position) (t : ℕ) → at.bit < info_bits rate → k ≡ info_bits rate → At k (at.piece * k + at.bit + t) r → At (info_bits rate) (bit_of rate at + t) r
here rate at r t inside e p = at_on t e (record { place = refl; inside = inside }) p

pub loop-t-init : goal.loop-t-init
unfolding val
loop-t-init c = refl

pub position_after-requires : goal.position_after-requires
position_after-requires c =
    let s = c in
    let a = c.args in
    let e = c.info_bits-k.ensures in
    let inside = s.requires.inside in
    let w = info_le a.rate in
    let m = info_ge a.rate in
    let p = piece_le a.rate 8 a.blocks.now a.at s.requires (omega arith) in
    (omega arith, omega arith, omega arith, omega arith)

pub loop-t-preserved : goal.loop-t-preserved
loop-t-preserved c =
    let a = c.args in
    let l = c.loop-t in
    let st : ℕ → ℕ = joined a.rate (piece (block_bytes a.rate) a.blocks.now) in
    let x = bit_of a.rate a.at in
    let f : ℕ → ℕ = λ y. joined a.rate (piece (block_bytes a.rate) a.blocks.now) (bit_of a.rate a.at + y) in
    let place = here a.rate a.at _ l.t c.requires.inside c.info_bits-k.ensures c.position_after.ensures in
    let bit : c.from.result ≡ st (x + l.t) = c.from.ensures ∙ c.joined_bit-bit.ensures ∙ ap st place.place in
    ap₂ (λ (v b : ℕ). bit_or (v * 2 % 2 ^ 64) b) l.invariant bit ∙ push 64 f l.t (λ y. joined_bits a.rate (piece (block_bytes a.rate) a.blocks.now) (x + y)) (omega arith)
