-- Before turn i the bits of the bytes passed make the number, and `at` is the place of the next byte.
use mathlib.Core.Path.{◌≡◌, refl, ap, ap₂, ◌∙◌}
use Prim.Native.Nat.{ℕ, ◌+◌, ◌*◌, ◌%◌, ◌^◌}
use native.Mathlib.Omega.{arith}
use lib.Bits.{bit_or}
use Rattle.bits.specs.Pack.{Bits, val, piece}
use Rattle.bits.proofs.Laws.Pack.{val_same}
use Rattle.bits.proofs.Laws.Parts.{push_eight}
use Rattle.bits.proofs.Laws.Positions.{at_on}
use Rattle.sizes.specs.Sizes.{block_bytes}
use Rattle.sizes.proofs.Laws.Rate.{info_le, info_ge}
use Rattle.stream_reader.specs.Frames.{joined}
use Rattle.stream_reader.proofs.Laws.Blocks.{joined_bits}
use Rattle.stream_joined.proofs.Rooms.{held_at, piece_le}
use Rattle.stream_joined.proofs.looks.marker_at.Goals as goal

pub loop-i-init : goal.loop-i-init
unfolding val
loop-i-init c = refl

pub position_after-at-requires : goal.position_after-at-requires
position_after-at-requires c =
    let s = c in
    let a = c.args in
    let e = c.info_bits-k.ensures in
    let start = rw c.info_bits-k.ensures at c.position_of-start.ensures in
    let inside = start.inside in
    let w = info_le a.rate in
    let m = info_ge a.rate in
    let p = piece_le a.rate 8 a.blocks.now c.position_of-start.result (held_at s.requires _ 8 start (omega arith)) (omega arith) in
    (omega arith, omega arith, omega arith, omega arith)

pub loop-i-preserved : goal.loop-i-preserved
loop-i-preserved c =
    let a = c.args in
    let l = c.loop-i in
    let st : ℕ → ℕ = joined a.rate (piece (block_bytes a.rate) a.blocks.now) in
    let f : ℕ → ℕ = λ t. st (a.x + t) in
    let b : Bits f = λ t. joined_bits a.rate (piece (block_bytes a.rate) a.blocks.now) (a.x + t) in
    let start = rw c.info_bits-k.ensures at c.position_of-start.ensures in
    let here = at_on (8 * l.i) c.info_bits-k.ensures start c.position_after-at.ensures in
    let byte : c.from.result ≡ val (λ t. f (8 * l.i + t)) 8 =
    c.from.ensures ∙ c.joined_byte.ensures ∙ ap (λ (y : ℕ). val (λ t. st (y + t)) 8) here.place
    ∙ val_same (λ t. st (a.x + 8 * l.i + t)) (λ t. f (8 * l.i + t)) 8 (λ t m. ap st (omega arith)) in
    ap₂ (λ (v w : ℕ). bit_or (v * 2 ^ 8 % 2 ^ 64) w) l.invariant byte ∙ push_eight f b l.i (omega arith)
