-- Before each turn the bytes below i are laid, and `at` is the place of the bit after them.
use mathlib.Core.Path.{◌≡◌, ap, ◌∙◌}
use Prim.Native.Nat.{ℕ, ◌+◌, ◌*◌}
use native.Mathlib.Omega.{arith}
use lib.ListN.{length, get_or}
use Rattle.bits.proofs.Laws.Pack.{bytes_by_byte}
use Rattle.bits.proofs.Laws.Positions.{at_same}
use Rattle.stream_writer.specs.Stream.{stream_bit}
use Rattle.stream_blocks.proofs.Bytes.{made_more}
use Rattle.stream_blocks.proofs.fill_bytes.Goals as goal

pub loop-i-preserved : goal.loop-i-preserved
loop-i-preserved c =
    let a = c.args in
    let l = c.loop-i in
    let n = c.some_bytes-n.result in
    let made = c.some_bytes-n.ensures in
    let fit = c.some_bytes-n.ensures.fit in
    let long = c.loop-i.invariant.1.long in
    let place = c.loop-i.invariant.2.place in
    let k = c.span-span.result in
    let z : l.at.piece * k + l.at.bit + 8 * n ≡ a.x + 8 * (l.i + n) = omega arith in (
      omega arith,
      made_more a.size a.count a.frames.now a.x l.i n k l.at a.block.now l.block _ c.span-span.ensures l.invariant.2 l.invariant.1 made,
      at_same z c.position_after-at.ensures,
    )

pub returns : goal.returns
returns c =
    let a = c.args in
    let l = c.loop-i in
    let f : ℕ → ℕ = λ t. stream_bit a.size a.count a.frames.now (a.x + t) in
    bytes_by_byte (length a.block.now) f l.block l.invariant.1.long (λ i h.
    let z : i ≡ 0 + i = omega arith in
    let long = c.loop-i.invariant.1.long in
    ap (λ (j : ℕ). get_or l.block j 0) z ∙ l.invariant.1.here i (omega arith))
