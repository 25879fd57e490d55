-- The bit is one of the marker, of a frame, or of the fill, as its place says.
use mathlib.Core.Path.{◌≡◌, refl, sym, ap, ◌∙◌}
use Prim.Native.Nat.{ℕ, ◌+◌, ◌-◌, ◌*◌, ◌/◌, ◌%◌, ◌≤◌, ◌<◌}
use native.Mathlib.Omega.{arith}
use borrow.Author.Tests.{lt-ltb, le-ltb}
use Rattle.sizes.specs.Sizes.{marker_bits, span}
use Rattle.bits.specs.Pack.{bit_at}
use Rattle.stream_writer.specs.Stream.{marker_bit, stream_bit}
use Rattle.stream_writer.proofs.Laws.Stream.{stream_fill}
use Rattle.stream_bits.proofs.Rooms.{frame_inside}
use Rattle.stream_bits.proofs.marked.stream_bit.Goals as goal

pub returns-then-count-span : goal.returns-then-count-span
returns-then-count-span c =
    let s = c in
    let a = c.args in
    sym (stream_fill a.size a.count a.frames.now a.x (omega (arith, ap (λ (k : ℕ). a.count * k) c.span-span.ensures)))

pub returns-then-r-lt-MARKER_BITS : goal.returns-then-r-lt-MARKER_BITS
unfolding stream_bit
returns-then-r-lt-MARKER_BITS c =
    let s = c in
    let a = c.args in
    let e = c.span-span.ensures in
    let h : a.x < a.count * span a.size = omega (arith, ap (λ (k : ℕ). a.count * k) e) in
    let d : a.x % c.span-span.result ≡ a.x % span a.size = ap (λ (k : ℕ). a.x % k) e in
    let m : a.x % span a.size < marker_bits = omega arith in
    c.marker_bit.ensures ∙ ap marker_bit d ∙ sym (rw (lt-ltb a.x (a.count * span a.size) h, lt-ltb (a.x % span a.size) marker_bits m) refl)

pub bit_at-requires : goal.bit_at-requires
bit_at-requires c =
    let s = c in
    let a = c.args in
    let e = c.span-span.ensures in
    let h : a.x < a.count * span a.size = omega (arith, ap (λ (k : ℕ). a.count * k) e) in
    let d : a.x % c.span-span.result ≡ a.x % span a.size = ap (λ (k : ℕ). a.x % k) e in
    let m : marker_bits ≤ a.x % span a.size = omega arith in
    let w = frame_inside a.size a.count a.frames.now a.x s.requires.0 h m in
    let z = ap (λ (k : ℕ). a.x / k * (8 * a.size)) e in
    omega arith

pub returns : goal.returns
unfolding stream_bit
returns c =
    let s = c in
    let a = c.args in
    let e = c.span-span.ensures in
    let h : a.x < a.count * span a.size = omega (arith, ap (λ (k : ℕ). a.count * k) e) in
    let d : a.x % c.span-span.result ≡ a.x % span a.size = ap (λ (k : ℕ). a.x % k) e in
    let m : marker_bits ≤ a.x % span a.size = omega arith in
    c.bit_at.ensures
    ∙ ap (λ (k : ℕ). bit_at a.frames.now (a.x / k * (8 * a.size) + (a.x % k - marker_bits))) e
    ∙ sym (rw (lt-ltb a.x (a.count * span a.size) h, le-ltb (a.x % span a.size) marker_bits m) refl)
