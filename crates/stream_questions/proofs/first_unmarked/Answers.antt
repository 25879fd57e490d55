-- The frames passed have their markers, so the first that has none is found among the rest.
use mathlib.Core.Path.{◌≡◌, sym, ap, ◌∙◌}
use Prim.Native.Nat.{ℕ, ◌+◌, ◌*◌}
use native.Mathlib.Omega.{arith}
use borrow.Author.Tests.{eq-eqb, ne_eqb}
use Rattle.bits.proofs.Laws.First.{first_on, first_here, first_end}
use Rattle.bits.specs.Pack.{val, piece}
use Rattle.sizes.specs.Sizes.{frame_marker, marker_bits, span as Sizes·span, block_bytes}
use Rattle.stream_reader.specs.Frames.{joined, frame_marked, first_unmarked}
use Rattle.stream_joined.proofs.Rooms.{marker_held}
use Rattle.stream_questions.proofs.first_unmarked.Goals as goal

pub marker_at-requires : goal.marker_at-requires
marker_at-requires c =
    let s = c in
    let a = c.args in
    let l = c.loop-j in
    let e : l.j * c.span-span.result ≡ l.j * Sizes·span a.size = ap (λ (k : ℕ). l.j * k) c.span-span.ensures in
    let held = marker_held s.requires l.j (omega arith) in
    rw e held

pub returns-then-marker_at-ne-FRAME_MARKER : goal.returns-then-marker_at-ne-FRAME_MARKER
unfolding first_unmarked frame_marked
returns-then-marker_at-ne-FRAME_MARKER c =
    let s = c in
    let a = c.args in
    let l = c.loop-j in
    let e : l.j * c.span-span.result ≡ l.j * Sizes·span a.size = ap (λ (k : ℕ). l.j * k) c.span-span.ensures in
    let st : ℕ → ℕ = joined a.rate (piece (block_bytes a.rate) a.blocks.now) in
    let v : ℕ = val (λ r. st (l.j * Sizes·span a.size + r)) marker_bits in
    let seen : c.marker_at.result ≡ v = c.marker_at.ensures ∙ ap (λ (y : ℕ). val (λ r. st (y + r)) marker_bits) e in
    let no : v ≡ frame_marker → ⊥ = λ q. c.if-marker_at-ne-FRAME_MARKER.true (seen ∙ q) in
    sym (sym l.invariant ∙ first_here (frame_marked a.size st) a.count l.j (omega arith) (ne_eqb v frame_marker no))

pub loop-j-preserved : goal.loop-j-preserved
unfolding frame_marked
loop-j-preserved c =
    let s = c in
    let a = c.args in
    let l = c.loop-j in
    let e : l.j * c.span-span.result ≡ l.j * Sizes·span a.size = ap (λ (k : ℕ). l.j * k) c.span-span.ensures in
    let st : ℕ → ℕ = joined a.rate (piece (block_bytes a.rate) a.blocks.now) in
    let v : ℕ = val (λ r. st (l.j * Sizes·span a.size + r)) marker_bits in
    let seen : c.marker_at.result ≡ v = c.marker_at.ensures ∙ ap (λ (y : ℕ). val (λ r. st (y + r)) marker_bits) e in
    let yes : v ≡ frame_marker = sym seen ∙ c.if-marker_at-ne-FRAME_MARKER.false in
    first_on (frame_marked a.size st) a.count l.j (omega arith) (eq-eqb v frame_marker yes) ∙ l.invariant

pub returns : goal.returns
unfolding first_unmarked
returns c =
    let a = c.args in
    let l = c.loop-j in
    let st : ℕ → ℕ = joined a.rate (piece (block_bytes a.rate) a.blocks.now) in
    let e : l.j ≡ a.count = omega arith in
    sym (first_end (frame_marked a.size st) a.count l.j (omega arith) (omega arith)) ∙ l.invariant
