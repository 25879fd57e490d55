-- The bits passed are zero, so the first that is not is found among the rest; `at` is the place of the next.
use mathlib.Core.Path.{◌≡◌, sym, ap, ◌∙◌}
use Prim.Native.Nat.{ℕ, ◌+◌, ◌*◌, ◌≤◌}
use native.Mathlib.Omega.{arith}
use Rattle.bits.proofs.Laws.First.{first_end}
use Rattle.bits.specs.Pack.{piece}
use Rattle.bits.proofs.Laws.Positions.{at_on}
use Rattle.sizes.specs.Sizes.{info_bits, block_bytes}
use Rattle.sizes.proofs.Laws.Rate.{info_le, info_pos}
use Rattle.stream_reader.specs.Frames.{joined, zero_at}
use Rattle.stream_reader.specs.Inner.{Held}
use Rattle.stream_joined.proofs.Rooms.{pieces_room, held_at, piece_le, block_fit}
use Rattle.stream_joined.proofs.Fill.{fill_on, fill_here}
use Rattle.stream_joined.proofs.looks.first_fill.Goals as goal

pub overflow_mul-end : goal.overflow_mul-end
overflow_mul-end c =
    let s = c in
    let w = pieces_room s.args.rate s.args.pieces s.requires.0.pieces2 in
    rw c.info_bits-k.ensures (record { fits = omega arith })

pub position_of-at-requires : goal.position_of-at-requires
position_of-at-requires c =
    let w = info_pos c.args.rate in
    let e = c.info_bits-k.ensures in
    omega arith

pub returns-then-n-eq0 : goal.returns-then-n-eq0
returns-then-n-eq0 c =
    let a = c.args in
    let l = c.loop-x in
    let e = ap (λ (k : ℕ). a.pieces * k) c.info_bits-k.ensures in
    let st : ℕ → ℕ = joined a.rate (piece (block_bytes a.rate) a.blocks.now) in
    sym (sym l.invariant.1 ∙ fill_here a.rate st l.x (a.pieces * info_bits a.rate) _ l.at c.zeros_at-n.ensures l.invariant.2 (omega arith) (omega arith))

pub position_after-at-requires : goal.position_after-at-requires
position_after-at-requires c =
    let s = c in
    let a = c.args in
    let l = c.loop-x in
    let e = ap (λ (k : ℕ). a.pieces * k) c.info_bits-k.ensures in
    let held : Held a.rate a.blocks.now l.x 1 = record { pieces = a.pieces; lie = s.requires.0; fit = omega arith } in
    let p = piece_le a.rate 1 a.blocks.now l.at (held_at held l.x 1 l.invariant.2 (omega arith)) (omega arith) in
    let k = c.info_bits-k.ensures in
    let w = info_le a.rate in
    let i = c.loop-x.invariant.2.inside in
    let z = c.zeros_at-n.ensures.inside in
    (omega arith, omega arith, omega arith, omega arith)

pub overflow_add-x : goal.overflow_add-x
overflow_add-x c =
    let s = c in
    let a = c.args in
    let l = c.loop-x in
    let e = ap (λ (k : ℕ). a.pieces * k) c.info_bits-k.ensures in
    let z = c.zeros_at-n.ensures in
    let n = c.zeros_at-n.result in
    let fit : l.x + n ≤ a.pieces * info_bits a.rate = block_fit a.rate a.pieces n l.invariant.2 (omega arith) z.inside in
    let w = pieces_room a.rate a.pieces s.requires.0.pieces2 in
    omega arith

pub loop-x-preserved : goal.loop-x-preserved
loop-x-preserved c =
    let s = c in
    let a = c.args in
    let l = c.loop-x in
    let e = ap (λ (k : ℕ). a.pieces * k) c.info_bits-k.ensures in
    let z = c.zeros_at-n.ensures in
    let n = c.zeros_at-n.result in
    let fit : l.x + n ≤ a.pieces * info_bits a.rate = block_fit a.rate a.pieces n l.invariant.2 (omega arith) z.inside in
    let st : ℕ → ℕ = joined a.rate (piece (block_bytes a.rate) a.blocks.now) in
    (fit, fill_on a.rate st l.x (a.pieces * info_bits a.rate) n l.at z l.invariant.2 fit ∙ l.invariant.1, at_on n c.info_bits-k.ensures l.invariant.2 c.position_after-at.ensures)

pub returns : goal.returns
returns c =
    let a = c.args in
    let l = c.loop-x in
    let e = ap (λ (k : ℕ). a.pieces * k) c.info_bits-k.ensures in
    let st : ℕ → ℕ = joined a.rate (piece (block_bytes a.rate) a.blocks.now) in
    let h : a.pieces * info_bits a.rate ≤ l.x = omega arith in
    let q : l.x ≡ a.pieces * info_bits a.rate = omega arith in
    q ∙ sym (sym l.invariant.1 ∙ first_end (zero_at st) (a.pieces * info_bits a.rate) l.x h l.invariant.0)
