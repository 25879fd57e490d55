-- One byte of slots more is laid at each turn.
use mathlib.Core.Path.{◌≡◌, refl}
use Prim.Native.Nat.{ℕ, ◌+◌, ◌*◌}
use native.Mathlib.Omega.{arith}
use Rattle.bits.specs.Pack.{bit_of}
use Rattle.bits.proofs.Laws.Stretch.{laid_none, laid_one, laid_on}
use Rattle.uplink.specs.Uplink.{slot_of}
use Rattle.uplink_writer.proofs.put_slots.Goals as goal

pub loop-q-init : goal.loop-q-init
loop-q-init c = laid_none _ _ _

pub bounds-slots-at : goal.bounds-slots-at
bounds-slots-at c = let e = c.loop-q.invariant.long in omega arith

pub loop-q-preserved : goal.loop-q-preserved
loop-q-preserved c =
    let l = c.loop-q in
    let a = c.args in
    let g : ℕ → ℕ = λ u. slot_of (bit_of a.v) (8 * l.q + u) in
    laid_on _ _ _ _ _ _ _ g l.invariant
    (laid_one l.slots (a.at + l.q) c.pair.result g (let e = c.loop-q.invariant.long in omega arith) c.pair.ensures)
    (λ u h. refl)

pub shape_of-slots : goal.shape_of-slots
shape_of-slots c = c.loop-q.invariant.long

pub returns : goal.returns
returns c =
    let l = c.loop-q in
    let e : l.q ≡ 32 = omega arith in
    rw e at l.invariant
