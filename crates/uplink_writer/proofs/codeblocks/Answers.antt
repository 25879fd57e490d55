-- One codeblock more is laid at each turn.
use mathlib.Core.Path.{◌≡◌, ap, ◌∙◌}
use Prim.Native.Nat.{ℕ, ◌*◌}
use native.Mathlib.Omega.{arith}
use Rattle.bits.specs.Pack.{bytes_of}
use Rattle.bits.proofs.Laws.Stretch.{laid_none, laid_all}
use Rattle.uplink.specs.Uplink.{sent_bit, slot_of, frame_count, uplink_slots_of}
use Rattle.uplink_writer.proofs.Writing.{blocks_more}
use Rattle.uplink_writer.proofs.codeblocks.Goals as goal

pub loop-i-init : goal.loop-i-init
loop-i-init c = laid_none _ _ _

pub put_codeblock-requires : goal.put_codeblock-requires
put_codeblock-requires c =
    let p = c.requires in
    let framed = c.requires.0.long in
    let slotted = c.requires.1.long in
    let most = c.requires.0.most in
    let same = c.loop-i.invariant.long in
    (omega arith, omega arith, omega arith)

pub loop-i-preserved : goal.loop-i-preserved
loop-i-preserved c =
    let l = c.loop-i in
    let a = c.args in
    blocks_more a.frames.now a.slots.now l.slots _ l.i l.invariant c.put_codeblock.ensures

pub shape_of-slots : goal.shape_of-slots
shape_of-slots c = c.loop-i.invariant.long

pub returns : goal.returns
unfolding uplink_slots_of
returns c =
    let l = c.loop-i in
    let s = c in
    let a = c.args in
    let done : l.i ≡ a.count = omega arith in
    let count : a.count ≡ frame_count a.frames.now = let long = c.requires.0.long in omega arith in
    laid_all a.slots.now l.slots (64 * a.count) (slot_of (sent_bit a.frames.now)) s.requires.1.long (rw done at l.invariant)
    ∙ ap (λ (n : ℕ). bytes_of (64 * n) (slot_of (sent_bit a.frames.now))) count
