-- The residues below r are laid up to the last place, with their delays one after the other.
use mathlib.Core.Path.{◌≡◌, refl, sym, ap, ◌∙◌}
use Prim.Native.Nat.{◌+◌, ◌-◌, ◌*◌, ◌%◌, ◌≤◌, ◌<◌}
use native.Mathlib.Omega.{arith}
use native.Mathlib.Nat.{le_refl, mul-le-mul, zero-mod, zero-mul, mod-lt}
use lib.ListN.{get_or}
use Rattle.channel.specs.Inner as places
use Rattle.slots.proofs.Laws.Bounds.{Bounds, bounds}
use Rattle.slots_residues.proofs.Laws.Residues.{puts, early, laid_begun, laid_ended, laid_residue}
use Rattle.std.specs.Prelude.{ℕ}
use Rattle.slots_residues.specs.Inner.{Room, Hit}
use mathlib.Core.List.{List}
use Rattle.plan.specs.declared.Plan.{Plan}
use Rattle.slots_residues.proofs.take_full.Goals as goal

-- the sizes that the needs rest on
known : (p : Plan) (row : List ℕ) (from to x : ℕ) (words : List ℕ) → (Hit p from to x row × Room p words) → Bounds p × (p.layout.rows * (p.layout.step * p.layout.rows) ≤ 128 * 32768)
known p row from to x words asked =
    let k = bounds p asked.0.fine in
    (k, mul-le-mul asked.0.fine.rows_most k.back_most)

pub loop-r-init : goal.loop-r-init
loop-r-init c =
    let s = c in
    let a = c.args in
    let g = c.args.p.layout in (
      omega arith,
      sym (ap (places.delay g) (zero-mod g.rows) ∙ zero-mul (g.step * g.rows)),
      refl,
      λ at shown laid. laid_begun a.p at c.stride_of-n.result a.x (a.x + (a.to - a.from)) a.words.now laid,
    )

pub overflow_sub-lane-in-loop-r : goal.overflow_sub-lane-in-loop-r
overflow_sub-lane-in-loop-r c =
    let s = c in
    let n = c.stride_of-n in
    early s.args.p s.requires.0.fine n.result n.ensures.0 n.ensures.2 s.args.x c.loop-r.r c.first_place-first.result c.loop-r.delay s.requires.0.begun c.first_place-first.ensures.1 c.loop-r.invariant.1

pub scatter-requires : goal.scatter-requires
scatter-requires c =
    let s = c in
    let a = c.args in
    let h = c.requires.0 in
    let n = c.stride_of-n in
    let l = c.loop-r in
    let o = c.first_place-first in
    let order = c.requires.0.order in
    let end = c.requires.0.end in
    let low = c.first_place-first.ensures.1 in
    let over = early a.p h.fine n.result n.ensures.0 n.ensures.2 a.x l.r o.result l.delay h.begun low l.invariant.1 in
    let some = c.requires.0.fine.bits_least in
    record {
      least = n.ensures.0;
      most = n.ensures.1;
      room = h.room;
      bound = h.bound;
      bits_least = omega arith;
      bits_most = h.fine.bits_most;
      start = let near = c.first_place-first.ensures.2 in let few = c.stride_of-n.ensures.1 in let k = (known c.args.p c.args.row.now c.args.from c.args.to c.args.x c.args.words.now c.requires).0 in omega arith;
      puts = λ j k. puts a.p h.fine l.words (o.result - l.delay + j) (get_or a.row.now (a.from + (o.result - a.x) + j) 0) (omega arith)
          (h.small (a.from + (o.result - a.x) + j) (omega arith) k) (let room = c.requires.1 in let long = c.loop-r.invariant.2 in omega arith);
    }

pub loop-r-preserved : goal.loop-r-preserved
loop-r-preserved c =
    let s = c in
    let a = c.args in
    let h = c.requires.0 in
    let n = c.stride_of-n in
    let l = c.loop-r in
    let o = c.first_place-first in
    let w = c.scatter in
    let g = c.args.p.layout in
    let order = c.requires.0.order in
    let low = c.first_place-first.ensures.1 in
    let most : l.r + 1 ≤ n.result = let t = c.loop-r-test.true in omega arith in
    let left : a.to - (a.from + (o.result - a.x)) ≡ a.to - a.from - (o.result - a.x) = omega arith in (
      most,
      c.next_delay-delay.ensures l.r g.rows h.fine.rows_least refl l.invariant.1,
      w.auto.words ∙ l.invariant.2,
      λ at shown laid. laid_residue a.p h.fine n.result n.ensures.0 n.ensures.2 at a.row.now a.from (a.to - a.from) a.x h.begun shown l.r o.result l.delay
          o.ensures.0 low o.ensures.2 l.invariant.1 l.words _ (rw left at w.ensures) (l.invariant.3 at shown laid),
    )

pub returns : goal.returns
returns c =
    let a = c.args in
    let n = c.stride_of-n in
    let l = c.loop-r in
    λ at shown laid. laid_ended a.p at n.result l.r a.x (a.x + (a.to - a.from)) l.words n.ensures.0 c.loop-r-test.false (l.invariant.3 at shown laid)
