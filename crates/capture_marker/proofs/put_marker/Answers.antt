-- The slots hold the symbols before symbol w; its pulse comes to its place.
use mathlib.Core.Path.{◌≡◌, refl, ap, ◌∙◌}
use mathlib.Core.List.{List}
use Prim.Native.Nat.{ℕ, ◌+◌, ◌*◌, ◌<◌}
use native.Mathlib.Omega.{arith}
use lib.ListN.{length, get_or}
use borrow.Author.Rules.{rules}
use Rattle.bits.specs.Pack.{bit_at}
use Rattle.bits.specs.Inner.{put_bit}
use Rattle.pulses.specs.Pulses.{slot_bit}
use Rattle.capture_search.proofs.Laws.Search.{marker_sizes}
use Rattle.capture_marker.proofs.Pulses.{slots_most, room, pulses_none, pulses_more}
use Rattle.capture_marker.proofs.put_marker.Goals as goal

pub loop-w-init : goal.loop-w-init
loop-w-init c = (search rules, refl, pulses_none _ _ _ c.requires.empty)

pub put_bit-requires : goal.put_bit-requires
put_bit-requires c =
    let s = c in
    let l = c.loop-w in
    omega (arith, room s.args.p s.requires.fine l.w (omega arith), c.pulse_of.ensures, l.invariant.1, s.requires.long)

pub loop-w-preserved : goal.loop-w-preserved
loop-w-preserved c =
    let s = c in
    let p = c.args.p in
    let l = c.loop-w in
    let i = c.pulse_of in
    let o = c.put_bit in
    let at : ℕ = l.w * p.group + get_or p.marks l.w 0 in
    let k = room p s.requires.fine l.w (omega arith) in
    let sizes = marker_sizes p s.requires.fine in
    let small : get_or p.marks l.w 0 < p.group = let b = s.requires.fine.marks_below l.w in omega arith in
    let inside : at < 8 * length l.slots = omega (arith, k, l.invariant.1, s.requires.long) in (
      search rules,
      o.auto.packed ∙ l.invariant.1,
      λ x h. ap (λ (xs : List ℕ). bit_at xs x) (o.ensures ∙ ap (put_bit l.slots) i.ensures) ∙ pulses_more p.group l.w
          (λ w. get_or p.marks w 0) small l.slots inside l.invariant.2 x h,
    )

pub returns : goal.returns
returns c =
    let l = c.loop-w in
    let s = c in
    let p = c.args.p in
    let e : l.w ≡ p.layout.markers = omega arith in
    λ x h. l.invariant.2 x (omega (arith, slots_most p s.requires.fine)) ∙ ap (λ (n : ℕ). slot_bit p.group n (λ w. get_or p.marks w 0) x) e
