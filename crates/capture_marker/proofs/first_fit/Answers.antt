-- The search for slots that are the marker's is the search for the marker.
use mathlib.Core.Path.{ap, ◌∙◌}
use Prim.Native.Nat.{ℕ, ◌-◌, ◌<◌}
use native.Mathlib.Omega.{arith}
use lib.ListN.{length-replicate, get_or-replicate}
use Rattle.bits.specs.Pack.{bit_at}
use Rattle.capture_marker.proofs.Pulses.{slots_most, mark_inside, mark_pulse, whole}
use Rattle.capture_marker.proofs.first_fit.Goals as goal

pub put_marker-requires : goal.put_marker-requires
put_marker-requires c =
    let h = c.requires.fine in
    record { fine = h; long = length-replicate {A = ℕ} 1288 0; empty = λ k l. get_or-replicate {A = ℕ} 1288 k 0 0 l }

pub first_any-requires : goal.first_any-requires
first_any-requires c =
    let s = c in
    let p = c.args.p in
    let h = c.requires.fine in
    let o = c.put_marker in
    let most = slots_most p h in
    let n = c.requires.slots_are in
    let some = c.requires.fine.markers_least in
    let w : ℕ = p.layout.markers - 1 in
    let lw : w < p.layout.markers = omega arith in
    let ef = c.pulse_of-first.ensures in
    let el = c.pulse_of-last.ensures in
    let in-first = mark_inside p h 0 some in
    let in-last = mark_inside p h w lw in
    record {
      most = let m = c.requires.most in omega arith;
      eight = omega (arith, o.auto.slots, length-replicate {A = ℕ} 1288 0);
      room = omega (arith, most, n, o.auto.slots, length-replicate {A = ℕ} 1288 0);
      first_in = omega arith;
      last_in = omega arith;
      first_pulse = ap (bit_at o.new.slots) ef ∙ o.ensures _ in-first ∙ mark_pulse p h 0 some;
      last_pulse = ap (bit_at o.new.slots) el ∙ o.ensures _ in-last ∙ mark_pulse p h w lw;
      order = s.requires.order;
      ends = let e = c.requires.ends in omega arith;
    }

pub returns : goal.returns
returns c =
    let s = c in
    let o = c.put_marker in
    whole s.args.p s.args.b.now o.new.slots s.args.n s.args.from s.args.end c.first_any.result s.requires o.ensures
    c.first_any.ensures
