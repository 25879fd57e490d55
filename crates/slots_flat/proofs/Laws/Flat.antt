-- Where N is 1, all symbols of a stretch are of one residue and have no delay.
use mathlib.Core.Path.{◌≡◌, sym, ap, ◌∙◌}
use mathlib.Core.List.{List}
use Prim.Native.Nat.{ℕ, ◌+◌, ◌-◌, ◌*◌, ◌%◌, ◌^◌, ◌≤◌, ◌<◌}
use native.Mathlib.Omega.{arith}
use native.Mathlib.Nat.{mod_self, mod-one, zero-mod, zero-mul}
use lib.ListN.{get_or}
use Rattle.channel.specs.Inner.{delay}
use Rattle.plan.specs.declared.Plan.{Plan}
use Rattle.slots.proofs.Laws.Bounds.{bounds}
use Rattle.slots_residues.proofs.Laws.Residues.{puts, laid_begun, laid_ended, laid_residue}
use Rattle.slots_residues.specs.Inner.{Room, Scatters, Scattered, Hit, Shown, Laid, before}

module _ (p : Plan) (m from to x : ℕ) (row : List ℕ) (one : p.layout.rows ≡ 1) (is : p.bits ≡ m) (hit : Hit p from to x row) where
  pub scatters_flat : (words : List ℕ) → Room p words → Scatters row from to 1 m x words
  scatters_flat words room =
      let k = bounds p hit.fine in
      let order = hit.order in
      let end = hit.end in
      record {
        least = omega arith;
        most = omega arith;
        room = hit.room;
        bound = hit.bound;
        bits_least = let b = hit.fine.bits_least in omega arith;
        bits_most = let b = hit.fine.bits_most in omega arith;
        start = omega arith;
        puts = λ j l. rw is at (puts p hit.fine words (x + j) (get_or row (from + j) 0) (omega arith) (hit.small (from + j) (omega arith) l) room);
      }

  pub within : x + (to - from) < 2 ^ 32
  within = let k = bounds p hit.fine in let end = hit.end in omega arith

  pub laid_flat : (at : ℕ → ℕ) (words after : List ℕ) → Shown at row from (to - from) x → Scattered row from (to - from) 1 m x words after
      → Laid p at (before x) words → Laid p at (before (x + (to - from))) after
  laid_flat at words after shown s laid =
      let d : ℕ = to - from in
      let least : 1 ≤ 1 = omega arith in
      let whole : 1 % p.layout.rows ≡ 0 = ap (λ (v : ℕ). 1 % v) one ∙ mod_self 1 in
      let low : x ≤ x = omega arith in
      let near : x < x + 1 = omega arith in
      let none : 0 ≡ delay p.layout (0 % p.layout.rows) = sym (ap (delay p.layout) (zero-mod p.layout.rows) ∙ zero-mul (p.layout.step * p.layout.rows)) in
      let a : from + (x - x) ≡ from = omega arith in
      let b : d - (x - x) ≡ d = omega arith in
      let e : x - 0 ≡ x = omega arith in
      let so : Scattered row (from + (x - x)) (d - (x - x)) 1 p.bits (x - 0) words after = rw (a, b, e, is) s in
      laid_ended p at 1 1 x (x + d) after least least
      (laid_residue p hit.fine 1 least whole at row from d x hit.begun shown 0 x 0 (mod-one x) low near none words after so (laid_begun p at 1 x (x + d) words laid))
