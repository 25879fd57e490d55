-- Each width by its own call.
use mathlib.Core.Path.{◌≡◌, refl, ap}
use Prim.Native.Nat.{ℕ, ◌*◌}
use native.Mathlib.Omega.{arith}
use Rattle.slots_units.specs.Inner.{per_forty, Zero}
use Rattle.slots_units.proofs.Laws.Units.{per_five, per_ten, per_twenty, per_all, per_last}
use Rattle.slots_units.proofs.lay_units.Goals as goal

pub lay-requires : goal.lay-requires
lay-requires c =
    let s = c in
    let w : s.args.width ≡ 5 = c.in-5.is in
    let n = per_five s.args.width w in
    let e : 8 * s.args.n ≡ per_forty s.args.width * s.args.n = ap (λ (x : ℕ). x * s.args.n) n in
    let h = c.requires.0 in
    (omega arith, omega arith, s.requires.2, s.requires.3)

pub lay-requires-in-10 : goal.lay-requires-in-10
lay-requires-in-10 c =
    let s = c in
    let w : s.args.width ≡ 10 = c.in-10.is in
    let n = per_ten s.args.width w in
    let e : 4 * s.args.n ≡ per_forty s.args.width * s.args.n = ap (λ (x : ℕ). x * s.args.n) n in
    let h = c.requires.0 in
    (omega arith, omega arith, s.requires.2, s.requires.3)

pub lay-requires-in-20 : goal.lay-requires-in-20
lay-requires-in-20 c =
    let s = c in
    let w : s.args.width ≡ 20 = c.in-20.is in
    let n = per_twenty s.args.width w in
    let e : 2 * s.args.n ≡ per_forty s.args.width * s.args.n = ap (λ (x : ℕ). x * s.args.n) n in
    let h = c.requires.0 in
    (omega arith, omega arith, s.requires.2, s.requires.3)

pub returns-in_default : goal.returns-in_default
returns-in_default c copies group z b =
    let s = c in
    let w : s.args.width ≡ 40 = per_last s.args.width s.requires.1 (λ e. omega arith) (λ e. omega arith) (λ e. omega arith) in
    let known : Zero copies group 40 s.args.zero = rw w at z in
    rw w (c.lay-in_default.ensures copies group known b refl)
