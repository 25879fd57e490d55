-- The first whole forty begins with the next multiple of its symbols.
use mathlib.Core.Path.{◌≡◌}
use Prim.Native.Nat.{ℕ, ◌+◌, ◌-◌, ◌*◌, ◌/◌, ◌^◌, ◌<◌}
use native.Mathlib.Omega.{arith}
use Rattle.slots.proofs.Laws.Bounds.{bounds}
use Rattle.slots_units.specs.Inner.{per_forty}
use Rattle.slots_units.proofs.Laws.Units.{Whole, per_whole}
use Rattle.slots_units.proofs.Laws.Rows.{Ceiling, ceiling, split}
use Rattle.std.specs.Prelude.{List, ◌≤◌, length}
use Rattle.plan.specs.Inner.{slot_bytes}
use Rattle.slots_units.specs.Inner.{Row}
use Rattle.plan.specs.declared.Plan.{Plan}
use Rattle.slots_units.proofs.lay_row.Goals as goal

whole : (p : Plan) (row : List ℕ) (n first : ℕ) (slots : List ℕ) → (Row p first n row × (8 ≤ n) × (1 ≤ per_forty (p.copies * p.group)) × (length slots ≡ slot_bytes p)) → Whole (p.copies * p.group)
whole p row n first slots asked = per_whole (p.copies * p.group) asked.2

few : (p : Plan) (row : List ℕ) (n first : ℕ) (slots : List ℕ) → (Row p first n row × (8 ≤ n) × (1 ≤ per_forty (p.copies * p.group)) × (length slots ≡ slot_bytes p)) → (first + n < 2 ^ 23)
few p row n first slots asked =
    let k = (bounds p asked.0.fine).symbols_bound in
    let i = asked.0.inside in
    omega arith

-- the sizes that the needs rest on
sizes : (p : Plan) (row : List ℕ) (n first : ℕ) (slots : List ℕ) → (Row p first n row × (8 ≤ n) × (1 ≤ per_forty (p.copies * p.group)) × (length slots ≡ slot_bytes p)) → (per : ℕ) → per ≡ per_forty (p.copies * p.group) → Ceiling per first n ((first + per - 1) / per) ((first + per - 1) / per * per - first) ((n - ((first + per - 1) / per * per - first)) / per)
sizes p row n first slots asked per e =
    let some = asked.2 in
    let most = (whole p row n first slots asked).per_most in
    ceiling per first n (omega arith) (omega arith) asked.1

pub overflow_add-units : goal.overflow_add-units
overflow_add-units c =
    let s = c in
    let k = (few c.args.p c.args.row.now c.args.n c.args.first c.args.slots.now c.requires) in
    let most = (whole c.args.p c.args.row.now c.args.n c.args.first c.args.slots.now c.requires).per_most in
    let e = c.per_forty-per.ensures in
    omega arith

pub overflow_sub-whole : goal.overflow_sub-whole
overflow_sub-whole c =
    let s = c in
    let z = (sizes c.args.p c.args.row.now c.args.n c.args.first c.args.slots.now c.requires) c.per_forty-per.result c.per_forty-per.ensures in
    let l = z.last in
    omega arith

pub lay_split-requires : goal.lay_split-requires
lay_split-requires c =
    let s = c in
    let per = c.per_forty-per.result in
    let e = c.per_forty-per.ensures in
    (s.requires.0, split s.args.p per s.args.first s.args.n _ _ _ s.requires.2 (whole c.args.p c.args.row.now c.args.n c.args.first c.args.slots.now c.requires) e ((sizes c.args.p c.args.row.now c.args.n c.args.first c.args.slots.now c.requires) per e), s.requires.3)
