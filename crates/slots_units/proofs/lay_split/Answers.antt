-- The symbols before the whole forties, these, and the symbols after them, one part after the other.
use mathlib.Core.Path.{◌∙◌}
use mathlib.Core.List.{List}
use Prim.Native.Nat.{ℕ, ◌+◌, ◌-◌, ◌*◌, ◌≤◌}
use native.Mathlib.Omega.{arith}
use native.Mathlib.Nat.{le_refl, mul-le-mul}
use Rattle.plan.specs.Inner.{slot_bytes}
use Rattle.plan.specs.declared.Plan.{Plan}
use Rattle.slots.proofs.Laws.Bounds.{bounds}
use Rattle.slots_moves.specs.Inner.{Holds, front}
use Rattle.slots_moves.proofs.Laws.Moves.{holds_is}
use Rattle.slots_units.specs.Inner.{Below, Row, Split}
use Rattle.slots_units.proofs.Laws.Units.{per_whole}
use Rattle.slots_units.proofs.Laws.Rows.{units_held, units_inside}
use Rattle.slots_units.proofs.lay_split.Goals as goal

-- the sizes that the needs rest on
record Known (p : Plan) (row : List ℕ) (n units head whole last : ℕ) : Type 0 where
  pub copies_least : 1 ≤ p.copies
  pub group_least : 1 ≤ p.group
  pub width_most : p.copies * p.group ≤ 40
  pub head_most : head ≤ last
  pub last_most : last ≤ n
  pub room : 5 * units + 5 * whole ≤ slot_bytes p
  pub below : Below 64 row

known : (p : Plan) (row : List ℕ) (first n units head whole last : ℕ) → Row p first n row → Split p first n units head whole last → Known p row n units head whole last
known p row first n units head whole last r q =
    let k = bounds p r.fine in
    let w = per_whole (p.copies * p.group) q.some in
    let one : 1 * p.group ≤ p.copies * p.group = mul-le-mul k.copies_least (le_refl p.group) in
    let most = w.width_most in
    let last_is = q.last_is in
    let two = k.group_two in
    record {
      copies_least = k.copies_least;
      group_least = omega arith;
      width_most = most;
      head_most = omega arith;
      last_most = q.last_most;
      room = units_inside p first n units head whole last q r.inside;
      below = λ i. let b = r.small i in omega arith;
    }

-- a row's beginning is a row
part : (p : Plan) (row : List ℕ) (first m n : ℕ) → Row p first n row → m ≤ n → Row p first m row
part p row first m n r l =
    let i = r.inside in
    let g = r.long in
    record { fine = r.fine; inside = omega arith; long = omega arith; small = r.small }

pub zero_of-zero-requires : goal.zero_of-zero-requires
zero_of-zero-requires c = let k = known c.args.p c.args.row.now c.args.first c.args.n c.args.at.units c.args.at.head c.args.at.whole c.args.at.last c.requires.0 c.requires.1 in (k.copies_least, k.group_least, k.width_most)

pub overflow_mul-copies : goal.overflow_mul-copies
overflow_mul-copies c = let k = (known c.args.p c.args.row.now c.args.first c.args.n c.args.at.units c.args.at.head c.args.at.whole c.args.at.last c.requires.0 c.requires.1).width_most in omega arith

pub lay_units-requires : goal.lay_units-requires
lay_units-requires c =
    let s = c in
    let k = known c.args.p c.args.row.now c.args.first c.args.n c.args.at.units c.args.at.head c.args.at.whole c.args.at.last c.requires.0 c.requires.1 in
    let last = c.requires.1.last_is in
    let most = k.last_most in
    let long = c.requires.0.long in
    let room = k.room in
    let e = c.move_row.auto.slots ∙ s.requires.2 in
    (omega arith, s.requires.1.some, k.below, omega arith)

pub returns : goal.returns
returns c word end same h =
    let s = c in
    let a = c.args in
    let p = c.args.p in
    let k = known c.args.p c.args.row.now c.args.first c.args.n c.args.at.units c.args.at.head c.args.at.whole c.args.at.last c.requires.0 c.requires.1 in
    let head = k.head_most in
    let last = k.last_most in
    let one = c.move_row in
    let two = c.lay_units in
    let zero = c.zero_of-zero in
    let mid = c.move_row.new.slots in
    let late = c.lay_units.new.slots in
    let first : Holds p (front p word (a.first + a.at.head)) end mid =
    one.ensures word end (λ i l. same i (omega arith)) (holds_is p word a.first (a.first + 0) end a.slots.now (omega arith) h) in
    let whole : Holds p (front p word (a.first + a.at.head + (a.at.last - a.at.head))) end late =
    units_held p s.requires.0.fine word a.row.now a.first a.n a.at.head (a.at.last - a.at.head) (5 * a.at.units) (5 * a.at.whole) end mid late same (omega arith) s.requires.1.begin s.requires.1.size
    (two.ensures p.copies p.group zero.ensures s.requires.0.small) (λ i. (c.slice_known-3-1.given i).fits) first in
    c.move_row-2.ensures word end same (holds_is p word (a.first + a.at.head + (a.at.last - a.at.head)) (a.first + a.at.last) end late (omega arith) whole)
