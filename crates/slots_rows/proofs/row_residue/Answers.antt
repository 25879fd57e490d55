-- The places of the residue that are hit are N apart, and so are their symbols.
use mathlib.Core.Path.{◌≡◌}
use Prim.Native.Nat.{ℕ, ◌+◌, ◌-◌, ◌*◌, ◌^◌, ◌≤◌, ◌<◌, min}
use native.Mathlib.Omega.{arith}
use native.Mathlib.Nat.{mul-le-mul}
use Rattle.channel.specs.Channel.{total}
use Rattle.channel.proofs.Laws.Symbols.{data_inside}
use Rattle.plan.specs.declared.Plan.{Plan}
use Rattle.plan.specs.Inner.{Fine}
use Rattle.slots.proofs.Laws.Bounds.{Bounds, bounds}
use Rattle.slots_lines.proofs.Laws.Lines as lines
use Rattle.slots_rows.proofs.Laws.Rows.{First, first_hit, row_more, places_few}
use Rattle.slots_rows.proofs.row_residue.Goals as goal

-- the sizes that the needs rest on
record Known (p : Plan) (line r : ℕ) : Type 0 where
  pub of_plan : Bounds p
  pub places : line * p.layout.symbols + p.layout.symbols < 2 ^ 23
  pub late : r * (p.layout.step * p.layout.rows) ≤ 2 ^ 22
  pub all : total p.layout < 2 ^ 23
  pub small : r < 128

known : (p : Plan) (line r : ℕ) → Fine p → line < p.layout.lines → r < p.layout.rows → Known p line r
known p line r f inside low =
    let k = bounds p f in
    let z = (lines.sizes p f line 0 inside).places in
    let most = f.rows_most in
    let few : r ≤ 128 = omega arith in
    let d : r * (p.layout.step * p.layout.rows) ≤ 128 * 32768 = mul-le-mul few k.back_most in
    let places = k.places in
    let words = k.words in
    let bound = k.symbols_bound in
    record { of_plan = k; places = z; late = omega arith; all = omega arith; small = omega arith }

pub first_place-requires : goal.first_place-requires
first_place-requires c =
    let s = c in
    let k = (known c.args.p c.args.line c.args.r c.requires.0.fine c.requires.1 c.requires.3).places in
    (s.requires.2, s.requires.3, s.requires.0.fine.rows_most, omega arith)

pub gather-requires : goal.gather-requires
gather-requires c =
    let s = c in
    let k = known c.args.p c.args.line c.args.r c.requires.0.fine c.requires.1 c.requires.3 in
    let p = c.args.p in
    let f = c.requires.0.fine in
    let d : ℕ = s.args.r * (p.layout.step * p.layout.rows) in
    let start : ℕ = s.args.line * p.layout.symbols in
    let x = c.max-x.result in
    let end = c.min-end.result in
    let is : end ≡ min (start + p.layout.symbols) (d + total p.layout) = c.min-end.ensures in
    let place = c.first_place.ensures in
    let first : First p.layout.rows d start s.args.r x = first_hit p.layout.rows p.layout.step start s.args.r c.first_place.result x s.requires.3 place.0 place.1 place.2 c.max-x.ensures in
    let late = first.late in
    let here = first.here in
    let all = k.all in
    let least = c.requires.0.fine.bits_least in
    let long = c.requires.0.long in
    let row = c.requires.4.long in
    let most = k.of_plan.symbols_most in
    let some = c.places.ensures.before in
    let near = c.first_place.ensures.2 in
    let top = c.max-x.ensures in
    let delay = k.late in
    let places = k.places in
    let small = k.small in
    let rows = c.requires.0.fine.rows_most in
    let many : c.places.result ≤ 2 ^ 16 = places_few x end p.layout.rows c.places.result start f.rows_least here c.places.ensures (omega arith) in
    let below : (j : ℕ) → j < c.places.result → x - d + j * p.layout.rows < total p.layout = λ j l. let b = some j l in omega arith in
    record {
      bits_least = omega arith;
      bits_most = f.bits_most;
      step_least = f.rows_least;
      step_most = f.rows_most;
      count_most = many;
      t_most = omega arith;
      from_most = omega arith;
      few = λ j l. let b = below j l in omega arith;
      inside = λ j l. let i = data_inside p.bits p.layout f.symbols_are (x - d + j * p.layout.rows) (below j l) in omega arith;
      room = λ j l. let b = some j l in omega arith;
    }

pub returns : goal.returns
returns c =
    let s = c in
    let p = c.args.p in
    let f = c.requires.0.fine in
    let d : ℕ = s.args.r * (p.layout.step * p.layout.rows) in
    let start : ℕ = s.args.line * p.layout.symbols in
    let x = c.max-x.result in
    let end = c.min-end.result in
    let is : end ≡ min (start + p.layout.symbols) (d + total p.layout) = c.min-end.ensures in
    let place = c.first_place.ensures in
    let first : First p.layout.rows d start s.args.r x = first_hit p.layout.rows p.layout.step start s.args.r c.first_place.result x s.requires.3 place.0 place.1 place.2 c.max-x.ensures in
    row_more p f s.args.words.now s.args.line s.args.r s.requires.3 x end c.places.result s.args.row.now c.gather.new.row first is c.places.ensures c.gather.ensures s.requires.4
