-- Symbols of one line, or of two: the first that fails is in the first part, or the second has it.
use mathlib.Core.Path.{◌≡◌, sym, ap, ◌∙◌}
use mathlib.Core.Bool.{Bool}
use mathlib.Core.List.{List}
use mathlib.Core.Logic.{⊎_elim}
use Prim.Native.Nat.{ℕ, ◌+◌, ◌*◌, ◌/◌, ◌≤◌, ◌<◌}
use native.Mathlib.Omega.{arith}
use native.Mathlib.Nat.{le_refl, mul-le-mul, mod-lt, div-add-mod', div-lt_iff_lt-mul}
use Rattle.bits.proofs.Laws.Choice.{lt_or_le}
use Rattle.bits.specs.Basics.{up_to}
use Rattle.bits.proofs.Laws.First.{found, part_fails, part_passes}
use Rattle.channel.proofs.Laws.Markers.{line_in}
use Rattle.channel.specs.Channel.{unit, layout_symbols, rest_zero}
use Rattle.slots.proofs.Laws.Bounds.{Bounds, bounds}
use Rattle.plan.specs.declared.Plan.{Plan}
use Rattle.slots.specs.Reading.{pooled_in}
use Rattle.slots_symbols.specs.Inner.{Row}
use Rattle.slots_places.specs.Inner.{Took}
use Rattle.slots_residues.specs.Inner.{Room}
use Rattle.slots_places.specs.Inner.{Stretch}
use Rattle.slots_places.proofs.take.Goals as goal

-- the line of the first symbol
known : (p' : Plan) (row : List ℕ) (from' to : ℕ) (words : List ℕ) → (Stretch p' from' from' to row × (from' < to) × Room p' words) → Bounds p' × (from' / unit p'.layout < p'.layout.lines) × (from' / unit p'.layout * unit p'.layout ≤ from') × (from' < from' / unit p'.layout * unit p'.layout + unit p'.layout) × (from' / unit p'.layout * unit p'.layout + unit p'.layout ≤ layout_symbols p'.layout)
known p' row from' to words asked =
    let p = p' in
    let from = from' in
    let h = asked.0 in
    let k = bounds p h.fine in
    let pos : 0 < unit p.layout = omega arith in
    let m = mod-lt from pos in
    let d = div-add-mod' from (unit p.layout) in
    let most = asked.0.most in
    let some = asked.1 in
    let l : from / unit p.layout < p.layout.lines = (div-lt_iff_lt-mul pos).1 (let q : from < p.layout.lines * unit p.layout = omega arith in q) in
    (k, l, omega arith, omega arith, line_in (unit p.layout) p.layout.lines (from / unit p.layout) l)

-- the row's first symbols
part : {p : Plan} {b : List ℕ} {from mid to : ℕ} {row : List ℕ} → Row p b from to row → mid ≤ to → Row p b from mid row
part row l = record { symbols = λ i k. row.symbols i (omega arith) }

pub overflow_add-unit : goal.overflow_add-unit
overflow_add-unit c = let r = (known c.args.p c.args.row.now c.args.from c.args.to c.args.words.now c.requires) in omega arith

pub nonzero_div-line : goal.nonzero_div-line
nonzero_div-line c = let r = (known c.args.p c.args.row.now c.args.from c.args.to c.args.words.now c.requires) in omega arith

pub overflow_mul-end : goal.overflow_mul-end
overflow_mul-end c = let r = (known c.args.p c.args.row.now c.args.from c.args.to c.args.words.now c.requires) in omega arith

pub overflow_add-end : goal.overflow_add-end
overflow_add-end c = let r = (known c.args.p c.args.row.now c.args.from c.args.to c.args.words.now c.requires) in omega arith

pub take_line-r-requires : goal.take_line-r-requires
take_line-r-requires c =
    let s = c in
    let h = c.requires.0 in
    let some = c.requires.1 in
    let r = (known c.args.p c.args.row.now c.args.from c.args.to c.args.words.now c.requires) in
    let p = c.args.p in
    let e = c.min-mid.ensures in
    let most = c.requires.0.most in
    let near = c.requires.0.near in
    (record { fine = h.fine; start = le_refl s.args.from; order = omega arith; most = omega arith; near = omega arith; room = let room = c.requires.0.room in omega arith; small = λ k l. h.small k (omega arith) }, r.1, r.2, omega arith, s.requires.2)

pub returns-then-r-mid : goal.returns-then-r-mid
returns-then-r-mid c =
    let s = c in
    let a = c.args in
    let r = (known c.args.p c.args.row.now c.args.from c.args.to c.args.words.now c.requires) in
    let some = c.requires.1 in
    let least = c.min-mid in
    let first = c.take_line-r in
    let e = least.ensures in
    let l : first.result < least.result = c.if-r-mid.true in
    record {
      first = λ b row took. part_fails (rest_zero a.p.layout (pooled_in a.p b)) a.from least.result a.to first.result (omega arith) (omega arith) (first.ensures.first b (part row (omega arith)) took) l;
      took = λ b row took q. absurd (omega arith);
    }

pub take_line-requires : goal.take_line-requires
take_line-requires c =
    let s = c in
    let h = c.requires.0 in
    let some = c.requires.1 in
    let r = (known c.args.p c.args.row.now c.args.from c.args.to c.args.words.now c.requires) in
    let p = c.args.p in
    let line : ℕ = s.args.from / unit p.layout in
    let least = c.min-mid in
    let e = least.ensures in
    let most = c.requires.0.most in
    let near = c.requires.0.near in
    let left : least.result ≤ c.take_line-r.result = c.if-r-mid.false in
    let more : least.result < s.args.to = c.if-mid-to.true in
    let next : line + 1 < p.layout.lines =
    ⊎_elim (λ (l : line + 1 < p.layout.lines). l) (λ (l : p.layout.lines ≤ line + 1). let q : p.layout.lines * unit p.layout ≤ (line + 1) * unit p.layout = mul-le-mul l (le_refl (unit p.layout)) in absurd (omega arith)) (lt_or_le (line + 1) p.layout.lines) in
    (record { fine = h.fine; start = omega arith; order = omega arith; most = omega arith; near = omega arith; room = h.room; small = h.small }, next, omega arith, omega arith, (let room = c.requires.2 in let k = c.take_line-r.auto.words in omega arith))

pub returns-then-mid-to : goal.returns-then-mid-to
returns-then-mid-to c =
    let s = c in
    let a = c.args in
    let r = (known c.args.p c.args.row.now c.args.from c.args.to c.args.words.now c.requires) in
    let some = c.requires.1 in
    let least = c.min-mid in
    let first = c.take_line-r in
    let second = c.take_line in
    let e = least.ensures in
    let left : least.result ≤ first.result = c.if-r-mid.false in
    let half : (b : List ℕ) → Row a.p b a.from a.to a.row.now → Took a.p b a.from a.words.now → Took a.p b least.result _ = λ b row took. first.ensures.took b (part row (omega arith)) took left in
    record {
      first = λ b row took. second.ensures.first b row (half b row took)
          ∙ part_passes (rest_zero a.p.layout (pooled_in a.p b)) a.from least.result a.to first.result (omega arith) (omega arith) (first.ensures.first b (part row (omega arith)) took) left;
      took = λ b row took q. second.ensures.took b row (half b row took) q;
    }

pub returns : goal.returns
returns c =
    let s = c in
    let a = c.args in
    let r = (known c.args.p c.args.row.now c.args.from c.args.to c.args.words.now c.requires) in
    let some = c.requires.1 in
    let least = c.min-mid in
    let first = c.take_line-r in
    let e = least.ensures in
    let same : least.result ≡ a.to = let l = c.if-mid-to.false in omega arith in
    let left : least.result ≤ first.result = c.if-r-mid.false in
    record {
      first = λ b row took.
          let t : ℕ → Bool = rest_zero a.p.layout (pooled_in a.p b) in
          let most = (found t a.from least.result (omega arith)).most in
          let q = first.ensures.first b (part row (omega arith)) took in
          let all : first.result ≡ a.to = omega arith in
          sym all ∙ q ∙ ap (up_to t a.from) same;
      took = λ b row took z. rw same at (first.ensures.took b (part row (omega arith)) took left);
    }
