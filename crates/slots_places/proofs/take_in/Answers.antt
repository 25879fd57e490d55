-- All symbols that were passed are right, and the words have them; the delay goes along with the place.
use mathlib.Core.Path.{◌≡◌, refl, sym, ap, ◌∙◌}
use mathlib.Core.Bool.{Bool, true, false}
use mathlib.Core.List.{List}
use mathlib.Core.Logic.{⊎_elim}
use Prim.Native.Nat.{ℕ, ◌+◌, ◌-◌, ◌*◌, ◌%◌, ◌≤◌, ◌<◌, min}
use native.Mathlib.Omega.{arith}
use native.Mathlib.Nat.{le_refl, mul-le-mul, mod-lt}
use lib.ListN.{get_or}
use Rattle.bits.specs.Basics.{bool}
use Rattle.bits.proofs.Laws.Choice.{bool_no, bool_yes, eq_or_ne}
use Rattle.bits.proofs.Laws.First.{found_at, found_none}
use Rattle.channel.proofs.Laws.Markers.{line_in, rest_else}
use Rattle.channel.specs.Channel.{total, unit, layout_symbols, rest_zero}
use Rattle.channel.specs.Inner as places
use Rattle.slots.proofs.Laws.Bounds.{bounds, Bounds}
use Rattle.slots.specs.Reading.{pooled_in}
use Rattle.slots_symbols.specs.Inner.{Row}
use Rattle.slots_places.specs.Inner.{Took, Placed}
use Rattle.slots_residues.proofs.Laws.Residues.{puts}
use Rattle.slots_places.proofs.Laws.Taken.{took_marks, took_at}
use Rattle.channel.specs.Inner.{delay}
use Rattle.slots_residues.specs.Inner.{Room}
use Rattle.slots_places.specs.Inner.{Stretch}
use Rattle.plan.specs.declared.Plan.{Plan}
use Rattle.slots_places.proofs.take_in.Goals as goal

-- the sizes that the needs rest on
known : (p' : Plan) (row : List ℕ) (base line from to : ℕ) (words : List ℕ) → (Stretch p' base from to row × (line < p'.layout.lines) × (line * unit p'.layout ≤ from) × (to ≤ line * unit p'.layout + unit p'.layout) × Room p' words) → Bounds p' × (line * unit p'.layout + unit p'.layout ≤ layout_symbols p'.layout) × (p'.layout.rows ≤ 128) × (p'.layout.rows * (p'.layout.step * p'.layout.rows) ≤ 128 * 32768)
known p' row base line from to words asked =
    let p = p' in
    let f = asked.0.fine in
    let k = bounds p f in
    (k, line_in (unit p.layout) p.layout.lines line asked.1, f.rows_most, mul-le-mul f.rows_most k.back_most)

-- the most that a delay is
late : (p : Plan) (row : List ℕ) (base line from to : ℕ) (words : List ℕ) → (Stretch p base from to row × (line < p.layout.lines) × (line * unit p.layout ≤ from) × (to ≤ line * unit p.layout + unit p.layout) × Room p words) → (x : ℕ) → places.delay p.layout (x % p.layout.rows) ≤ 128 * 32768
late p row base line from to words asked x =
    let g = p.layout in
    let m : x % g.rows < g.rows = mod-lt x asked.0.fine.rows_least in
    let r = (known p row base line from to words asked).3 in
    let l : x % g.rows ≤ g.rows = omega arith in
    omega (arith, mul-le-mul l (le_refl (g.step * g.rows)))

-- one symbol more
one : (p : Plan) (row' : List ℕ) (base line from' to : ℕ) (words' : List ℕ) → (Stretch p base from' to row' × (line < p.layout.lines) × (line * unit p.layout ≤ from') × (to ≤ line * unit p.layout + unit p.layout) × Room p words') → (words after : List ℕ) (at delay r : ℕ) (b : List ℕ) → Row p b base to row' → from' ≤ at → line * unit p.layout + p.layout.markers ≤ at → at < to → delay ≡ places.delay p.layout ((at - (line * p.layout.markers + p.layout.markers)) % p.layout.rows) → Placed (total p.layout) p.bits (at - (line * p.layout.markers + p.layout.markers)) delay (get_or row' (at - base) 0) words r after → Took p b (min at to) words → (r ≡ bool (rest_zero p.layout (pooled_in p b) at)) × Took p b (at + 1) after
one p row' base line from' to words' asked words after at delay r b row from first l e placed took =
    let h = asked in
    let start = asked.0.start in
    let end = asked.3 in
    let m : min at to ≡ at = omega arith in
    let same : get_or row' (at - base) 0 ≡ pooled_in p b at = row.symbols (at - base) (omega arith) ∙ ap (pooled_in p b) (omega arith) in
    took_at p h.0.fine b words line at delay _ r after first (omega arith) e same placed (rw m at took)

pub overflow_mul-total : goal.overflow_mul-total
overflow_mul-total c = let r = (known c.args.p c.args.row.now c.args.part.base c.args.part.line c.args.part.from c.args.part.to c.args.words.now c.requires) in omega arith

pub overflow_mul-back : goal.overflow_mul-back
overflow_mul-back c = let r = (known c.args.p c.args.row.now c.args.part.base c.args.part.line c.args.part.from c.args.part.to c.args.words.now c.requires) in omega arith

pub overflow_mul-wrap : goal.overflow_mul-wrap
overflow_mul-wrap c = let r = (known c.args.p c.args.row.now c.args.part.base c.args.part.line c.args.part.from c.args.part.to c.args.words.now c.requires) in omega arith

pub overflow_mul-skip : goal.overflow_mul-skip
overflow_mul-skip c = let r = (known c.args.p c.args.row.now c.args.part.base c.args.part.line c.args.part.from c.args.part.to c.args.words.now c.requires) in omega arith

pub overflow_add-skip : goal.overflow_add-skip
overflow_add-skip c = let r = (known c.args.p c.args.row.now c.args.part.base c.args.part.line c.args.part.from c.args.part.to c.args.words.now c.requires) in omega arith

pub overflow_sub-delay : goal.overflow_sub-delay
overflow_sub-delay c = let e = c.max-first.ensures in omega arith

pub nonzero_rem-delay : goal.nonzero_rem-delay
nonzero_rem-delay c = c.requires.0.fine.rows_least

pub overflow_mul-delay : goal.overflow_mul-delay
overflow_mul-delay c = let s = c in let d = (late c.args.p c.args.row.now c.args.part.base c.args.part.line c.args.part.from c.args.part.to c.args.words.now c.requires) (c.max-first.result - (s.args.part.line * s.args.p.layout.markers + s.args.p.layout.markers)) in omega arith

pub loop-s-init : goal.loop-s-init
loop-s-init c =
    let s = c in
    let a = c.args in
    let p = c.args.p in
    let h = c.requires in
    let low = c.requires.2 in
    let order = c.requires.0.order in
    let e = c.max-first.ensures in (
      omega arith,
      omega arith,
      refl,
      refl,
      λ b row took. (
        λ k g l m. rest_else p.layout a.part.line (pooled_in p b) k (omega arith) (omega arith),
        took_marks p h.0.fine b a.words.now a.part.line a.part.from _ (omega arith) low (λ q. omega arith) took,
      ),
    )

pub overflow_sub-q : goal.overflow_sub-q
overflow_sub-q c = let l = c.loop-s.invariant.0 in let h = c.requires.0.start in omega arith

pub bounds-row-s : goal.bounds-row-s
bounds-row-s c = let l = c.loop-s.invariant.0 in let h = c.requires.0 in omega arith

pub overflow_cast-q : goal.overflow_cast-q
overflow_cast-q c =
    let s = c in
    let l = c.loop-s in
    let from = c.loop-s.invariant.0 in
    let start = c.requires.0.start in
    let small = s.requires.0.small (l.s - s.args.part.base) (let t = c.loop-s-test.true in omega arith) in
    let r = (known c.args.p c.args.row.now c.args.part.base c.args.part.line c.args.part.from c.args.part.to c.args.words.now c.requires) in
    record { fits = omega arith }

pub overflow_sub-s : goal.overflow_sub-s
overflow_sub-s c = let l = c.loop-s.invariant.1 in omega arith

pub take_place-requires : goal.take_place-requires
take_place-requires c =
    let s = c in
    let p = c.args.p in
    let h = c.requires in
    let l = c.loop-s in
    let t = c.loop-s-test.true in
    let from = c.loop-s.invariant.0 in
    let start = c.requires.0.start in
    let long = c.loop-s.invariant.3 in
    λ t hit. puts p h.0.fine l.words t _ hit (h.0.small (l.s - s.args.part.base) (omega arith)) (let room = c.requires.4 in omega arith)

pub returns-then-not-take_place : goal.returns-then-not-take_place
returns-then-not-take_place c =
    let s = c in
    let a = c.args in
    let p = c.args.p in
    let l = c.loop-s in
    let g = c.loop-s-test.true in
    let first = c.loop-s.invariant.1 in
    let end = c.requires.3 in
    record {
      first = λ b row took.
          let i = l.invariant.4 b row took in
          let t : ℕ → Bool = rest_zero p.layout (pooled_in p b) in
          let here : t l.s ≡ false = bool_no (t l.s) (sym ((one c.args.p c.args.row.now c.args.part.base c.args.part.line c.args.part.from c.args.part.to c.args.words.now c.requires) l.words _ l.s l.delay _ b row l.invariant.0 first g l.invariant.2 c.take_place.ensures i.1).0 ∙ ap bool c.if-not-take_place.true) in
          sym (found_at t a.part.from a.part.to l.s l.invariant.0 g (λ k f m. i.0 k f m (omega arith)) here);
      took = λ b row took q. absurd (omega arith);
    }

pub next_delay-delay-requires : goal.next_delay-delay-requires
next_delay-delay-requires c =
    let s = c in
    let r = (known c.args.p c.args.row.now c.args.part.base c.args.part.line c.args.part.from c.args.part.to c.args.words.now c.requires) in
    let e = c.loop-s.invariant.2 in
    let d = (late c.args.p c.args.row.now c.args.part.base c.args.part.line c.args.part.from c.args.part.to c.args.words.now c.requires) (c.loop-s.s - (s.args.part.line * s.args.p.layout.markers + s.args.p.layout.markers)) in
    (omega arith, omega arith)

pub loop-s-preserved : goal.loop-s-preserved
loop-s-preserved c =
    let s = c in
    let a = c.args in
    let p = c.args.p in
    let l = c.loop-s in
    let g = c.loop-s-test.true in
    let o = c.take_place in
    let first = c.loop-s.invariant.1 in
    let from = c.loop-s.invariant.0 in
    let skip : ℕ = a.part.line * p.layout.markers + p.layout.markers in
    let next : l.s - skip + 1 ≡ l.s + 1 - skip = omega arith in (
      omega arith,
      omega arith,
      c.next_delay-delay.ensures (l.s - skip) p.layout.rows s.requires.0.fine.rows_least refl l.invariant.2 ∙ ap (λ (x : ℕ). places.delay p.layout (x % p.layout.rows)) next,
      o.auto.words ∙ l.invariant.3,
      λ b row took.
          let i = l.invariant.4 b row took in
          let t : ℕ → Bool = rest_zero p.layout (pooled_in p b) in
          let z = (one c.args.p c.args.row.now c.args.part.base c.args.part.line c.args.part.from c.args.part.to c.args.words.now c.requires) l.words _ l.s l.delay _ b row from first g l.invariant.2 o.ensures i.1 in
          let here : t l.s ≡ true = bool_yes (t l.s) (λ q. absurd (let one : 1 ≡ 0 = ap bool (sym c.if-not-take_place.false) ∙ z.0 ∙ q in omega arith)) in
          let m : l.s + 1 ≡ min (l.s + 1) a.part.to = omega arith in
          (λ k f u n. ⊎_elim (λ (q : k ≡ l.s). ap t q ∙ here) (λ (q : k ≡ l.s → ⊥). i.0 k f (omega arith) n) (eq_or_ne k l.s), rw m at z.1),
    )

pub returns : goal.returns
returns c =
    let s = c in
    let a = c.args in
    let h = c.requires in
    let l = c.loop-s in
    let g = c.loop-s-test.false in
    let m : min l.s a.part.to ≡ a.part.to = omega arith in
    record {
      first = λ b row took. sym (found_none (rest_zero a.p.layout (pooled_in a.p b)) a.part.from a.part.to h.0.order (λ k f q. (l.invariant.4 b row took).0 k f (omega arith) q));
      took = λ b row took q. rw m at (l.invariant.4 b row took).1;
    }
