-- Forties that are zeros', then some that are not, and the groups after the last forty.
use mathlib.Core.Path.{◌≡◌, refl, sym, ap, ◌∙◌}
use Prim.Native.Nat.{ℕ, ◌+◌, ◌*◌, ◌/◌, ◌%◌, ◌≤◌, ◌<◌}
use native.Mathlib.Omega.{arith}
use native.Mathlib.Nat.{le_refl, mul-le-mul, mod-lt, div-add-mod'}
use lib.ListN.{length}
use Rattle.bits.specs.Basics.{up_to}
use Rattle.channel.specs.Channel.{unit, layout_symbols}
use Rattle.pool.specs.Pooled.{first_undecided}
use Rattle.pulses.proofs.Laws.Zeros.{some_groups}
use Rattle.slots.proofs.Laws.Bounds.{Bounds, bounds, shape}
use Rattle.slots.specs.Inner.{decided_in}
use Rattle.slots_places.proofs.Laws.Passing.{upto_start, upto_zeros, upto_bad, upto_good, upto_end, parts_zero, parts_in, few_groups, few_symbols}
use Rattle.slots.specs.Inner.{RunSlots}
use Rattle.slots_places.specs.Inner.{Took}
use mathlib.Core.List.{List}
use Rattle.plan.specs.declared.Plan.{Plan}
use Rattle.slots_reader.proofs.sweep.find.Goals as goal

-- the sizes that the needs rest on
known : (p' : Plan) (b words : List ℕ) → (RunSlots p' b × Took p' b 0 words) → Bounds p' × (1 ≤ 320 / p'.group) × (16 * (320 / p'.group) ≤ unit p'.layout) × (16 * (320 / p'.group) ≤ 1024)
known p' b words asked =
    let p = p' in
    let f = asked.0.fine in
    (bounds p f, some_groups p.order p.group (shape p f), few_groups p f, few_symbols p f)

forties : (p : Plan) (b words : List ℕ) → (RunSlots p b × Took p b 0 words) → 40 * (layout_symbols p.layout / (320 / p.group) * p.copies) ≤ length b
forties p b words asked = parts_in p asked.0.fine b asked.0.long

-- the groups of so many forties are among all
inside : (p : Plan) → (e : ℕ) → e ≤ layout_symbols p.layout / (320 / p.group) → e * (320 / p.group) ≤ layout_symbols p.layout
inside p e l =
    let count : ℕ = 320 / p.group in
    let d = div-add-mod' (layout_symbols p.layout) count in
    let m : e * count ≤ layout_symbols p.layout / count * count = mul-le-mul l (le_refl count) in
    omega arith

apart : (c e count : ℕ) → c ≤ e → c * count ≤ e * count
apart c e count l = mul-le-mul l (le_refl count)

pub overflow_add-n : goal.overflow_add-n
overflow_add-n c = let r = (known c.args.p c.args.b.now c.args.words.now c.requires) in omega arith

pub overflow_mul-n : goal.overflow_mul-n
overflow_mul-n c = let r = (known c.args.p c.args.b.now c.args.words.now c.requires) in omega arith

pub nonzero_div-count : goal.nonzero_div-count
nonzero_div-count c = let r = (known c.args.p c.args.b.now c.args.words.now c.requires) in omega arith

pub nonzero_div-whole : goal.nonzero_div-whole
nonzero_div-whole c = (known c.args.p c.args.b.now c.args.words.now c.requires).1

pub zeros-given-requires : goal.zeros-given-requires
zeros-given-requires c = let r = (known c.args.p c.args.b.now c.args.words.now c.requires) in omega arith

pub slice_bounds-zeros_end-end : goal.slice_bounds-zeros_end-end
slice_bounds-zeros_end-end c = sym c.zeros-given.ensures.long

pub zeros_end-c-requires : goal.zeros_end-c-requires
zeros_end-c-requires c = record { copies_least = c.requires.0.fine.copies_least; order = omega arith; room = (forties c.args.p c.args.b.now c.args.words.now c.requires); long = c.zeros-given.ensures.long }

pub loop-c-init : goal.loop-c-init
loop-c-init c =
    let s = c in
    let p = c.args.p in
    let f = c.requires.0.fine in
    let z = c.zeros-given in
    let o = c.zeros_end-c in
    let k : ℕ = o.result in
    let most : k ≤ layout_symbols p.layout / (320 / p.group) = o.ensures.1 in (
      most,
      refl,
      upto_zeros p f s.args.b.now 0 (k * (320 / p.group)) (layout_symbols p.layout) s.args.words.now (upto_start p f s.args.b.now s.args.words.now s.requires.1) (omega arith) ((inside c.args.p) k most)
          (λ i a l. parts_zero p f s.args.b.now _ z.ensures 0 k o.ensures.2 i (omega arith) l),
    )

pub slice_bounds-others_end-end : goal.slice_bounds-others_end-end
slice_bounds-others_end-end c = sym c.zeros-given.ensures.long

pub others_end-e-requires : goal.others_end-e-requires
others_end-e-requires c =
    (record { copies_least = c.requires.0.fine.copies_least; order = c.loop-c.invariant.0; room = (forties c.args.p c.args.b.now c.args.words.now c.requires); long = c.zeros-given.ensures.long }, c.loop-c-test.true)

pub overflow_mul-c : goal.overflow_mul-c
overflow_mul-c c =
    let s = c in
    let r = (known c.args.p c.args.b.now c.args.words.now c.requires) in
    let i = (inside c.args.p) c.loop-c.c c.loop-c.invariant.0 in
    omega arith

pub overflow_mul-e : goal.overflow_mul-e
overflow_mul-e c =
    let s = c in
    let r = (known c.args.p c.args.b.now c.args.words.now c.requires) in
    let o = c.others_end-e in
    let i = (inside c.args.p) o.result o.ensures.1 in
    omega arith

pub look-f-requires : goal.look-f-requires
look-f-requires c =
    let s = c in
    let r = (known c.args.p c.args.b.now c.args.words.now c.requires) in
    let l = c.loop-c in
    let o = c.others_end-e in
    let count : ℕ = 320 / s.args.p.group in
    let some : l.c + 1 ≤ o.result = let q = c.others_end-e.ensures.0 in omega arith in
    let low : (l.c + 1) * count ≤ o.result * count = apart (l.c + 1) o.result count some in
    let high : o.result * count ≤ (l.c + 16) * count = apart o.result (l.c + 16) count o.ensures.2 in
    record { slots = s.requires.0; some = omega arith; most = (inside c.args.p) o.result o.ensures.1; near = omega arith; few = let k = r.3 in omega arith; room = (let room = c.requires.1.room in let e = c.loop-c.invariant.1 in omega arith); known = l.invariant.2.known }

pub overflow_mul-e-in-loop-c : goal.overflow_mul-e-in-loop-c
overflow_mul-e-in-loop-c c =
    let s = c in
    let r = (known c.args.p c.args.b.now c.args.words.now c.requires) in
    let o = c.others_end-e in
    let i = (inside c.args.p) o.result o.ensures.1 in
    omega arith

pub shape_of-words-then-f-e : goal.shape_of-words-then-f-e
shape_of-words-then-f-e c = c.look-f.auto.words ∙ c.loop-c.invariant.1

pub returns-then-f-e : goal.returns-then-f-e
returns-then-f-e c =
    let s = c in
    let p = c.args.p in
    let l = c.loop-c in
    let o = c.others_end-e in
    let f = c.look-f in
    let count : ℕ = 320 / p.group in
    let up : l.c * count ≤ o.result * count = apart l.c o.result count (let q = c.others_end-e.ensures.0 in omega arith) in
    let i = (inside c.args.p) o.result o.ensures.1 in
    let bad = c.if-f-e.true in
    record {
      group_value = upto_bad p s.requires.0.fine s.args.b.now (l.c * count) (o.result * count) l.rest l.words l.invariant.2 up i _ f.ensures.group_value bad;
      known = λ q. absurd (omega arith);
    }

pub slice_bounds-zeros_end-end-in-loop-c : goal.slice_bounds-zeros_end-end-in-loop-c
slice_bounds-zeros_end-end-in-loop-c c = sym c.zeros-given.ensures.long

pub zeros_end-c-requires-in-loop-c : goal.zeros_end-c-requires-in-loop-c
zeros_end-c-requires-in-loop-c c = record { copies_least = c.requires.0.fine.copies_least; order = c.others_end-e.ensures.1; room = (forties c.args.p c.args.b.now c.args.words.now c.requires); long = c.zeros-given.ensures.long }

pub loop-c-smaller : goal.loop-c-smaller
loop-c-smaller c =
    let o = c.others_end-e.ensures in
    let z = c.zeros_end-c-in-loop-c.ensures in
    let t = c.loop-c-test.true in
    omega arith

pub loop-c-preserved : goal.loop-c-preserved
loop-c-preserved c =
    let s = c in
    let p = c.args.p in
    let b = c.args.b.now in
    let fine = c.requires.0.fine in
    let l = c.loop-c in
    let o = c.others_end-e in
    let f = c.look-f in
    let z = c.zeros_end-c-in-loop-c in
    let count : ℕ = 320 / p.group in
    let up : l.c * count ≤ o.result * count = apart l.c o.result count (let q = c.others_end-e.ensures.0 in omega arith) in
    let i = (inside c.args.p) o.result o.ensures.1 in
    let on : o.result * count ≤ z.result * count = apart o.result z.result count z.ensures.0 in
    let good = c.if-f-e.false in (
      z.ensures.1,
      f.auto.words ∙ l.invariant.1,
      upto_zeros p fine b (o.result * count) (z.result * count) _ _
          (upto_good p fine b (l.c * count) (o.result * count) l.rest l.words l.invariant.2 up i _ f.ensures.group_value good _ _ (f.ensures.known good))
          on ((inside c.args.p) z.result z.ensures.1)
          (λ k a m. parts_zero p fine b _ c.zeros-given.ensures o.result z.result z.ensures.2 k a m),
    )

pub overflow_mul-from : goal.overflow_mul-from
overflow_mul-from c =
    let s = c in
    let r = (known c.args.p c.args.b.now c.args.words.now c.requires) in
    let i = (inside c.args.p) (layout_symbols s.args.p.layout / (320 / s.args.p.group)) (le_refl (layout_symbols s.args.p.layout / (320 / s.args.p.group))) in
    omega arith

pub look-requires : goal.look-requires
look-requires c =
    let s = c in
    let p = c.args.p in
    let r = (known c.args.p c.args.b.now c.args.words.now c.requires) in
    let l = c.loop-c in
    let count : ℕ = 320 / p.group in
    let e : l.c ≡ layout_symbols p.layout / count = let t = c.loop-c.invariant.0 in let u = c.loop-c-test.false in omega arith in
    let d = div-add-mod' (layout_symbols p.layout) count in
    let m : layout_symbols p.layout % count < count = mod-lt (layout_symbols p.layout) r.1 in
    let some = c.if-from-n.true in
    record { slots = s.requires.0; some = some; most = le_refl (layout_symbols p.layout); near = omega arith; few = let k = r.3 in omega arith; room = (let room = c.requires.1.room in let e = c.loop-c.invariant.1 in omega arith); known = rw e at l.invariant.2.known }

pub shape_of-words-then-from-n : goal.shape_of-words-then-from-n
shape_of-words-then-from-n c = c.look.auto.words ∙ c.loop-c.invariant.1

pub returns-then-from-n : goal.returns-then-from-n
unfolding first_undecided
returns-then-from-n c =
    let s = c in
    let p = c.args.p in
    let l = c.loop-c in
    let count : ℕ = 320 / p.group in
    let f = c.look in
    let e : layout_symbols p.layout / count ≡ l.c = let t = c.loop-c.invariant.0 in let u = c.loop-c-test.false in omega arith in record {
      group_value = f.ensures.group_value ∙ ap (λ (k : ℕ). up_to (decided_in p s.args.b.now) (k * count) (layout_symbols p.layout)) e ∙ l.invariant.2.groups;
      known = λ q. f.ensures.known (omega arith);
    }

pub shape_of-words : goal.shape_of-words
shape_of-words c = c.loop-c.invariant.1

pub returns : goal.returns
returns c =
    let s = c in
    let p = c.args.p in
    let l = c.loop-c in
    let count : ℕ = 320 / p.group in
    let d = div-add-mod' (layout_symbols p.layout) count in
    let e : l.c ≡ layout_symbols p.layout / count = let t = c.loop-c.invariant.0 in let u = c.loop-c-test.false in omega arith in
    let none = c.if-from-n.false in
    let all : l.c * count ≡ layout_symbols p.layout = rw e (omega arith) in
    let end = upto_end p s.requires.0.fine s.args.b.now (l.c * count) _ _ all l.invariant.2 in
    record {
      group_value = end.0;
      known = λ q. end.1;
    }
