-- It stays among the next sixteen.
use mathlib.Core.Path.{◌≡◌, ◌∙◌}
use Prim.Native.Nat.{ℕ, ◌+◌, ◌*◌, ◌/◌, ◌≤◌, ◌<◌, min}
use native.Mathlib.Omega.{arith}
use native.Mathlib.Nat.{le_refl, mul-le-mul, le-div_iff_mul-le, div-lt_iff_lt-mul}
use Rattle.slots_reader.specs.Inner.{Parts}
use mathlib.Core.List.{List}
use Rattle.slots_reader.proofs.sweep.others_end.Goals as goal

-- the next part, and those up to the end
next : (b given : List ℕ) (copies c n : ℕ) → (Parts b given copies c n × (c < n)) → (end : ℕ) → end ≡ min n (c + 16) → ((c + 1) * copies ≤ end * copies) × (end * copies ≤ n * copies)
next b given copies c n asked end e =
    let l = asked.1 in
    let low : c + 1 ≤ end = omega arith in
    let high : end ≤ n = omega arith in
    (mul-le-mul low (le_refl copies), mul-le-mul high (le_refl copies))

pub overflow_add-c : goal.overflow_add-c
overflow_add-c c =
    let s = c in
    let h = c.requires.0 in
    let r = c.requires.0.room in
    let l = c.requires.1 in
    let m : s.args.n * 1 ≤ s.args.n * s.args.copies = mul-le-mul (le_refl s.args.n) h.copies_least in
    omega arith

pub overflow_mul-c : goal.overflow_mul-c
overflow_mul-c c =
    let s = c in
    let r = c.requires.0.room in
    let k = (next c.args.b.now c.args.given.now c.args.copies c.args.c c.args.n c.requires) c.min-end.result c.min-end.ensures in
    omega arith

pub overflow_mul-end : goal.overflow_mul-end
overflow_mul-end c =
    let s = c in
    let r = c.requires.0.room in
    let k = (next c.args.b.now c.args.given.now c.args.copies c.args.c c.args.n c.requires) c.min-end.result c.min-end.ensures in
    omega arith

pub past_others-requires : goal.past_others-requires
past_others-requires c =
    let s = c in
    let r = c.requires.0.room in
    let k = (next c.args.b.now c.args.given.now c.args.copies c.args.c c.args.n c.requires) c.min-end.result c.min-end.ensures in
    record { order = k.0; room = omega arith; long = s.requires.0.long }

pub returns : goal.returns
returns c =
    let s = c in
    let pos : 0 < s.args.copies = s.requires.0.copies_least in
    let o = c.past_others in
    let q : ℕ = o.result in
    let end : ℕ = c.min-end.result in
    let e : end ≡ min s.args.n (s.args.c + 16) = c.min-end.ensures in
    let from : s.args.c + 1 ≤ q / s.args.copies = (le-div_iff_mul-le pos).1 o.ensures.0 in
    let high : q < (end + 1) * s.args.copies = let m = c.past_others.ensures.1 in omega arith in
    let to : q / s.args.copies < end + 1 = (div-lt_iff_lt-mul pos).1 high in
    (omega arith, omega arith, omega arith)
