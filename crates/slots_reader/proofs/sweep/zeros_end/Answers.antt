-- A part before the one with the first other forty has zeros' alone.
use Prim.Native.Nat.{ℕ, ◌+◌, ◌*◌, ◌/◌, ◌≤◌, ◌<◌}
use native.Mathlib.Omega.{arith}
use native.Mathlib.Nat.{le_refl, mul-le-mul, div-mul-le_self, le-div_iff_mul-le, div-lt_iff_lt-mul}
use Rattle.slots_reader.specs.Inner.{Parts}
use mathlib.Core.List.{List}
use Rattle.slots_reader.proofs.sweep.zeros_end.Goals as goal

ordered : (b given : List ℕ) (copies c n : ℕ) → Parts b given copies c n → c * copies ≤ n * copies
ordered b given copies c n asked = mul-le-mul asked.order (le_refl copies)

pub overflow_mul-c : goal.overflow_mul-c
overflow_mul-c c = let s = c in let o = (ordered c.args.b.now c.args.given.now c.args.copies c.args.c c.args.n c.requires) in let r = c.requires.room in omega arith

pub past_zeros-requires : goal.past_zeros-requires
past_zeros-requires c = let s = c in record { order = (ordered c.args.b.now c.args.given.now c.args.copies c.args.c c.args.n c.requires); room = s.requires.room; long = s.requires.long }

pub returns : goal.returns
returns c =
    let s = c in
    let k = c.args.copies in
    let pos : 0 < k = s.requires.copies_least in
    let o = c.past_zeros in
    let q : ℕ = o.result in
    let low : q / k * k ≤ q = div-mul-le_self q k in
    let high : q < (s.args.n + 1) * k = let m = c.past_zeros.ensures.1 in omega arith in
    let most : q / k < s.args.n + 1 = (div-lt_iff_lt-mul pos).1 high in
    ((le-div_iff_mul-le pos).1 o.ensures.0, omega arith, λ i a l. o.ensures.2 i a (omega arith))
