-- The plans and words of the rows for steps 8 and 10 are such as the contracts of crate `slots_writer` ask for.
use mathlib.Core.Path.{◌≡◌, refl}
use mathlib.Core.List.{◌∷◌}
use Prim.Native.Nat.{ℕ, zero, suc, ◌+◌, ◌*◌, ◌/◌, ◌^◌, ◌≤◌, ◌<◌}
use native.Mathlib.Omega.{arith}
use native.Mathlib.Nat.{mul-le-mul, div-le_self}
use lib.Pow.{pow_mono}
use lib.ListN.{get_or, replicate, length-replicate}
use Rattle.plan.specs.Inner.{Fine}
use Rattle.slots.specs.Inner.{Given}
use Rattle.bench_table.specs.Table.{plan, packed}

zeros : (n i : ℕ) → get_or {A = ℕ} (replicate n 0) i 0 < 1
zeros zero i = omega arith
zeros (suc n) zero = omega arith
zeros (suc n) (suc i) = zeros n i

below : (mark order : ℕ) → mark < order → (i : ℕ) → get_or (mark ∷ replicate 31 0) i 0 < order
below mark order h zero = h
below mark order h (suc i) = let z = zeros 31 i in omega arith

fine : (copies m mark : ℕ) → 1 ≤ copies → copies ≤ 32 → 2 ≤ m → m ≤ 8 → 15120 / m * m ≡ 15120 → mark < 2 ^ m → Fine (plan copies m mark)
fine copies m mark some few least most whole h =
    let order : 2 ^ m ≤ 2 ^ 8 = pow_mono most in
    let symbols : 15120 / m ≤ 15120 = div-le_self 15120 m in
    let unit : 1 * (15120 / m + 1) ≤ 15121 = omega arith in
    let group : 2 ^ m + 2 ^ m / 4 ≤ 320 = omega arith in
    record {
      copies_least = some;
      copies_most = few;
      bits_least = least;
      bits_most = most;
      order_is = refl;
      group_is = refl;
      symbols_are = whole;
      words_least = omega arith;
      words_most = omega arith;
      rows_least = omega arith;
      rows_most = omega arith;
      step_most = omega arith;
      lines_are = omega arith;
      markers_least = omega arith;
      markers_most = omega arith;
      marks_are = refl;
      marks_below = below mark (2 ^ m) h;
      symbols_bound = omega arith;
      slots_bound = omega (arith, mul-le-mul unit group);
    }

pub given_symbol : Given (plan 1 4 0) (packed 0b1101_0000)
given_symbol = record { fine = fine 1 4 0 (omega arith) (omega arith) (omega arith) (omega arith) refl (omega arith); long = omega (arith, length-replicate {A = ℕ} 1889 0) }

pub given_slots : Given (plan 1 2 2) (packed 0)
given_slots = record { fine = fine 1 2 2 (omega arith) (omega arith) (omega arith) (omega arith) refl (omega arith); long = omega (arith, length-replicate {A = ℕ} 1889 0) }

pub given_copies : Given (plan 2 2 2) (packed 0)
given_copies = record { fine = fine 2 2 2 (omega arith) (omega arith) (omega arith) (omega arith) refl (omega arith); long = omega (arith, length-replicate {A = ℕ} 1889 0) }
