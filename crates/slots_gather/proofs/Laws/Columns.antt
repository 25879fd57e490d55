-- Bytes of a row, n apart: one more, and some more.
use mathlib.Core.Path.{◌≡◌, refl, sym, ap, ◌∙◌}
use mathlib.Core.List.{List}
use mathlib.Core.Logic.{⊎_elim}
use Prim.Native.Nat.{ℕ, ◌+◌, ◌-◌, ◌*◌, ◌/◌, ◌%◌, ◌≤◌, ◌<◌}
use native.Mathlib.Omega.{arith}
use native.Mathlib.Nat.{le_refl, mul-le-mul, add-mul, div-add-mod'}
use Rattle.std.specs.Int.{div_ceil}
use Rattle.std.proofs.lemmas.Grind.{div_ceil_times}
use lib.ListN.{length, get_or, set, length-set}
use lib.Seq.{get_or-set_same, get_or-set_other}
use Rattle.bits.proofs.Laws.Choice.{lt_or_le}
use Rattle.slots_gather.specs.Inner.{Column, Places, Strides}

pub column_none : (before : List ℕ) (from n : ℕ) (f : ℕ → ℕ) → Column before from n 0 f before
column_none before from n f = record { long = refl; here = λ j l. absurd (omega arith); others = λ k h. refl }

pub column_one : (before : List ℕ) (from n v : ℕ) (f : ℕ → ℕ) → from < length before → v ≡ f 0 → Column before from n 1 f (set before from v)
column_one before from n v f l e =
    record {
      long = length-set before from v;
      here = λ j h.
          let z : j ≡ 0 = omega arith in
          let at : from + j * n ≡ from = ap (λ (i : ℕ). from + i * n) z ∙ (let d : from + 0 * n ≡ from = omega arith in d) in
          ap (λ (i : ℕ). get_or (set before from v) i 0) at ∙ get_or-set_same before from v 0 l ∙ e ∙ ap f (sym z);
      others = λ k h. get_or-set_other before from k v 0 (λ q. h 0 (omega arith) (omega arith));
    }

pub column_at_lem : (before after : List ℕ) (from to n count : ℕ) (f : ℕ → ℕ) → from ≡ to → Column before from n count f after → Column before to n count f after
column_at_lem before after from to n count f e c = rw e at c

pub column_same : (before after : List ℕ) (from n count : ℕ) (f g : ℕ → ℕ) → ((j : ℕ) → j < count → f j ≡ g j) → Column before from n count f after → Column before from n count g after
column_same before after from n count f g same c = record { long = c.long; here = λ j l. c.here j l ∙ same j l; others = c.others }

-- a bytes, and b more
pub column_on : (before middle after : List ℕ) (from n a b : ℕ) (f g : ℕ → ℕ) → 1 ≤ n → Column before from n a f middle → Column middle (from + a * n) n b g after
    → ((j : ℕ) → j < b → g j ≡ f (a + j)) → Column before from n (a + b) f after
column_on before middle after from n a b f g pos p q same =
    let on : (j : ℕ) → from + (a + j) * n ≡ from + a * n + j * n = λ j. omega (arith, add-mul a j n) in
    record {
      long = q.long ∙ p.long;
      here = λ j l. ⊎_elim
          (λ (h : j < a).
          q.others (from + j * n) (λ i k e.
          let up : j + 1 ≤ a = omega arith in
          let m : (j + 1) * n ≤ a * n = mul-le-mul up (le_refl n) in
          omega arith)
          ∙ p.here j h)
          (λ (h : a ≤ j).
          let i : a + (j - a) ≡ j = omega arith in
          ap (λ (x : ℕ). get_or after x 0) (ap (λ (x : ℕ). from + x * n) (sym i) ∙ on (j - a)) ∙ q.here (j - a) (omega arith) ∙ same (j - a) (omega arith) ∙ ap f i)
          (lt_or_le j a);
      others = λ k h.
          q.others k (λ j l e. h (a + j) (omega arith) (e ∙ sym (on j)))
          ∙ p.others k (λ j l e. h j (omega arith) e);
    }

-- the bytes from x on that are the same modulo n
pub apart : (n x y : ℕ) → 1 ≤ n → x % n ≡ y % n → x ≤ y → y ≡ x + (y / n - x / n) * n
apart n x y pos e l =
    let dx = div-add-mod' x n in
    let dy = div-add-mod' y n in
    let order : x / n ≤ y / n =
    ⊎_elim
    (λ (h : y / n < x / n).
    let up : y / n + 1 ≤ x / n = omega arith in
    let m : (y / n + 1) * n ≤ x / n * n = mul-le-mul up (le_refl n) in
    absurd (omega arith))
    (λ (h : x / n ≤ y / n). h)
    (lt_or_le (y / n) (x / n)) in
    let parts : x / n + (y / n - x / n) ≡ y / n = omega arith in
    let m : (x / n + (y / n - x / n)) * n ≡ y / n * n = ap (λ (k : ℕ). k * n) parts in
    omega (arith, add-mul (x / n) (y / n - x / n) n)

-- ---- places, n apart

pub places_ceil : (x end n : ℕ) → 1 ≤ n → Places x end n (div_ceil (end - x) n)
places_ceil x end n pos =
    let q : ℕ = div_ceil (end - x) n in
    let h = div_ceil_times (end - x) n pos in
    record {
      before = λ j l.
          let up : j + 1 ≤ q = omega arith in
          let m : (j + 1) * n ≤ q * n = mul-le-mul up (le_refl n) in
          omega (arith, h.1);
      all = λ j l. ⊎_elim
          (λ (k : j < q). k)
          (λ (k : q ≤ j). let m : q * n ≤ j * n = mul-le-mul k (le_refl n) in absurd (omega (arith, h.0)))
          (lt_or_le j q);
    }

pub places_most : (x end n count : ℕ) → 1 ≤ n → Places x end n count → count ≤ end
places_most x end n count pos p =
    ⊎_elim
    (λ (l : count < 1). omega arith)
    (λ (l : 1 ≤ count).
    let last : count - 1 < count = omega arith in
    let b = p.before (count - 1) last in
    let m : (count - 1) * 1 ≤ (count - 1) * n = mul-le-mul (le_refl (count - 1)) pos in
    omega arith)
    (lt_or_le count 1)

-- ---- a part of the bytes

pub strides_part : (at step shift mask : ℕ) (words : List ℕ) (from n count : ℕ) (row after : List ℕ) (j k : ℕ) → Strides at step shift mask words from n count row → j + k ≤ count
    → length after ≡ length row → Strides (at + j * step) step shift mask words (from + j * n) n k after
strides_part at step shift mask words from n count row after j k s l e =
    let a : (j + k) * step ≤ count * step = mul-le-mul l (le_refl step) in
    let b : (j + k) * n ≤ count * n = mul-le-mul l (le_refl n) in
    let x = s.at_most in
    let y = s.from_most in
    record {
      shift_most = s.shift_most;
      mask_most = s.mask_most;
      step_most = s.step_most;
      n_least = s.n_least;
      n_most = s.n_most;
      at_most = omega (arith, add-mul j k step);
      from_most = omega (arith, add-mul j k n);
      inside = λ i h. let z = s.inside (j + i) (omega arith) in omega (arith, add-mul j i step);
      room = λ i h. let z = s.room (j + i) (omega arith) in omega (arith, add-mul j i n);
    }

pub strides_same : (at step shift mask : ℕ) (words : List ℕ) (from n count : ℕ) (row after : List ℕ) → Strides at step shift mask words from n count row
    → length after ≡ length row → Strides at step shift mask words from n count after
strides_same at step shift mask words from n count row after s e =
    record {
      shift_most = s.shift_most;
      mask_most = s.mask_most;
      step_most = s.step_most;
      n_least = s.n_least;
      n_most = s.n_most;
      at_most = s.at_most;
      from_most = s.from_most;
      inside = s.inside;
      room = λ j l. rw e (s.room j l);
    }
