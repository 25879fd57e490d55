-- How far step 9 takes neighbours apart: the symbols of two places in a stretch of N are at least B-as-N - 1 apart.
use mathlib.Core.Path.{◌≡◌, ap}
use mathlib.Core.Logic.{◌⊎◌, inl, inr, ⊎_elim}
use Prim.Native.Nat.{ℕ, ◌+◌, ◌-◌, ◌*◌, ◌/◌, ◌%◌, ◌≤◌, ◌<◌}
use native.Mathlib.Omega.{arith}
use native.Mathlib.Nat.{le_refl, mul-le-mul, mod-lt, mod-eq_of_lt, mul-mod_left, div-add-mod'}
use Rattle.bits.proofs.Laws.Choice.{lt_or_le, eq_or_ne}
use Rattle.channel.specs.declared.Layout.{Layout}
use Rattle.channel.specs.Channel.{place}
use Rattle.channel.proofs.Laws.Places.{place_on, same_apart}

-- two numbers, in either order
abbrev pub Apart : ℕ → ℕ → ℕ → Type 0
Apart d t u = (t + d ≤ u) ⊎ (u + d ≤ t)

-- in a stretch of n, a greater remainder is as far on as it is greater
further : (n x y : ℕ) → x < y → y < x + n → x % n < y % n → x + (y % n - x % n) ≡ y
further n x y a b l =
    let dx = div-add-mod' x n in
    let dy = div-add-mod' y n in
    ⊎_elim
    (λ (h : x / n < y / n). let up : x / n + 1 ≤ y / n = omega arith in absurd (omega (arith, mul-le-mul up (le_refl n))))
    (λ (h : y / n ≤ x / n). ⊎_elim
    (λ (k : y / n < x / n).
    let down : y / n + 1 ≤ x / n = omega arith in
    let m : y % n < n = mod-lt y (omega arith) in
    absurd (omega (arith, mul-le-mul down (le_refl n))))
    (λ (k : x / n ≤ y / n). let e : x / n * n ≡ y / n * n = ap (λ (q : ℕ). q * n) (omega arith) in omega arith)
    (lt_or_le (y / n) (x / n)))
    (lt_or_le (x / n) (y / n))

module _ (g : Layout) (rows_least : 1 ≤ g.rows) (step_least : 1 ≤ g.step) where
  -- a residue up is a delay of B-as-N more, and a place on takes 1 back from it
  upward : (t u : ℕ) → place g t < place g u → place g u < place g t + g.rows → Apart (g.step * g.rows - 1) t u
  upward t u a b =
      let x : ℕ = place g t in
      let y : ℕ = place g u in
      let k : ℕ = g.step * g.rows in
      let some : 1 ≤ k = mul-le-mul {n₁ = 1} step_least rows_least in
      let ex : x ≡ t + x % g.rows * k = place_on g t in
      let ey : y ≡ u + y % g.rows * k = place_on g u in
      ⊎_elim
      (λ (l : x % g.rows < y % g.rows).
      let d : ℕ = y % g.rows - x % g.rows in
      let on : x + d ≡ y = further g.rows x y a b l in
      let e : x % g.rows + d ≡ y % g.rows = omega arith in
      let split : (x % g.rows + d) * k ≡ y % g.rows * k = ap (λ (r : ℕ). r * k) e in
      let less : k - 1 + 1 ≡ k = omega arith in
      let whole : d * (k - 1 + 1) ≡ d * k = ap (λ (z : ℕ). d * z) less in
      let one : 1 * (k - 1) ≤ d * (k - 1) = let p : 1 ≤ d = omega arith in mul-le-mul p (le_refl (k - 1)) in
      inr (omega arith))
      (λ (l : y % g.rows ≤ x % g.rows). ⊎_elim
      (λ (s : x % g.rows ≡ y % g.rows). absurd (let far = same_apart g.rows x y s a in omega arith))
      (λ (s : x % g.rows ≡ y % g.rows → ⊥).
      let more : y % g.rows + 1 ≤ x % g.rows = omega arith in
      inl (omega (arith, mul-le-mul more (le_refl k))))
      (eq_or_ne (x % g.rows) (y % g.rows)))
      (lt_or_le (x % g.rows) (y % g.rows))

  pub far_apart : (t u : ℕ) → (place g t ≡ place g u → ⊥) → place g t < place g u + g.rows → place g u < place g t + g.rows
      → Apart (g.step * g.rows - 1) t u
  far_apart t u ne a b =
      ⊎_elim
      (λ (l : place g t < place g u). upward t u l b)
      (λ (l : place g u ≤ place g t). ⊎_elim (λ (h : u + (g.step * g.rows - 1) ≤ t). inr h) (λ (h : t + (g.step * g.rows - 1) ≤ u). inl h) (upward u t (omega arith) a))
      (lt_or_le (place g t) (place g u))

-- no more can be said: symbols B-as-N and 1 stand side by side
pub side_by_side : (g : Layout) → 2 ≤ g.rows → place g 1 ≡ place g (g.step * g.rows) + 1
unfolding place
side_by_side g two =
    let one : 1 % g.rows ≡ 1 = mod-eq_of_lt two in
    let none : g.step * g.rows % g.rows ≡ 0 = mul-mod_left g.step g.rows in
    rw (one, none) (omega arith)
