-- Eight groups of five slots whose every fifth bits say that each has a single pulse: that pulse is where the two bits say.
use mathlib.Core.Path.{◌≡◌, refl, sym, ap, ap₂, ◌∙◌}
use mathlib.Core.Bool.{Bool, true}
use mathlib.Core.List.{List}
use mathlib.Core.Logic.{⊎_elim}
use Prim.Native.Nat.{ℕ, ◌+◌, ◌-◌, ◌*◌, ◌/◌, ◌%◌, ◌^◌, ◌≤◌, ◌<◌}
use native.Mathlib.Omega.{arith}
use lib.Bits.{bit_or, bit_and, bit_xor}
use lib.Pow.{shr-shr}
use lib.Dec.{ltb, eqb}
use lib.ListN.{get_or}
use borrow.Author.Tests.{ltb-true, eq-eqb, ne_eqb, eqb-true}
use Rattle.bits.specs.Basics.{pick, bool, both}
use Rattle.bits.proofs.Laws.Choice.{lt_or_le, eq_or_ne, bit_cases}
use Rattle.bits.specs.Inner.{bits_from}
use Rattle.bits.specs.Pack.{val, bit_at}
use Rattle.bits.proofs.Laws.Pack.{bit_lt, bit_val}
use Rattle.bits.proofs.Laws.Table.{both_true}
use Rattle.pulses.proofs.Laws.Groups.{group_made}
use Rattle.pulses.specs.Pulses.{symbol_in}
use Rattle.pulses_rows.specs.Inner.{Known, Reached, digit, five_of, Single, Fives}

-- ---- four slots: a test of all sixteen cases, which antt computes

abbrev place : ℕ → ℕ → ℕ → ℕ
place p q r = 2 * bit_or q r + bit_or p r

abbrev fine : ℕ → ℕ → ℕ → ℕ → ℕ → Bool
fine a p q r n = both (ltb n 4) (both (eqb a (bool (eqb 0 n))) (both (eqb p (bool (eqb 1 n))) (both (eqb q (bool (eqb 2 n))) (eqb r (bool (eqb 3 n))))))

abbrev told : ℕ → ℕ → ℕ → ℕ → Bool
told a p q r =
    pick (eqb (bit_xor (bit_xor (bit_xor a p) q) r) 1) (pick (eqb (bit_and a p) 0) (pick (eqb (bit_and q r) 0) (fine a p q r (place p q r)) true) true) true

bits : (t : ℕ → Bool) → t 0 ≡ true → t 1 ≡ true → (b : ℕ) → b < 2 → t b ≡ true
bits t x y b h = ⊎_elim (λ (e : b ≡ 0). rw e x) (λ (e : b ≡ 1). rw e y) (bit_cases b h)

sixteen : (a p q r : ℕ) → a < 2 → p < 2 → q < 2 → r < 2 → told a p q r ≡ true
sixteen a p q r ha hp hq hr =
    bits (λ a. told a p q r)
    (bits (λ p. told 0 p q r)
    (bits (λ q. told 0 0 q r)
    (bits (λ r. told 0 0 0 r) refl refl r hr)
    (bits (λ r. told 0 0 1 r) refl refl r hr)
    q hq)
    (bits (λ q. told 0 1 q r)
    (bits (λ r. told 0 1 0 r) refl refl r hr)
    (bits (λ r. told 0 1 1 r) refl refl r hr)
    q hq)
    p hp)
    (bits (λ p. told 1 p q r)
    (bits (λ q. told 1 0 q r)
    (bits (λ r. told 1 0 0 r) refl refl r hr)
    (bits (λ r. told 1 0 1 r) refl refl r hr)
    q hq)
    (bits (λ q. told 1 1 q r)
    (bits (λ r. told 1 1 0 r) refl refl r hr)
    (bits (λ r. told 1 1 1 r) refl refl r hr)
    q hq)
    p hp)
    a ha

-- so five slots hold the pulse of that symbol
single_slots : (x : ℕ → ℕ) → ((i : ℕ) → x i < 2) → Single (x 0) (x 1) (x 2) (x 3) (x 4) → (place (x 1) (x 2) (x 3) < 4) × ((i : ℕ) → i < 5 → x i ≡ bool (eqb i (place (x 1) (x 2) (x 3))))
single_slots x b s =
    let n : ℕ = place (x 1) (x 2) (x 3) in
    let t = sixteen (x 0) (x 1) (x 2) (x 3) (b 0) (b 1) (b 2) (b 3) in
    let all : fine (x 0) (x 1) (x 2) (x 3) n ≡ true =
    rw (eq-eqb (bit_xor (bit_xor (bit_xor (x 0) (x 1)) (x 2)) (x 3)) 1 s.odd, eq-eqb (bit_and (x 0) (x 1)) 0 s.first, eq-eqb (bit_and (x 2) (x 3)) 0 s.second) at t in
    let f = both_true (ltb n 4) (both (eqb (x 0) (bool (eqb 0 n))) (both (eqb (x 1) (bool (eqb 1 n))) (both (eqb (x 2) (bool (eqb 2 n))) (eqb (x 3) (bool (eqb 3 n)))))) all in
    let g = both_true (eqb (x 0) (bool (eqb 0 n))) (both (eqb (x 1) (bool (eqb 1 n))) (both (eqb (x 2) (bool (eqb 2 n))) (eqb (x 3) (bool (eqb 3 n))))) f.1 in
    let h = both_true (eqb (x 1) (bool (eqb 1 n))) (both (eqb (x 2) (bool (eqb 2 n))) (eqb (x 3) (bool (eqb 3 n)))) g.1 in
    let k = both_true (eqb (x 2) (bool (eqb 2 n))) (eqb (x 3) (bool (eqb 3 n))) h.1 in
    let small : n < 4 = ltb-true n 4 f.0 in (
      small,
      λ i l.
          ⊎_elim (λ (e : i ≡ 0). rw e (eqb-true (x 0) (bool (eqb 0 n)) g.0))
          (λ (e0 : i ≡ 0 → ⊥). ⊎_elim (λ (e : i ≡ 1). rw e (eqb-true (x 1) (bool (eqb 1 n)) h.0))
          (λ (e1 : i ≡ 1 → ⊥). ⊎_elim (λ (e : i ≡ 2). rw e (eqb-true (x 2) (bool (eqb 2 n)) k.0))
          (λ (e2 : i ≡ 2 → ⊥). ⊎_elim (λ (e : i ≡ 3). rw e (eqb-true (x 3) (bool (eqb 3 n)) k.1))
          (λ (e3 : i ≡ 3 → ⊥). let e : i ≡ 4 = last i l e0 e1 e2 e3 in rw (e, ne_eqb 4 n (λ z. omega arith)) s.guard)
          (eq_or_ne i 3)) (eq_or_ne i 2)) (eq_or_ne i 1)) (eq_or_ne i 0),
    )
  where
    last : (i : ℕ) → i < 5 → (i ≡ 0 → ⊥) → (i ≡ 1 → ⊥) → (i ≡ 2 → ⊥) → (i ≡ 3 → ⊥) → i ≡ 4
    last i l a b c d = ⊎_elim (λ (e : i < 4). absurd (⊎_elim (λ (f : i < 2). ⊎_elim (λ (g : i < 1). a (omega arith)) (λ (g : 1 ≤ i). b (omega arith)) (lt_or_le i 1))
        (λ (f : 2 ≤ i). ⊎_elim (λ (g : i < 3). c (omega arith)) (λ (g : 3 ≤ i). d (omega arith)) (lt_or_le i 3)) (lt_or_le i 2))) (λ (e : 4 ≤ i). omega arith) (lt_or_le i 4)

-- ---- the eight groups of a number

module _ (b : List ℕ) (s at v : ℕ) (here : s * 5 ≡ 8 * at) (number : v ≡ val (bits_from b (8 * at)) 64) where
  abbrev low : ℕ
  low = v / 2 ^ 24

  slot_digit : (k t : ℕ) → k < 8 → t < 5 → bit_at b ((s + k) * 5 + t) ≡ digit low (5 * (7 - k) + (4 - t))
  slot_digit k t l h =
      let i : ℕ = 5 * k + t in
      let j : ℕ = 5 * (7 - k) + (4 - t) in
      let e : (s + k) * 5 + t ≡ 8 * at + i = omega arith in
      let d : 24 + j ≡ 63 - i = omega arith in
      ap (bit_at b) e
      ∙ sym (bit_val (bits_from b (8 * at)) (λ n. bit_lt b (8 * at + n)) (63 - i) i 64 (omega arith))
      ∙ ap₂ (λ (w n : ℕ). w / 2 ^ n % 2) (sym number) (sym d)
      ∙ sym (ap (λ (n : ℕ). n % 2) (shr-shr v 24 j))

  five_symbol : (k w : ℕ) → k < 8 → Single (digit low (5 * (7 - k) + 4)) (digit low (5 * (7 - k) + 3)) (digit low (5 * (7 - k) + 2)) (digit low (5 * (7 - k) + 1)) (digit low (5 * (7 - k)))
      → five_of w (7 - k) ≡ 2 * bit_or (digit low (5 * (7 - k) + 2)) (digit low (5 * (7 - k) + 1)) + bit_or (digit low (5 * (7 - k) + 3)) (digit low (5 * (7 - k) + 1))
      → (symbol_in 4 5 b (s + k) < 4) × (five_of w (7 - k) ≡ symbol_in 4 5 b (s + k))
  five_symbol k w l one e =
      let x : ℕ → ℕ = λ t. bit_at b ((s + k) * 5 + t) in
      let x0 = slot_digit k 0 l (omega arith) in
      let x1 = slot_digit k 1 l (omega arith) in
      let x2 = slot_digit k 2 l (omega arith) in
      let x3 = slot_digit k 3 l (omega arith) in
      let x4 : x 4 ≡ digit low (5 * (7 - k)) = slot_digit k 4 l (omega arith) ∙ ap (digit low) (omega arith) in
      let so : Single (x 0) (x 1) (x 2) (x 3) (x 4) = rw (x0, x1, x2, x3, x4) one in
      let f = single_slots x (λ t. bit_lt b ((s + k) * 5 + t)) so in
      let n : ℕ = place (x 1) (x 2) (x 3) in
      let m : five_of w (7 - k) ≡ n = rw (x1, x2, x3) e in
      let symbol : symbol_in 4 5 b (s + k) ≡ n = group_made 4 5 (omega arith) b (s + k) n (record { small = f.0; slot = f.1 }) in
      (rw symbol f.0, m ∙ sym symbol)

  -- in a row that holds them
  pub eight_known : (from w : ℕ) (before row : List ℕ) → from ≤ s → Known 4 (symbol_in 4 5 b) from (s - from) before → Fives before (s - from) 8 w row
      → ((k : ℕ) → k < 8 → Single (digit low (5 * k + 4)) (digit low (5 * k + 3)) (digit low (5 * k + 2)) (digit low (5 * k + 1)) (digit low (5 * k)))
      → ((k : ℕ) → k < 8 → five_of w k ≡ 2 * bit_or (digit low (5 * k + 2)) (digit low (5 * k + 1)) + bit_or (digit low (5 * k + 3)) (digit low (5 * k + 1)))
      → Reached 4 (symbol_in 4 5 b) before from (s + 8) (s + 8) row
  eight_known from w before row l known laid one is =
      record {
        least = omega arith;
        most = omega arith;
        long = laid.long;
        known = λ i h. ⊎_elim
            (λ (g : i < s - from). ((known i g).0, laid.earlier i g ∙ (known i g).1))
            (λ (g : s - from ≤ i).
            let k : ℕ = i - (s - from) in
            let hk : k < 8 = omega arith in
            let at : s - from + k ≡ i = omega arith in
            let to : s + k ≡ from + i = omega arith in
            let f = five_symbol k w hk (one (7 - k) (omega arith)) (is (7 - k) (omega arith)) in
            let q : get_or row (s - from + k) 0 ≡ symbol_in 4 5 b (s + k) = laid.here k hk ∙ f.1 in
            (rw to at f.0, rw (at, to) at q))
            (lt_or_le i (s - from));
      }

  -- or not
  pub eight_kept : (from w : ℕ) (before row : List ℕ) → from ≤ s → Known 4 (symbol_in 4 5 b) from (s - from) before → Fives before (s - from) 8 w row → Reached 4 (symbol_in 4 5 b) before from (s + 8) s row
  eight_kept from w before row l known laid =
      record { least = l; most = omega arith; long = laid.long; known = λ i g. ((known i g).0, laid.earlier i g ∙ (known i g).1) }
