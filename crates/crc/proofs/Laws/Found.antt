-- What the check finds: every difference that lies within 32 consecutive bits, in the block, in the check field or across the border.
--
-- The registers of two sequences differ by what a register of zeros makes of the sum of their bits. The lowest bit of a register after a step
-- is that step's feedback, since the polynomial has a term 1. So a register of zeros was one of zeros before a zero bit, and 32 bits that a
-- register of zeros turns into zeros are zeros themselves.
use mathlib.Core.Path.{◌≡◌, refl, sym, ap, ap₂, ◌∙◌}
use mathlib.Core.Logic.{⊎_elim}
use Prim.Native.Nat.{ℕ, zero, suc, ◌+◌, ◌-◌, ◌*◌, ◌/◌, ◌%◌, ◌^◌, ◌≤◌, ◌<◌}
use native.Mathlib.Omega.{arith}
use native.Mathlib.Nat.{pow-suc, mul_assoc, mul-div-mul_right, zero-div}
use lib.Bits.{bit_xor, xor_zero_r, xor_mod}
use lib.Pow.{pow-add, pow_pos}
use Rattle.bits.proofs.Laws.Choice.{bit_cases, lt_or_le}
use Rattle.bits.proofs.Laws.First.{FirstOne, FarOnes, one_or_none}
use Rattle.bits.proofs.Laws.Sum.{xor_bit, xor_same, same_xor}
use Rattle.bits.specs.Pack.{Bits, val, cut}
use Rattle.bits.proofs.Laws.Pack.{val_lt, bit_val, cut_in, cut_past, cut_bits}
use Rattle.crc.specs.Check.{polynomial, advance, register, check_bit}
use Rattle.crc.proofs.Laws.Check.{register_lt, check_bit_lem}
use Rattle.crc.specs.Inner.{advances}
use Rattle.crc.proofs.Laws.Bytes.{advances_lt, advances_same, advances_plus, advances_on, register_on}
use Rattle.crc.proofs.Laws.Difference.{registers_plus}

-- the bits of x and y below n differ only within the 32 places from `start` on
abbrev pub DifferWithin : (ℕ → ℕ) → (ℕ → ℕ) → ℕ → ℕ → Type 0
DifferWithin x y n start = (j : ℕ) → j < n → (x j ≡ y j → ⊥) → (start ≤ j) × (j < start + 32)

-- ---- one step

-- the lowest bit after a step is the feedback
low_bit : (r b : ℕ) → r < 2 ^ 32 → b < 2 → advance r b % 2 ≡ bit_xor (r / 2 ^ 31) b
unfolding advance
low_bit r b hr hb =
    let f : ℕ = bit_xor (r / 2 ^ 31) b in
    let hf : f < 2 = xor_bit (r / 2 ^ 31) b (omega arith) hb in
    let shifted : r * 2 % 2 ^ 32 % 2 ≡ 0 = omega arith in
    let fed : f * polynomial % 2 ≡ f = omega arith in
    xor_mod (r * 2 % 2 ^ 32) (f * polynomial) 1 ∙ ap₂ bit_xor shifted fed

-- a bit that is the top bit only shifts
shifts : (r b : ℕ) → r / 2 ^ 31 ≡ b → advance r b ≡ r * 2 % 2 ^ 32
unfolding advance
shifts r b e = rw (xor_same (r / 2 ^ 31) b e) (xor_zero_r (r * 2 % 2 ^ 32))

-- a zero bit makes zeros only of zeros
zero_before : (r : ℕ) → r < 2 ^ 32 → advance r 0 ≡ 0 → r ≡ 0
zero_before r h e =
    let top : r / 2 ^ 31 ≡ 0 = same_xor (r / 2 ^ 31) 0 (sym (low_bit r 0 h (omega arith)) ∙ ap (λ (s : ℕ). s % 2) e) in
    let kept : r * 2 % 2 ^ 32 ≡ r * 2 = omega arith in
    let z : r * 2 ≡ 0 = sym kept ∙ sym (shifts r 0 top) ∙ e in
    omega arith

-- ---- several

-- zeros stay zeros
pub zeros_stay : (x : ℕ → ℕ) (n : ℕ) → ((i : ℕ) → i < n → x i ≡ 0) → advances 0 x n ≡ 0
unfolding advances
zeros_stay x zero h = refl
zeros_stay x (suc n) h =
    ap₂ advance (zeros_stay x n (λ i l. h i (omega arith))) (h n (omega arith)) ∙ shifts 0 0 refl

pub zeros_before : (r : ℕ) (x : ℕ → ℕ) → r < 2 ^ 32 → Bits x → (n : ℕ) → ((i : ℕ) → i < n → x i ≡ 0) → advances r x n ≡ 0 → r ≡ 0
unfolding advances
zeros_before r x hr hx zero h e = e
zeros_before r x hr hx (suc n) h e =
    zeros_before r x hr hx n (λ i l. h i (omega arith))
    (zero_before (advances r x n) (advances_lt r x hr hx n) (ap (advance (advances r x n)) (sym (h n (omega arith))) ∙ e))

-- a register that meets its own bits, the top one first, only shifts
meets : (r : ℕ) → r < 2 ^ 32 → (j : ℕ) → j ≤ 32 → advances r (check_bit r) j ≡ r * 2 ^ j % 2 ^ 32
unfolding advances check_bit
meets r hr zero h = omega arith
meets r hr (suc j) h =
    let m : ℕ = r * 2 ^ j in
    let e : 31 - j + j ≡ 31 = omega arith in
    let p : 2 ^ 31 ≡ 2 ^ (31 - j) * 2 ^ j = sym (ap (λ (n : ℕ). 2 ^ n) e) ∙ pow-add 2 (31 - j) j in
    let q : m / 2 ^ 31 ≡ r / 2 ^ (31 - j) = ap (λ (n : ℕ). m / n) p ∙ mul-div-mul_right r (2 ^ (31 - j)) (pow_pos j) in
    let top : m % 2 ^ 32 / 2 ^ 31 ≡ r / 2 ^ (31 - j) % 2 = omega arith in
    let on : m % 2 ^ 32 * 2 % 2 ^ 32 ≡ m * 2 % 2 ^ 32 = omega arith in
    ap (λ (s : ℕ). advance s (check_bit r j)) (meets r hr j (omega arith))
    ∙ shifts (m % 2 ^ 32) (check_bit r j) top
    ∙ on
    ∙ ap (λ (n : ℕ). n % 2 ^ 32) (mul_assoc r (2 ^ j) 2 ∙ ap (λ (n : ℕ). r * n) (sym (pow-suc 2 j)))

-- and is gone after all 32
pub field_meets : (r : ℕ) → r < 2 ^ 32 → advances r (check_bit r) 32 ≡ 0
field_meets r h = meets r h 32 (omega arith) ∙ omega arith

-- 32 bits that a register of zeros turns into zeros are zeros: their number v meets them too, so zero bits turn v into zeros
zeros_alone : (d : ℕ → ℕ) → Bits d → advances 0 d 32 ≡ 0 → (i : ℕ) → i < 32 → d i ≡ 0
unfolding check_bit
zeros_alone d h e i l =
    let v : ℕ = val d 32 in
    let hv : v < 2 ^ 32 = val_lt d h 32 in
    let own : (t : ℕ) → t < 32 → check_bit v t ≡ d t = λ t u. bit_val d h (31 - t) t 32 (omega arith) in
    let sum : ℕ → ℕ = λ t. bit_xor (check_bit v t) (d t) in
    let left : advances v sum 32 ≡ 0 =
    ap (λ (r : ℕ). advances r sum 32) (sym (xor_zero_r v))
    ∙ advances_plus v 0 (check_bit v) d hv (omega arith) (check_bit_lem v) h 32
    ∙ ap₂ bit_xor (field_meets v hv) e in
    let none : v ≡ 0 =
    zeros_before v sum hv (λ t. xor_bit (check_bit v t) (d t) (check_bit_lem v t) (h t)) 32 (λ t u. xor_same (check_bit v t) (d t) (own t u)) left in
    sym (own i l) ∙ ap (λ (r : ℕ). check_bit r i) none ∙ ap (λ (n : ℕ). n % 2) (zero-div (2 ^ (31 - i)))

-- so ones that all lie within 32 places leave a register that is not zeros, however many zeros stand around them
burst_found : (δ : ℕ → ℕ) → Bits δ → (n start : ℕ) → ((j : ℕ) → j < n → δ j ≡ 1 → (start ≤ j) × (j < start + 32))
    → (i : ℕ) → i < n → δ i ≡ 1 → advances 0 δ n ≡ 0 → ⊥
burst_found δ h n start within i l one e =
    let d : ℕ → ℕ = cut n δ in
    let hd : Bits d = cut_bits n δ h in
    let at = within i l one in
    let outside : (j : ℕ) → (start ≤ j → j < start + 32 → ⊥) → d j ≡ 0 = λ j no.
    ⊎_elim
    (λ (u : j < n). cut_in n δ j u ∙ ⊎_elim
    (λ (z : δ j ≡ 0). z)
    (λ (o : δ j ≡ 1). let w = within j u o in absurd (no w.0 w.1))
    (bit_cases (δ j) (h j)))
    (λ (u : n ≤ j). cut_past n δ j u)
    (lt_or_le j n) in
    let at_n : advances 0 d n ≡ 0 = advances_same 0 d δ n (λ j u. cut_in n δ j u) ∙ e in
    let at_end : advances 0 d (n + 32) ≡ 0 =
    advances_on 0 d n 32
    ∙ ap (λ (r : ℕ). advances r (λ t. d (n + t)) 32) at_n
    ∙ zeros_stay (λ t. d (n + t)) 32 (λ t u. cut_past n δ (n + t) (omega arith)) in
    let long : n + 32 ≡ start + 32 + (n - start) = omega arith in
    let behind : advances 0 d (start + 32) ≡ 0 =
    zeros_before (advances 0 d (start + 32)) (λ t. d (start + 32 + t)) (advances_lt 0 d (omega arith) hd (start + 32)) (λ t. hd (start + 32 + t)) (n - start)
    (λ t u. outside (start + 32 + t) (λ a b. omega arith))
    (sym (ap (advances 0 d) long ∙ advances_on 0 d (start + 32) (n - start)) ∙ at_end) in
    let before : advances 0 d start ≡ 0 = zeros_stay d start (λ t u. outside t (λ a b. omega arith)) in
    let alone : advances 0 (λ t. d (start + t)) 32 ≡ 0 =
    ap (λ (r : ℕ). advances r (λ t. d (start + t)) 32) (sym before) ∙ sym (advances_on 0 d start 32) ∙ behind in
    let here : start + (i - start) ≡ i = omega arith in
    let z : δ i ≡ 0 =
    sym (cut_in n δ i l) ∙ ap d (sym here) ∙ zeros_alone (λ t. d (start + t)) (λ t. hd (start + t)) alone (i - start) (omega arith) in
    omega arith

-- so ones after which a register of zeros is one of zeros again are not all so near: one is at least 32 places after the first
pub spans : (δ : ℕ → ℕ) → Bits δ → (n : ℕ) → advances 0 δ n ≡ 0 → (i : ℕ) → i < n → δ i ≡ 1 → FarOnes δ n
spans δ h n e i l one =
    ⊎_elim (λ (f : FirstOne δ n). second f)
    (λ (z : (k : ℕ) → k < n → δ k ≡ 0). absurd (let q : δ i ≡ 0 = z i l in omega arith))
    (one_or_none δ h n)
  where
    second : FirstOne δ n → FarOnes δ n
    second f =
        let start : ℕ = f.at in
        let rest : ℕ → ℕ = λ t. δ (start + 32 + t) in
        ⊎_elim
        (λ (g : FirstOne rest (n - (start + 32))).
        let u = g.inside in
        record { first = f; other = start + 32 + g.at; inside = omega arith; one = g.one; far = omega arith })
        (λ (z : (t : ℕ) → t < n - (start + 32) → rest t ≡ 0). absurd (burst_found δ h n start (λ j u o. (
          ⊎_elim (λ (b : j < start). absurd (let q : δ j ≡ 0 = f.quiet j b in omega arith)) (λ (b : start ≤ j). b) (lt_or_le j start),
          ⊎_elim (λ (b : j < start + 32). b)
              (λ (b : start + 32 ≤ j). absurd
              (let at : start + 32 + (j - (start + 32)) ≡ j = omega arith in
              let q : δ j ≡ 0 = ap δ (sym at) ∙ z (j - (start + 32)) (omega arith) in
              omega arith))
              (lt_or_le j (start + 32)),
        )) i l one e))
        (one_or_none rest (λ t. h (start + 32 + t)) (n - (start + 32)))

-- ---- the check register

-- bits that differ, and only within 32 places, have different registers
pub registers_differ : (x y : ℕ → ℕ) → Bits x → Bits y → (n start : ℕ) → DifferWithin x y n start
    → (i : ℕ) → i < n → (x i ≡ y i → ⊥) → register x n ≡ register y n → ⊥
registers_differ x y hx hy n start within i l ne e =
    let δ : ℕ → ℕ = λ j. bit_xor (x j) (y j) in
    let hδ : Bits δ = λ j. xor_bit (x j) (y j) (hx j) (hy j) in
    burst_found δ hδ n start
    (λ j u one. within j u (λ q. let z : δ j ≡ 0 = xor_same (x j) (y j) q in omega arith))
    i l
    (⊎_elim (λ (z : δ i ≡ 0). absurd (ne (same_xor (x i) (y i) z))) (λ (o : δ i ≡ 1). o) (bit_cases (δ i) (hδ i)))
    (sym (registers_plus x y hx hy n) ∙ xor_same (register x n) (register y n) e)

-- k bits and the check field after them leave a register of zeros
pub field_zero : (x : ℕ → ℕ) → Bits x → (k : ℕ) → val (λ t. x (k + t)) 32 ≡ register x k → register x (k + 32) ≡ 0
unfolding check_bit
field_zero x h k e =
    let r : ℕ = register x k in
    register_on x k 32
    ∙ advances_same r (λ t. x (k + t)) (check_bit r) 32 (λ t u.
    sym (ap (λ (v : ℕ). check_bit v t) (sym e) ∙ bit_val (λ t. x (k + t)) (λ t. h (k + t)) (31 - t) t 32 (omega arith)))
    ∙ field_meets r (register_lt x h k)
