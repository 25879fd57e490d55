-- What a slot is worth grows with its pulses, so the slot that is worth more than each other has more pulses than each other.
use mathlib.Core.Path.{◌≡◌, refl, sym, ap, ap₂, ◌∙◌}
use mathlib.Core.Bool.{Bool, true, false}
use mathlib.Core.List.{List}
use mathlib.Core.Logic.{⊎_elim}
use Prim.Native.Nat.{ℕ, ◌+◌, ◌-◌, ◌*◌, ◌/◌, ◌%◌, ◌^◌, ◌≤◌, ◌<◌}
use native.Mathlib.Omega.{arith}
use native.Mathlib.Nat.{mul_assoc, add-mul, zero-div}
use native.Mathlib.Numerals.{add-one}
use lib.Bits.{bit_or, bit_and, or_shr, or_mod, and_shr, and_mod, or_zero_r, and_zero_r}
use lib.Pow.{field, mod-mod-pow, shr-shr, shl-shr}
use lib.Dec.{ltb, eqb}
use borrow.Author.Tests.{lt-ltb, le-ltb, eq-eqb, ne_eqb}
use Rattle.bits.specs.Basics.{pick, bool}
use Rattle.bits.proofs.Laws.Choice.{bool_lt, lt_or_le, eq_or_ne, bit_cases}
use Rattle.bits.specs.Inner.{bits_from}
use Rattle.bits.specs.Pack.{val, bit_at, bit_of, cut}
use Rattle.bits.proofs.Laws.Pack.{bit_lt, bit_of_lt, bit_val, val_bits, cut_in, cut_bits}
use Rattle.bits.proofs.Laws.Leading.{no_one}
use Rattle.bits.specs.Count.{weight}
use Rattle.bits.proofs.Laws.Weight.{weight_same}
use Rattle.pulses.proofs.Laws.Lone.{lone_bits, kept}
use Rattle.pool.specs.Pooled.{count, peak, pooled}
use Rattle.pool.proofs.Joining.{window_is}
use Rattle.pool.proofs.Laws.Pooled.{peak_at, peak_got, above_same, pooled_at}
use Rattle.pool_rows.specs.Inner.{pulses_at, pulses_of, worth}

-- ---- bits of a number

-- of a window
pub window_bit : (b : List ℕ) (x i v : ℕ) → i < 57 → v ≡ val (bits_from b (8 * (x / 8))) 64 → bit_of (v * 2 ^ (x % 8) % 2 ^ 64) i ≡ bit_at b (x + i)
window_bit b x i v l e =
    let w : ℕ = 64 - x % 8 in
    ap (λ (n : ℕ). n / 2 ^ (63 - i) % 2) (ap (λ (n : ℕ). n * 2 ^ (x % 8) % 2 ^ 64) e ∙ window_is b x)
    ∙ bit_val (cut w (bits_from b x)) (cut_bits w (bits_from b x) (λ k. bit_lt b (x + k))) (63 - i) i 64 (omega arith)
    ∙ cut_in w (bits_from b x) i (omega arith)

-- of a shifted number
pub shl_bit : (v g i : ℕ) → g + i < 64 → bit_of (v * 2 ^ g % 2 ^ 64) i ≡ bit_of v (g + i)
shl_bit v g i l =
    let k : ℕ = 63 - i in
    let d : ℕ = 63 - (g + i) in
    let n : ℕ = v * 2 ^ g in
    let whole : 64 ≡ i + 1 + k = omega arith in
    let parts : k ≡ g + d = omega arith in
    ap (λ (w : ℕ). n % 2 ^ w / 2 ^ k % 2) whole
    ∙ ap (λ (w : ℕ). w % 2) (field n (i + 1) k)
    ∙ mod-mod-pow (n / 2 ^ k) i 1
    ∙ ap (λ (w : ℕ). n / 2 ^ w % 2) parts
    ∙ ap (λ (w : ℕ). w % 2) (sym (shr-shr n g d) ∙ ap (λ (w : ℕ). w / 2 ^ d) (shl-shr v g))

-- of what shifts leave of a number's first bits: a single one, or none
module _ (v group : ℕ) (fits : v < 2 ^ 64) (most : group ≤ 64) where
  kept_is : v / 2 ^ (64 - group) * 2 ^ (64 - group) % 2 ^ 64 ≡ val (cut group (bit_of v)) 64
  kept_is =
      ap (λ (w : ℕ). w / 2 ^ (64 - group) * 2 ^ (64 - group) % 2 ^ 64) (sym (val_bits v 64 fits)) ∙ kept (bit_of v) (bit_of_lt v) group most

  pub kept_lone : (r : ℕ) → r < group → v / 2 ^ (64 - group) * 2 ^ (64 - group) % 2 ^ 64 ≡ 2 ^ (63 - r) → (i : ℕ) → i < group → bit_of v i ≡ bool (eqb i r)
  kept_lone r small e i l =
      sym (cut_in group (bit_of v) i l)
      ∙ lone_bits (cut group (bit_of v)) (cut_bits group (bit_of v) (bit_of_lt v)) r (omega arith) (sym kept_is ∙ e) i (omega arith)

  pub kept_none : v / 2 ^ (64 - group) * 2 ^ (64 - group) % 2 ^ 64 ≡ 0 → (i : ℕ) → i < group → bit_of v i ≡ 0
  kept_none e i l =
      sym (cut_in group (bit_of v) i l)
      ∙ no_one (cut group (bit_of v)) (cut_bits group (bit_of v) (bit_of_lt v)) (sym kept_is ∙ e) i (omega arith)

-- ---- one copy more

or_bit : (a b i : ℕ) → bit_of (bit_or a b) i ≡ bit_or (bit_of a i) (bit_of b i)
or_bit a b i = ap (λ (x : ℕ). x % 2) (or_shr a b (63 - i)) ∙ or_mod (a / 2 ^ (63 - i)) (b / 2 ^ (63 - i)) 1

and_bit : (a b i : ℕ) → bit_of (bit_and a b) i ≡ bit_and (bit_of a i) (bit_of b i)
and_bit a b i = ap (λ (x : ℕ). x % 2) (and_shr a b (63 - i)) ∙ and_mod (a / 2 ^ (63 - i)) (b / 2 ^ (63 - i)) 1

-- a slot that has n pulses, and d more
any_step : (n d : ℕ) → d < 2 → bit_or (bool (ltb 0 n)) d ≡ bool (ltb 0 (n + d))
any_step n d h =
    ⊎_elim
    (λ (e : d ≡ 0). let same : n + d ≡ n = omega arith in rw (same, e) (or_zero_r (bool (ltb 0 n))))
    (λ (e : d ≡ 1). rw (e, lt-ltb 0 (n + 1) (let l : 0 < n + 1 = omega arith in l)) (full (ltb 0 n)))
    (bit_cases d h)
  where
    full : (t : Bool) → bit_or (bool t) 1 ≡ 1
    full true = refl
    full false = refl

several_step : (n d : ℕ) → d < 2 → bit_or (bool (ltb 1 n)) (bit_and (bool (ltb 0 n)) d) ≡ bool (ltb 1 (n + d))
several_step n d h =
    ⊎_elim
    (λ (e : d ≡ 0). let same : n + d ≡ n = omega arith in rw (same, e, and_zero_r (bool (ltb 0 n))) (or_zero_r (bool (ltb 1 n))))
    (λ (e : d ≡ 1). rw e (⊎_elim
    (λ (z : n < 1). let none : n ≡ 0 = omega arith in rw none refl)
    (λ (z : 1 ≤ n). rw (lt-ltb 0 n (let l : 0 < n = omega arith in l), lt-ltb 1 (n + 1) (let l : 1 < n + 1 = omega arith in l)) (full (ltb 1 n)))
    (lt_or_le n 1)))
    (bit_cases d h)
  where
    full : (t : Bool) → bit_or (bool t) (bit_and 1 1) ≡ 1
    full true = refl
    full false = refl

module _ (f : ℕ → ℕ → ℕ) where
  pub any_none : (i : ℕ) → bit_of 0 i ≡ bool (ltb 0 (pulses_of f 0 i))
  unfolding weight
  any_none i = ap (λ (v : ℕ). v % 2) (zero-div (2 ^ (63 - i)))

  pub several_none : (i : ℕ) → bit_of 0 i ≡ bool (ltb 1 (pulses_of f 0 i))
  unfolding weight
  several_none i = ap (λ (v : ℕ). v % 2) (zero-div (2 ^ (63 - i)))

  pub any_more : (c i any v : ℕ) → bit_of any i ≡ bool (ltb 0 (pulses_of f c i)) → bit_of v i ≡ f c i → bit_of (bit_or any v) i ≡ bool (ltb 0 (pulses_of f (c + 1) i))
  unfolding weight
  any_more c i any v before here =
      or_bit any v i ∙ ap₂ bit_or before here ∙ any_step (pulses_of f c i) (f c i) (rw (← here) (bit_of_lt v i))
      ∙ ap (λ (n : ℕ). bool (ltb 0 (pulses_of f n i))) (sym (add-one c))

  pub several_more : (c i any several v : ℕ) → bit_of any i ≡ bool (ltb 0 (pulses_of f c i)) → bit_of several i ≡ bool (ltb 1 (pulses_of f c i)) → bit_of v i ≡ f c i
      → bit_of (bit_or several (bit_and any v)) i ≡ bool (ltb 1 (pulses_of f (c + 1) i))
  unfolding weight
  several_more c i any several v before more here =
      or_bit several (bit_and any v) i ∙ ap₂ bit_or more (and_bit any v i ∙ ap₂ bit_and before here)
      ∙ several_step (pulses_of f c i) (f c i) (rw (← here) (bit_of_lt v i))
      ∙ ap (λ (n : ℕ). bool (ltb 1 (pulses_of f n i))) (sym (add-one c))

-- ---- the slot that is worth more

-- more is worth more, so what is worth more is more
rises : (m n : ℕ) → bool (ltb 0 m) + 2 * bool (ltb 1 m) < bool (ltb 0 n) + 2 * bool (ltb 1 n) → m < n
rises m n h =
    ⊎_elim
    (λ (l : m < n). l)
    (λ (l : n ≤ m). absurd (⊎_elim
    (λ (a : 1 < n). let big : bool (ltb 0 m) + 2 * bool (ltb 1 m) ≡ 3 = rw (lt-ltb 0 m (omega arith), lt-ltb 1 m (omega arith)) refl in
    let one = bool_lt (ltb 0 n) in let two = bool_lt (ltb 1 n) in omega arith)
    (λ (a : n ≤ 1). ⊎_elim
    (λ (z : 0 < n). let o : bool (ltb 0 m) ≡ 1 = ap bool (lt-ltb 0 m (omega arith)) in let p : bool (ltb 1 n) ≡ 0 = ap bool (le-ltb 1 n a) in let one = bool_lt (ltb 0 n) in omega arith)
    (λ (z : n ≤ 0). let o : bool (ltb 0 n) ≡ 0 = ap bool (le-ltb 0 n z) in let p : bool (ltb 1 n) ≡ 0 = ap bool (le-ltb 1 n a) in omega arith)
    (lt_or_le 0 n))
    (lt_or_le 1 n)))
    (lt_or_le m n)

-- the first bits of a number
abbrev pub first_of : ℕ → ℕ → ℕ
first_of group v = v / 2 ^ (64 - group) * 2 ^ (64 - group) % 2 ^ 64

pub worth_most : (any several group n r : ℕ) → any < 2 ^ 64 → several < 2 ^ 64 → group ≤ 64 → r < group → n ≡ pick (eqb (first_of group several) 0) (first_of group any) (first_of group several) → n ≡ 2 ^ (63 - r)
    → (i : ℕ) → i < group → (i ≡ r → ⊥) → worth any several i < worth any several r
worth_most any several group n r fa fs most small e p i l ne =
    ⊎_elim
    (λ (z : first_of group several ≡ 0).
    let at : n ≡ first_of group any = rw (eq-eqb (first_of group several) 0 z) at e in
    let here = kept_lone any group fa most r small (sym at ∙ p) in
    let x : bit_of any i ≡ 0 = here i l ∙ ap bool (ne_eqb i r ne) in
    let y : bit_of any r ≡ 1 = here r small ∙ ap bool (eq-eqb r r refl) in
    let u = kept_none several group fs most z i l in
    omega arith)
    (λ (z : first_of group several ≡ 0 → ⊥).
    let at : n ≡ first_of group several = rw (ne_eqb (first_of group several) 0 z) at e in
    let here = kept_lone several group fs most r small (sym at ∙ p) in
    let x : bit_of several i ≡ 0 = here i l ∙ ap bool (ne_eqb i r ne) in
    let y : bit_of several r ≡ 1 = here r small ∙ ap bool (eq-eqb r r refl) in
    let u = bit_of_lt any i in
    omega arith)
    (eq_or_ne (first_of group several) 0)

pub worth_peak : (f : ℕ → ℕ) (group any several r : ℕ) → r < group → ((i : ℕ) → i < group → bit_of any i ≡ bool (ltb 0 (f i))) → ((i : ℕ) → i < group → bit_of several i ≡ bool (ltb 1 (f i)))
    → ((i : ℕ) → i < group → (i ≡ r → ⊥) → worth any several i < worth any several r) → peak f group ≡ r
worth_peak f group any several r small a s w =
    peak_at f group r (record {
      small = small;
      rest = λ i l e.
          let h = w i l e in
          let p = a i l in
          let q = s i l in
          let u = a r small in
          let v = s r small in
          rises (f i) (f r) (omega arith);
    })

-- the pulses of symbol s
pub count_at : (b : List ℕ) (copies group s y i : ℕ) → y ≡ s * (copies * group) → pulses_at b group y copies i ≡ count b copies group s i
unfolding count
count_at b copies group s y i e =
    weight_same (λ k. bit_at b (y + k * group + i)) (λ c. bit_at b ((s * copies + c) * group + i)) copies (λ k l.
    let d : (s * copies + k) * group ≡ s * copies * group + k * group = add-mul (s * copies) k group in
    let m : s * copies * group ≡ s * (copies * group) = mul_assoc s copies group in
    ap (bit_at b) (omega arith))

pub pooled_peak : (b : List ℕ) (copies group order s y r : ℕ) → order ≤ group → r < order → y ≡ s * (copies * group) → peak (pulses_at b group y copies) group ≡ r → pooled b copies group order s ≡ r
pooled_peak b copies group order s y r big small e p =
    let f : ℕ → ℕ = pulses_at b group y copies in
    let a = peak_got f group (rw p (let l : r < group = omega arith in l)) in
    pooled_at b copies group order s r small (above_same f (count b copies group s) group r (λ i l. count_at b copies group s y i e) (rw p at a))
