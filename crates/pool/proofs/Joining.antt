-- Copies joined by `|`, 64 slots at a time, show a one where one of them has a pulse.
use mathlib.Core.Path.{◌≡◌, refl, sym, ap, ap₂, ◌∙◌}
use mathlib.Core.Bool.{Bool, true, false}
use mathlib.Core.List.{List}
use mathlib.Core.Logic.{⊎_elim}
use Prim.Native.Nat.{ℕ, zero, suc, ◌+◌, ◌-◌, ◌*◌, ◌/◌, ◌%◌, ◌^◌, ◌≤◌, ◌<◌}
use native.Mathlib.Omega.{arith}
use native.Mathlib.Nat.{le_refl, mul-le-mul, mul_left_comm, add-mul, zero-add, add_assoc}
use native.Mathlib.Numerals.{add-one}
use lib.Arith.{digits_lt}
use lib.Bits.{bit_or, or_block, or_zero_r}
use lib.Dec.{ltb, eqb}
use borrow.Author.Tests.{lt-ltb, ltb-false, eq-eqb, ne_eqb}
use Rattle.bits.specs.Basics.{bool}
use Rattle.bits.proofs.Laws.Choice.{bool_lt, bool_no, lt_or_le, eq_or_ne, bit_cases}
use Rattle.bits.specs.Inner.{Leads, lesser, bits_from}
use Rattle.bits.proofs.Laws.Leading.{first_one, no_one}
use Rattle.bits.specs.Pack.{val, bit_at, cut, Bits}
use Rattle.bits.proofs.Laws.Pack.{bit_lt, val_same, cut_in, cut_past, cut_bits, cut_same}
use Rattle.bits.proofs.Laws.Parts.{val_none, val_shift}
use Rattle.bits.specs.Count.{weight}
use Rattle.bits.proofs.Laws.Weight.{weight_same}
use Rattle.bits.proofs.Laws.Window.{lesser_min}
use Rattle.pulses.proofs.Laws.Lone.{lone_bits, kept}
use Rattle.pulses.specs.Inner.{Sole}
use Rattle.pool.specs.Inner.{some, lit}
use Rattle.pool.proofs.Laws.Pooled.{weight_const}
use Rattle.pool.specs.Pooled.{count}

-- ---- where a slot is

pub slot_lt : (s copies group c r : ℕ) → c < copies → r < group → (s * copies + c) * group + r < (s * copies + copies) * group
slot_lt s copies group c r hc hr = let l : s * copies + c < s * copies + copies = omega arith in digits_lt l hr

-- there are not more groups than slots
pub few : (s copies group : ℕ) → 1 ≤ group → s * copies + copies ≤ (s * copies + copies) * group
few s copies group h = let m : (s * copies + copies) * 1 ≤ (s * copies + copies) * group = mul-le-mul (le_refl (s * copies + copies)) h in omega arith

-- ---- pulses counted

pub count_none : (f : ℕ → ℕ) → 0 ≡ weight f 0
unfolding weight
count_none f = refl

pub count_more : (f : ℕ → ℕ) (c v x : ℕ) → v ≡ weight f c → x ≡ f c → v + x ≡ weight f (c + 1)
unfolding weight
count_more f c v x e d = ap₂ (λ (a b : ℕ). a + b) e d ∙ ap (weight f) (sym (add-one c))

-- ---- numbers joined

some_more : (f : ℕ → ℕ) (n : ℕ) → f n < 2 → bit_or (some f n) (f n) ≡ some f (suc n)
unfolding weight
some_more f n h =
    ⊎_elim
    (λ (e : f n ≡ 0).
    let same : weight f n ≡ weight f n + f n = omega arith in
    ap (bit_or (some f n)) e ∙ or_zero_r (some f n) ∙ ap (λ (w : ℕ). bool (ltb 0 w)) same)
    (λ (e : f n ≡ 1). ap (bit_or (some f n)) e ∙ full (ltb 0 (weight f n)) ∙ sym (ap bool (lt-ltb 0 (weight f n + f n) (omega arith))))
    (bit_cases (f n) h)
  where
    full : (t : Bool) → bit_or (bool t) 1 ≡ 1
    full true = refl
    full false = refl

val_or : (f g : ℕ → ℕ) → Bits f → Bits g → (n : ℕ) → bit_or (val f n) (val g n) ≡ val (λ i. bit_or (f i) (g i)) n
unfolding val
val_or f g hf hg zero = refl
val_or f g hf hg (suc n) =
    or_block 1 (val f n) (val g n) (f n) (g n) (hf n) (hg n) ∙ ap (λ (v : ℕ). v * 2 + bit_or (f n) (g n)) (val_or f g hf hg n)

-- none so far, and one number more
pub join_none : (w : ℕ → ℕ → ℕ) → 0 ≡ val (λ t. some (λ c. w c t) 0) 64
unfolding weight
join_none w = sym (val_none (λ t. some (λ c. w c t) 0) 64 (λ t l. refl))

pub join_more : (w : ℕ → ℕ → ℕ) → ((c : ℕ) → Bits (w c)) → (c any v : ℕ) → any ≡ val (λ t. some (λ c. w c t) c) 64 → v ≡ val (w c) 64
    → bit_or any v ≡ val (λ t. some (λ c. w c t) (c + 1)) 64
join_more w bits c any v before here =
    ap₂ bit_or before here
    ∙ val_or (λ t. some (λ c. w c t) c) (w c) (λ t. bool_lt (ltb 0 (weight (λ c. w c t) c))) (bits c) 64
    ∙ val_same (λ t. bit_or (some (λ c. w c t) c) (w c t)) (λ t. some (λ c. w c t) (c + 1)) 64 (λ t l.
    some_more (λ c. w c t) c (bits c t) ∙ ap (some (λ c. w c t)) (sym (add-one c)))

-- ---- windows of copies

pub window_is : (b : List ℕ) (y : ℕ) → val (bits_from b (8 * (y / 8))) 64 * 2 ^ (y % 8) % 2 ^ 64 ≡ val (cut (64 - y % 8) (bits_from b y)) 64
window_is b y =
    let r : ℕ = y % 8 in
    let f : ℕ → ℕ = bits_from b (8 * (y / 8)) in
    val_shift f (λ k. bit_lt b (8 * (y / 8) + k)) r 64 (omega arith)
    ∙ val_same (cut (64 - r) (λ t. f (r + t))) (cut (64 - r) (bits_from b y)) 64 (λ i l.
    cut_same (64 - r) (λ t. f (r + t)) (bits_from b y) (λ t k. ap (bit_at b) (omega arith)) i)

module _ (b : List ℕ) (copies group s at : ℕ) where
  -- what the window of copy c shows
  abbrev pub shown_of : ℕ → ℕ → ℕ
  shown_of c = cut (64 - ((s * copies + c) * group + at) % 8) (bits_from b ((s * copies + c) * group + at))

  pub shown_bits : (c : ℕ) → Bits (shown_of c)
  shown_bits c =
      let y : ℕ = (s * copies + c) * group + at in
      cut_bits (64 - y % 8) (bits_from b y) (λ k. bit_lt b (y + k))

  pub joined_lit : (width any : ℕ) → width ≤ 57 → any ≡ val (λ t. some (λ c. shown_of c t) copies) 64
      → any / 2 ^ (64 - width) * 2 ^ (64 - width) % 2 ^ 64 ≡ val (cut width (λ t. lit b copies group s (at + t))) 64
  unfolding lit count
  joined_lit width any h e =
      let f : ℕ → ℕ = λ t. some (λ c. shown_of c t) copies in
      let g : ℕ → ℕ = λ t. lit b copies group s (at + t) in
      ap (λ (v : ℕ). v / 2 ^ (64 - width) * 2 ^ (64 - width) % 2 ^ 64) e
      ∙ kept f (λ t. bool_lt (ltb 0 (weight (λ c. shown_of c t) copies))) width (omega arith)
      ∙ val_same (cut width f) (cut width g) 64 (λ i l.
      cut_same width f g (λ t k.
      ap (λ (w : ℕ). bool (ltb 0 w))
      (weight_same (λ c. shown_of c t) (λ c. bit_at b ((s * copies + c) * group + (at + t))) copies (λ c u.
      let y : ℕ = (s * copies + c) * group + at in
      cut_in (64 - y % 8) (bits_from b y) t (omega arith) ∙ ap (bit_at b) (add_assoc ((s * copies + c) * group) at t)))) i)

-- ---- groups that fill whole bytes

module _ (copies group s : ℕ) (bytes : group ≡ 8 * (group / 8)) where
  slot_byte : (c k t : ℕ) → 8 * (s * copies * (group / 8) + 8 * k + c * (group / 8)) + t ≡ (s * copies + c) * group + (64 * k + t)
  slot_byte c k t =
      let g : ℕ = group / 8 in
      let e : (s * copies + c) * group ≡ 8 * ((s * copies + c) * g) = ap (λ (x : ℕ). (s * copies + c) * x) bytes ∙ mul_left_comm (s * copies + c) 8 g in
      let d : (s * copies + c) * g ≡ s * copies * g + c * g = add-mul (s * copies) c g in
      omega arith

  pub bytes_room : (n : ℕ) → (s * copies + copies) * group + 64 ≤ 8 * n → s * copies * (group / 8) + copies * (group / 8) + 8 ≤ n
  bytes_room n h =
      let g : ℕ = group / 8 in
      let e : (s * copies + copies) * group ≡ 8 * ((s * copies + copies) * g) = ap (λ (x : ℕ). (s * copies + copies) * x) bytes ∙ mul_left_comm (s * copies + copies) 8 g in
      let d : (s * copies + copies) * g ≡ s * copies * g + copies * g = add-mul (s * copies) copies g in
      omega arith

  pub number_lit : (b : List ℕ) (k width : ℕ)
      → val (λ t. some (λ c. cut width (bits_from b (8 * (s * copies * (group / 8) + 8 * k + c * (group / 8)))) t) copies) 64
      ≡ val (cut width (λ t. lit b copies group s (64 * k + t))) 64
  unfolding lit count
  number_lit b k width =
      let w : ℕ → ℕ → ℕ = λ c. bits_from b (8 * (s * copies * (group / 8) + 8 * k + c * (group / 8))) in
      let g : ℕ → ℕ = λ t. lit b copies group s (64 * k + t) in
      val_same (λ t. some (λ c. cut width (w c) t) copies) (cut width g) 64 (λ t l.
      ⊎_elim
      (λ (h : t < width).
      ap (λ (v : ℕ). bool (ltb 0 v))
      (weight_same (λ c. cut width (w c) t) (λ c. bit_at b ((s * copies + c) * group + (64 * k + t))) copies (λ c v.
      cut_in width (w c) t h ∙ ap (bit_at b) (slot_byte c k t)))
      ∙ sym (cut_in width g t h))
      (λ (h : width ≤ t).
      let none : weight (λ c. cut width (w c) t) copies ≡ 0 =
      weight_same (λ c. cut width (w c) t) (λ c. 0) copies (λ c v. cut_past width (w c) t h) ∙ weight_const 0 copies ∙ omega arith in
      rw none (sym (cut_past width g t h)))
      (lt_or_le t width))

-- ---- slots without a pulse

module _ (b : List ℕ) (copies group s : ℕ) where
  pub lit_bits : Bits (lit b copies group s)
  unfolding lit
  lit_bits r = bool_lt (ltb 0 (count b copies group s r))

  dark : (r : ℕ) → lit b copies group s r ≡ 0 → count b copies group s r ≡ 0
  unfolding lit
  dark r e = let z = ltb-false 0 (count b copies group s r) (bool_no (ltb 0 (count b copies group s r)) e) in omega arith

  module _ (at width : ℕ) (most : width ≤ 57) where
    abbrev ahead : ℕ → ℕ
    ahead t = lit b copies group s (at + t)

    ahead_bits : Bits ahead
    ahead_bits t = lit_bits (at + t)

    at_dark : (i : ℕ) → at ≤ i → i < at + width → cut width ahead (i - at) ≡ 0 → count b copies group s i ≡ 0
    at_dark i a l e =
        let q : at + (i - at) ≡ i = omega arith in
        dark i (ap (lit b copies group s) (sym q) ∙ sym (cut_in width ahead (i - at) (omega arith)) ∙ e)

    -- an empty window
    pub all_dark : val (cut width ahead) 64 ≡ 0 → (i : ℕ) → at ≤ i → i < at + width → count b copies group s i ≡ 0
    all_dark e i a l = at_dark i a l (no_one (cut width ahead) (cut_bits width ahead ahead_bits) e (i - at) (omega arith))

    -- the zeros in front of a window's first one
    pub lead_in : (r : ℕ) → Leads 64 (val (cut width ahead) 64) r → r < width
    lead_in r l =
        let one = first_one (cut width ahead) (cut_bits width ahead ahead_bits) r l in
        ⊎_elim (λ (g : r < width). g) (λ (g : width ≤ r). let z : 0 ≡ 1 = sym (cut_past width ahead r g) ∙ one.1 in absurd (omega arith)) (lt_or_le r width)

    pub lead_dark : (r : ℕ) → Leads 64 (val (cut width ahead) 64) r → (i : ℕ) → at ≤ i → i < at + r → count b copies group s i ≡ 0
    lead_dark r l i a h =
        let one = first_one (cut width ahead) (cut_bits width ahead ahead_bits) r l in
        let k = lead_in r l in
        at_dark i a (omega arith) (one.0 (i - at) (omega arith))

  -- a window with a single one
  pub lit_alone : (r : ℕ) → group ≤ 57 → r < group → val (cut group (λ t. lit b copies group s (0 + t))) 64 ≡ 2 ^ (63 - r)
      → (i : ℕ) → i < group → lit b copies group s i ≡ bool (eqb i r)
  lit_alone r most h e i l =
      let f : ℕ → ℕ = λ t. lit b copies group s (0 + t) in
      ap (lit b copies group s) (sym (zero-add i))
      ∙ sym (cut_in group f i l)
      ∙ lone_bits (cut group f) (cut_bits group f (λ t. lit_bits (0 + t))) r (omega arith) e i (omega arith)

  -- the k-th number; and where all but one are 0, and that has a single one, there is no other
  abbrev pub number_of : ℕ → ℕ
  number_of k = val (cut (lesser 64 (group - 64 * k)) (λ t. lit b copies group s (64 * k + t))) 64

  pub sole_alone : (n r : ℕ) → group ≤ 64 * n → Sole number_of n r → (i : ℕ) → i < group → lit b copies group s i ≡ bool (eqb i r)
  sole_alone n r room sole i l =
      let k : ℕ = i / 64 in
      let t : ℕ = i % 64 in
      let w : ℕ = lesser 64 (group - 64 * k) in
      let small : t < w = let m = lesser_min 64 (group - 64 * k) in omega arith in
      let f : ℕ → ℕ = λ t. lit b copies group s (64 * k + t) in
      let bits : Bits (cut w f) = cut_bits w f (λ t. lit_bits (64 * k + t)) in
      let place : 64 * k + t ≡ i = omega arith in
      ap (lit b copies group s) (sym place)
      ∙ sym (cut_in w f t small)
      ∙ ⊎_elim
      (λ (q : k ≡ r / 64).
      lone_bits (cut w f) bits (r % 64) (omega arith) (ap number_of q ∙ sole.number) t (omega arith)
      ∙ ⊎_elim
      (λ (d : t ≡ r % 64). rw (eq-eqb t (r % 64) d, eq-eqb i r (omega arith)) refl)
      (λ (d : t ≡ r % 64 → ⊥). rw (ne_eqb t (r % 64) d, ne_eqb i r (λ u. d (omega arith))) refl)
      (eq_or_ne t (r % 64)))
      (λ (q : k ≡ r / 64 → ⊥).
      no_one (cut w f) bits (sole.others k (omega arith) q) t (omega arith)
      ∙ sym (ap bool (ne_eqb i r (λ u. q (omega arith)))))
      (eq_or_ne k (r / 64))
