-- Step 4: which coded bits each input bit makes, that the code adds, and that reading the second output gives the input back.
use mathlib.Core.Path.{◌≡◌, refl, sym, ap, ap₂, ◌∙◌}
use mathlib.Core.Bool.{Bool, true, false}
use mathlib.Core.List.{[], ◌∷◌, map}
use mathlib.Core.Logic.{⊎_elim}
use Prim.Native.Nat.{ℕ, zero, suc, ◌+◌, ◌*◌, ◌/◌, ◌%◌, ◌≤◌, ◌<◌}
use native.Mathlib.Omega.{arith}
use lib.Bits.{bit_xor, xor_zero_r, xor_comm}
use lib.Dec.{eqb}
use borrow.Author.Tests.{eq-eqb, ne_eqb}
use Rattle.bits.specs.Basics.{pick}
use Rattle.bits.proofs.Laws.Choice.{bit_cases}
use Rattle.bits.proofs.Laws.Sum.{xor_assoc, xor_cancel_r, xor_cross, xor_bit}
use Rattle.bits.specs.Pack.{Bits}
use Rattle.sizes.specs.Sizes.{info_bits, inputs_per, coded_per, word_bits}
use Rattle.sizes.specs.Inner.{input_bits}
use Rattle.sizes.proofs.Laws.Rate.{by_rate}
use Rattle.convolution.specs.Code.{delay, first, second, input_place, encode, second_place, recover, decode}

-- the places of the second outputs at each rate
pub second_example : (map (second_place 0) (0 ∷ 1 ∷ 2 ∷ []) ≡ 1 ∷ 4 ∷ 7 ∷ []) × (map (second_place 1) (0 ∷ 1 ∷ 2 ∷ []) ≡ 1 ∷ 3 ∷ 5 ∷ []) × (map (second_place 2) (0 ∷ 1 ∷ 2 ∷ 3 ∷ []) ≡ 1 ∷ 2 ∷ 4 ∷ 5 ∷ [])
unfolding second_place inputs_per coded_per
second_example = (refl, refl, refl)

-- ---- the equations of `encode` at each rate

encode_first : (rate : ℕ) (x : ℕ → ℕ) (j i : ℕ) → j % coded_per rate ≡ 0 → input_place rate j ≡ i → encode rate x j ≡ first x i
unfolding encode
encode_first rate x j i z e = rw (eq-eqb (j % coded_per rate) 0 z, e) refl

encode_second : (rate : ℕ) (x : ℕ → ℕ) (j i : ℕ) → 0 < j % coded_per rate → input_place rate j ≡ i → encode rate x j ≡ second x i
unfolding encode
encode_second rate x j i z e =
    let ne : j % coded_per rate ≡ 0 → ⊥ = λ q. omega arith in
    rw (ne_eqb (j % coded_per rate) 0 ne, e) refl

module _ (x : ℕ → ℕ) (i : ℕ) where
  -- at 1/3 all three outputs are kept
  pub third_first : encode 0 x (3 * i) ≡ first x i
  unfolding input_place coded_per inputs_per
  third_first = encode_first 0 x (3 * i) i (omega arith) (omega arith)

  pub third_second : encode 0 x (3 * i + 1) ≡ second x i
  unfolding input_place coded_per inputs_per
  third_second = encode_second 0 x (3 * i + 1) i (omega arith) (omega arith)

  pub third_third : encode 0 x (3 * i + 2) ≡ second x i
  unfolding input_place coded_per inputs_per
  third_third = encode_second 0 x (3 * i + 2) i (omega arith) (omega arith)

  -- at 1/2 the first two
  pub half_first : encode 1 x (2 * i) ≡ first x i
  unfolding input_place coded_per inputs_per
  half_first = encode_first 1 x (2 * i) i (omega arith) (omega arith)

  pub half_second : encode 1 x (2 * i + 1) ≡ second x i
  unfolding input_place coded_per inputs_per
  half_second = encode_second 1 x (2 * i + 1) i (omega arith) (omega arith)

  -- at 2/3 the first two for input bits 0, 2, 4 and so on, the second alone for the others
  pub two_first : encode 2 x (3 * i) ≡ first x (2 * i)
  unfolding input_place coded_per inputs_per
  two_first = encode_first 2 x (3 * i) (2 * i) (omega arith) (omega arith)

  pub two_second : encode 2 x (3 * i + 1) ≡ second x (2 * i)
  unfolding input_place coded_per inputs_per
  two_second = encode_second 2 x (3 * i + 1) (2 * i) (omega arith) (omega arith)

  pub two_odd : encode 2 x (3 * i + 2) ≡ second x (2 * i + 1)
  unfolding input_place coded_per inputs_per
  two_odd = encode_second 2 x (3 * i + 2) (2 * i + 1) (omega arith) (omega arith)

-- ---- the code is linear

delay_plus : (x y : ℕ → ℕ) (i : ℕ) → delay (λ i. bit_xor (x i) (y i)) i ≡ bit_xor (delay x i) (delay y i)
unfolding delay
delay_plus x y zero = refl
delay_plus x y (suc i) = refl

delay_plus2 : (x y : ℕ → ℕ) (i : ℕ) → delay (delay (λ i. bit_xor (x i) (y i))) i ≡ bit_xor (delay (delay x) i) (delay (delay y) i)
unfolding delay
delay_plus2 x y zero = refl
delay_plus2 x y (suc i) = delay_plus x y i

first_plus : (x y : ℕ → ℕ) (i : ℕ) → first (λ i. bit_xor (x i) (y i)) i ≡ bit_xor (first x i) (first y i)
unfolding first
first_plus x y i =
    ap (λ (d : ℕ). bit_xor (bit_xor (x i) (y i)) d) (delay_plus2 x y i)
    ∙ xor_cross (x i) (y i) (delay (delay x) i) (delay (delay y) i)

second_plus : (x y : ℕ → ℕ) (i : ℕ) → second (λ i. bit_xor (x i) (y i)) i ≡ bit_xor (second x i) (second y i)
unfolding second
second_plus x y i =
    ap₂ bit_xor
    (ap (λ (d : ℕ). bit_xor (bit_xor (x i) (y i)) d) (delay_plus x y i) ∙ xor_cross (x i) (y i) (delay x i) (delay y i))
    (delay_plus2 x y i)
    ∙ xor_cross (bit_xor (x i) (delay x i)) (bit_xor (y i) (delay y i)) (delay (delay x) i) (delay (delay y) i)

pub encode_plus : (rate : ℕ) (x y : ℕ → ℕ) (j : ℕ) → encode rate (λ i. bit_xor (x i) (y i)) j ≡ bit_xor (encode rate x j) (encode rate y j)
unfolding encode
encode_plus rate x y j = cases (eqb (j % coded_per rate) 0)
  where
    cases : (t : Bool) → pick t (first (λ i. bit_xor (x i) (y i)) (input_place rate j)) (second (λ i. bit_xor (x i) (y i)) (input_place rate j)) ≡ bit_xor (pick t (first x (input_place rate j)) (second x (input_place rate j))) (pick t (first y (input_place rate j)) (second y (input_place rate j)))
    cases true = first_plus x y (input_place rate j)
    cases false = second_plus x y (input_place rate j)

-- ---- bits in, bits out

pub delay_bits : (x : ℕ → ℕ) → Bits x → Bits (delay x)
unfolding delay
delay_bits x h zero = omega arith
delay_bits x h (suc i) = h i

first_bits : (x : ℕ → ℕ) → Bits x → Bits (first x)
unfolding first
first_bits x h i = xor_bit (x i) (delay (delay x) i) (h i) (delay_bits (delay x) (delay_bits x h) i)

second_bits : (x : ℕ → ℕ) → Bits x → Bits (second x)
unfolding second
second_bits x h i =
    xor_bit (bit_xor (x i) (delay x i)) (delay (delay x) i) (xor_bit (x i) (delay x i) (h i) (delay_bits x h i)) (delay_bits (delay x) (delay_bits x h) i)

pub encode_bits : (rate : ℕ) (x : ℕ → ℕ) → Bits x → Bits (encode rate x)
unfolding encode
encode_bits rate x h j = cases (eqb (j % coded_per rate) 0)
  where
    cases : (t : Bool) → pick t (first x (input_place rate j)) (second x (input_place rate j)) < 2
    cases true = first_bits x h (input_place rate j)
    cases false = second_bits x h (input_place rate j)

recover_bits2 : (s : ℕ → ℕ) → Bits s → (i : ℕ) → (recover s i < 2) × (recover s (suc i) < 2)
unfolding recover
recover_bits2 s h zero = (h 0, xor_bit (s 1) (s 0) (h 1) (h 0))
recover_bits2 s h (suc i) =
    let r = recover_bits2 s h i in
    (r.1, xor_bit (bit_xor (s (suc (suc i))) (recover s (suc i))) (recover s i) (xor_bit (s (suc (suc i))) (recover s (suc i)) (h (suc (suc i))) r.1) r.0)

pub decode_bits : (rate : ℕ) (c : ℕ → ℕ) → Bits c → Bits (decode rate c)
unfolding decode
decode_bits rate c h i = (recover_bits2 (λ i. c (second_place rate i)) (λ i. h (second_place rate i)) i).0

-- ---- what an output, and a bit that is read, depends on

first_same : (x y : ℕ → ℕ) (i : ℕ) → ((k : ℕ) → k ≤ i → x k ≡ y k) → first x i ≡ first y i
unfolding first delay
first_same x y zero h = ap (λ (b : ℕ). bit_xor b 0) (h 0 (omega arith))
first_same x y (suc zero) h = ap (λ (b : ℕ). bit_xor b 0) (h 1 (omega arith))
first_same x y (suc (suc i)) h = ap₂ bit_xor (h (suc (suc i)) (omega arith)) (h i (omega arith))

second_same : (x y : ℕ → ℕ) (i : ℕ) → ((k : ℕ) → k ≤ i → x k ≡ y k) → second x i ≡ second y i
unfolding second delay
second_same x y zero h = ap (λ (b : ℕ). bit_xor (bit_xor b 0) 0) (h 0 (omega arith))
second_same x y (suc zero) h = ap₂ (λ (b c : ℕ). bit_xor (bit_xor b c) 0) (h 1 (omega arith)) (h 0 (omega arith))
second_same x y (suc (suc i)) h =
    ap₂ bit_xor (ap₂ bit_xor (h (suc (suc i)) (omega arith)) (h (suc i) (omega arith))) (h i (omega arith))

pub step_lt : (rate j : ℕ) → rate < 3 → j < word_bits → input_place rate j < input_bits rate
unfolding input_place input_bits info_bits inputs_per coded_per
step_lt rate j h l =
    by_rate (λ (r : ℕ). input_place r j < input_bits r) (omega arith) (omega arith) (omega arith) rate h

pub second_lt : (rate i : ℕ) → rate < 3 → i < input_bits rate → second_place rate i < word_bits
unfolding second_place input_bits info_bits inputs_per coded_per
second_lt rate i h l =
    by_rate (λ (r : ℕ). i < input_bits r → second_place r i < word_bits) (omega arith) (omega arith) (omega arith) rate h l

pub encode_same : (rate : ℕ) (x y : ℕ → ℕ) → rate < 3 → ((i : ℕ) → i < input_bits rate → x i ≡ y i) → (j : ℕ) → j < word_bits → encode rate x j ≡ encode rate y j
unfolding encode
encode_same rate x y hr h j l =
    let s : input_place rate j < input_bits rate = step_lt rate j hr l in
    let e : (k : ℕ) → k ≤ input_place rate j → x k ≡ y k = λ k b. h k (omega arith) in
    ap₂ (pick (eqb (j % coded_per rate) 0)) (first_same x y (input_place rate j) e) (second_same x y (input_place rate j) e)

recover_same2 : (s t : ℕ → ℕ) (i : ℕ) → ((k : ℕ) → k ≤ suc i → s k ≡ t k) → (recover s i ≡ recover t i) × (recover s (suc i) ≡ recover t (suc i))
unfolding recover
recover_same2 s t zero h = (h 0 (omega arith), ap₂ bit_xor (h 1 (omega arith)) (h 0 (omega arith)))
recover_same2 s t (suc i) h =
    let r = recover_same2 s t i (λ k l. h k (omega arith)) in
    (r.1, ap₂ bit_xor (ap₂ bit_xor (h (suc (suc i)) (omega arith)) r.1) r.0)

pub recover_same : (s t : ℕ → ℕ) (i : ℕ) → ((k : ℕ) → k ≤ i → s k ≡ t k) → recover s i ≡ recover t i
unfolding recover
recover_same s t zero h = h 0 (omega arith)
recover_same s t (suc i) h = (recover_same2 s t i h).1

pub decode_same : (rate : ℕ) (c d : ℕ → ℕ) → rate < 3 → ((j : ℕ) → j < word_bits → c j ≡ d j) → (i : ℕ) → i < input_bits rate → decode rate c i ≡ decode rate d i
unfolding decode
decode_same rate c d hr h i l =
    recover_same (λ i. c (second_place rate i)) (λ i. d (second_place rate i)) i (λ k b. h (second_place rate k) (second_lt rate k hr (omega arith)))

-- ---- each undoes the other

recover_second2 : (x : ℕ → ℕ) (i : ℕ) → (recover (second x) i ≡ x i) × (recover (second x) (suc i) ≡ x (suc i))
unfolding recover second delay
recover_second2 x zero = (
  xor_zero_r (bit_xor (x 0) 0) ∙ xor_zero_r (x 0),
  ap₂ bit_xor (xor_zero_r (bit_xor (x 1) (x 0))) (xor_zero_r (bit_xor (x 0) 0) ∙ xor_zero_r (x 0)) ∙ xor_cancel_r (x 1) (x 0),
)
recover_second2 x (suc i) =
    let r = recover_second2 x i in (
      r.1,
      ap₂ bit_xor (ap (λ (b : ℕ). bit_xor (bit_xor (bit_xor (x (suc (suc i))) (x (suc i))) (x i)) b) r.1) r.0
          ∙ shuffle (x (suc (suc i))) (x (suc i)) (x i),
    )
  where
    shuffle : (a b c : ℕ) → bit_xor (bit_xor (bit_xor (bit_xor a b) c) b) c ≡ a
    shuffle a b c =
        xor_assoc (bit_xor (bit_xor a b) c) b c
        ∙ ap (λ (d : ℕ). bit_xor (bit_xor (bit_xor a b) c) d) (xor_comm b c)
        ∙ sym (xor_assoc (bit_xor (bit_xor a b) c) c b)
        ∙ ap (λ (d : ℕ). bit_xor d b) (xor_cancel_r (bit_xor a b) c)
        ∙ xor_cancel_r a b

two_at : (x : ℕ → ℕ) (i : ℕ) → encode 2 x (second_place 2 i) ≡ second x i
unfolding second_place inputs_per coded_per
two_at x i =
    ⊎_elim
    (λ (e : i % 2 ≡ 0).
    let p : (i * 3 + 2) / 2 ≡ 3 * (i / 2) + 1 = omega arith in
    let q : 2 * (i / 2) ≡ i = omega arith in
    ap (encode 2 x) p ∙ two_second x (i / 2) ∙ ap (second x) q)
    (λ (e : i % 2 ≡ 1).
    let p : (i * 3 + 2) / 2 ≡ 3 * (i / 2) + 2 = omega arith in
    let q : 2 * (i / 2) + 1 ≡ i = omega arith in
    ap (encode 2 x) p ∙ two_odd x (i / 2) ∙ ap (second x) q)
    (bit_cases (i % 2) (omega arith))

second_at : (rate : ℕ) (x : ℕ → ℕ) → rate < 3 → (i : ℕ) → encode rate x (second_place rate i) ≡ second x i
unfolding second_place inputs_per coded_per input_place
second_at rate x h i =
    by_rate (λ (r : ℕ). encode r x (second_place r i) ≡ second x i)
    (encode_second 0 x (second_place 0 i) i (omega arith) (omega arith))
    (encode_second 1 x (second_place 1 i) i (omega arith) (omega arith))
    (two_at x i)
    rate h

pub decode_encode : (rate : ℕ) (x : ℕ → ℕ) → rate < 3 → (i : ℕ) → decode rate (encode rate x) i ≡ x i
unfolding decode
decode_encode rate x h i =
    recover_same (λ i. encode rate x (second_place rate i)) (second x) i (λ k l. second_at rate x h k)
    ∙ (recover_second2 x i).0
