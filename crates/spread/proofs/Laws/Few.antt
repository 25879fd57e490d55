-- Why few coded bits change: a changed block bit reaches the coded bits of its own step and of the two after it, and through the check the steps
-- from k on; all others see zeros.
use mathlib.Core.Path.{◌≡◌, refl, ap, ap₂, ◌∙◌}
use mathlib.Core.Bool.{Bool, true, false}
use mathlib.Core.Logic.{⊎_elim}
use Prim.Native.Nat.{ℕ, zero, suc, ◌+◌, ◌-◌, ◌*◌, ◌/◌, ◌%◌, ◌≤◌, ◌<◌}
use native.Mathlib.Omega.{arith}
use lib.Bits.{bit_xor}
use lib.Dec.{eqb}
use Rattle.bits.specs.Basics.{pick}
use Rattle.bits.proofs.Laws.Choice.{lt_or_le}
use Rattle.bits.specs.Pack.{Bits}
use Rattle.bits.specs.Count.{weight}
use Rattle.bits.proofs.Laws.Weight.{weight_past}
use Rattle.sizes.specs.Sizes.{info_bits, inputs_per, coded_per, word_bits}
use Rattle.sizes.proofs.Laws.Rate.{by_rate}
use Rattle.convolution.specs.Code.{delay, first, second, input_place, encode}
use Rattle.convolution.proofs.Laws.Code.{encode_bits, third_first, half_first}

-- the most coded bits that change with one block bit
unfoldable pub limit : ℕ → ℕ
limit zero = 110
limit (suc zero) = 73
limit (suc (suc r)) = 56

-- ---- where the code sees zeros

outputs_quiet : (x : ℕ → ℕ) (i : ℕ) → ((t : ℕ) → t ≤ i → i ≤ t + 2 → x t ≡ 0) → (first x i ≡ 0) × (second x i ≡ 0)
unfolding first second delay
outputs_quiet x zero h =
    let e : x 0 ≡ 0 = h 0 (omega arith) (omega arith) in
    (ap (λ (b : ℕ). bit_xor b 0) e, ap (λ (b : ℕ). bit_xor (bit_xor b 0) 0) e)
outputs_quiet x (suc zero) h =
    let e : x 1 ≡ 0 = h 1 (omega arith) (omega arith) in
    let f : x 0 ≡ 0 = h 0 (omega arith) (omega arith) in
    (ap (λ (b : ℕ). bit_xor b 0) e, ap₂ (λ (b c : ℕ). bit_xor (bit_xor b c) 0) e f)
outputs_quiet x (suc (suc i)) h =
    let e : x (suc (suc i)) ≡ 0 = h (suc (suc i)) (omega arith) (omega arith) in
    let f : x (suc i) ≡ 0 = h (suc i) (omega arith) (omega arith) in
    let g : x i ≡ 0 = h i (omega arith) (omega arith) in
    (ap₂ bit_xor e g, ap₂ bit_xor (ap₂ bit_xor e f) g)

encode_quiet : (rate : ℕ) (x : ℕ → ℕ) (j : ℕ) → ((t : ℕ) → t ≤ input_place rate j → input_place rate j ≤ t + 2 → x t ≡ 0) → encode rate x j ≡ 0
unfolding encode
encode_quiet rate x j h = cases (eqb (j % coded_per rate) 0)
  where
    cases : (t : Bool) → pick t (first x (input_place rate j)) (second x (input_place rate j)) ≡ 0
    cases true = (outputs_quiet x (input_place rate j) h).0
    cases false = (outputs_quiet x (input_place rate j) h).1

-- ---- input bits of which, among the first k, only bit b is not zero

module _ (δ : ℕ → ℕ) (bits : Bits δ) (b : ℕ) where
  -- the first output after it does not see it
  first_behind : δ (suc b) ≡ 0 → ((i : ℕ) → suc i ≡ b → δ i ≡ 0) → first δ (suc b) ≡ 0
  unfolding first delay
  first_behind e f = cases b e f
    where
      cases : (b : ℕ) → δ (suc b) ≡ 0 → ((i : ℕ) → suc i ≡ b → δ i ≡ 0) → bit_xor (δ (suc b)) (delay (delay δ) (suc b)) ≡ 0
      cases zero e f = ap (λ (a : ℕ). bit_xor a 0) e
      cases (suc i) e f = ap₂ bit_xor e (f i refl)

  none : (rate : ℕ) → weight (encode rate δ) 0 ≤ 0
  unfolding weight
  none rate = omega arith

  -- three, and of the three after them two, and three; then those from step k on. Or those from step k - 2 on alone
  few_third : b < 5006 → ((i : ℕ) → i < 5006 → (i ≡ b → ⊥) → δ i ≡ 0) → weight (encode 0 δ) word_bits ≤ 110
  unfolding input_place inputs_per coded_per
  few_third l alone =
      let c : ℕ → ℕ = encode 0 δ in
      let bc : Bits c = encode_bits 0 δ bits in
      ⊎_elim
      (λ (u : b < 5004).
      let w1 : weight c (3 * b + 3) ≤ 0 + (3 * b + 3 - 3 * b) =
      weight_past c bc 0 (3 * b) (3 * b + 3) 0 (omega arith) (omega arith) (none 0) (λ i p q. encode_quiet 0 δ i (λ t m n. alone t (omega arith) (λ e. omega arith))) in
      let behind : first δ (suc b) ≡ 0 = first_behind (alone (suc b) (omega arith) (λ e. omega arith)) (λ i e. alone i (omega arith) (λ q. omega arith)) in
      let w2 : weight c (3 * b + 9) ≤ 3 + (3 * b + 9 - (3 * b + 4)) =
      weight_past c bc (3 * b + 3) (3 * b + 4) (3 * b + 9) 3 (omega arith) (omega arith) (omega arith) (λ i p q. let e : i ≡ 3 * suc b = omega arith in ap c e ∙ third_first δ (suc b) ∙ behind) in
      let w3 : weight c word_bits ≤ 8 + (word_bits - 15018) =
      weight_past c bc (3 * b + 9) 15018 word_bits 8 (omega arith) (omega arith) (omega arith) (λ i p q. encode_quiet 0 δ i (λ t m n. alone t (omega arith) (λ e. omega arith))) in
      omega arith)
      (λ (u : 5004 ≤ b).
      let w : weight c word_bits ≤ 0 + (word_bits - 3 * b) =
      weight_past c bc 0 (3 * b) word_bits 0 (omega arith) (omega arith) (none 0) (λ i p q. encode_quiet 0 δ i (λ t m n. alone t (omega arith) (λ e. omega arith))) in
      omega arith)
      (lt_or_le b 5004)

  -- two, and of the two after them one, and two
  few_half : b < 7526 → ((i : ℕ) → i < 7526 → (i ≡ b → ⊥) → δ i ≡ 0) → weight (encode 1 δ) word_bits ≤ 73
  unfolding input_place inputs_per coded_per
  few_half l alone =
      let c : ℕ → ℕ = encode 1 δ in
      let bc : Bits c = encode_bits 1 δ bits in
      ⊎_elim
      (λ (u : b < 7524).
      let w1 : weight c (2 * b + 2) ≤ 0 + (2 * b + 2 - 2 * b) =
      weight_past c bc 0 (2 * b) (2 * b + 2) 0 (omega arith) (omega arith) (none 1) (λ i p q. encode_quiet 1 δ i (λ t m n. alone t (omega arith) (λ e. omega arith))) in
      let behind : first δ (suc b) ≡ 0 = first_behind (alone (suc b) (omega arith) (λ e. omega arith)) (λ i e. alone i (omega arith) (λ q. omega arith)) in
      let w2 : weight c (2 * b + 6) ≤ 2 + (2 * b + 6 - (2 * b + 3)) =
      weight_past c bc (2 * b + 2) (2 * b + 3) (2 * b + 6) 2 (omega arith) (omega arith) (omega arith) (λ i p q. let e : i ≡ 2 * suc b = omega arith in ap c e ∙ half_first δ (suc b) ∙ behind) in
      let w3 : weight c word_bits ≤ 5 + (word_bits - 15052) =
      weight_past c bc (2 * b + 6) 15052 word_bits 5 (omega arith) (omega arith) (omega arith) (λ i p q. encode_quiet 1 δ i (λ t m n. alone t (omega arith) (λ e. omega arith))) in
      omega arith)
      (λ (u : 7524 ≤ b).
      let w : weight c word_bits ≤ 0 + (word_bits - 2 * b) =
      weight_past c bc 0 (2 * b) word_bits 0 (omega arith) (omega arith) (none 1) (λ i p q. encode_quiet 1 δ i (λ t m n. alone t (omega arith) (λ e. omega arith))) in
      omega arith)
      (lt_or_le b 7524)

  -- four or five
  few_two_thirds : b < 10046 → ((i : ℕ) → i < 10046 → (i ≡ b → ⊥) → δ i ≡ 0) → weight (encode 2 δ) word_bits ≤ 56
  unfolding input_place inputs_per coded_per
  few_two_thirds l alone =
      let c : ℕ → ℕ = encode 2 δ in
      let bc : Bits c = encode_bits 2 δ bits in
      let p : ℕ = (3 * b + 1) / 2 in
      let q : ℕ = (3 * b + 10) / 2 in
      ⊎_elim
      (λ (u : b < 10044).
      let w1 : weight c q ≤ 0 + (q - p) =
      weight_past c bc 0 p q 0 (omega arith) (omega arith) (none 2) (λ i p q. encode_quiet 2 δ i (λ t m n. alone t (omega arith) (λ e. omega arith))) in
      let w2 : weight c word_bits ≤ 5 + (word_bits - 15069) =
      weight_past c bc q 15069 word_bits 5 (omega arith) (omega arith) (omega arith) (λ i p q. encode_quiet 2 δ i (λ t m n. alone t (omega arith) (λ e. omega arith))) in
      omega arith)
      (λ (u : 10044 ≤ b).
      let w : weight c word_bits ≤ 0 + (word_bits - p) =
      weight_past c bc 0 p word_bits 0 (omega arith) (omega arith) (none 2) (λ i p q. encode_quiet 2 δ i (λ t m n. alone t (omega arith) (λ e. omega arith))) in
      omega arith)
      (lt_or_le b 10044)

  pub few : (rate : ℕ) → rate < 3 → b < info_bits rate → ((i : ℕ) → i < info_bits rate → (i ≡ b → ⊥) → δ i ≡ 0) → weight (encode rate δ) word_bits ≤ limit rate
  unfolding info_bits limit
  few = by_rate (λ (r : ℕ). b < info_bits r → ((i : ℕ) → i < info_bits r → (i ≡ b → ⊥) → δ i ≡ 0) → weight (encode r δ) word_bits ≤ limit r) few_third few_half few_two_thirds
