-- The decoder: each bit by its second output and the two bits before it.
use mathlib.Core.Path.{◌≡◌, refl, sym, ap, ap₂, ◌∙◌}
use mathlib.Core.List.{List}
use mathlib.Core.Logic.{⊎_elim}
use Prim.Native.Nat.{ℕ, zero, suc, ◌+◌, ◌-◌, ◌*◌, ◌≤◌, ◌<◌}
use native.Mathlib.Omega.{arith}
use native.Mathlib.Numerals.{add-one}
use lib.Bits.{bit_xor, xor_zero_r, xor_comm}
use lib.ListN.{set}
use Rattle.bits.proofs.Laws.Choice.{lt_or_le}
use Rattle.bits.proofs.Laws.Sum.{xor_assoc}
use Rattle.sizes.specs.Sizes.{inputs_per, coded_per, word_bits}
use Rattle.convolution.specs.Code.{delay, second_place, recover, decode}
use Rattle.convolution.proofs.Filling.{Filling, fill_one}

recover_next : (s : ℕ → ℕ) (i : ℕ) → recover s i ≡ bit_xor (bit_xor (s i) (delay (recover s) i)) (delay (delay (recover s)) i)
unfolding recover delay
recover_next s zero = sym (xor_zero_r (bit_xor (s 0) 0) ∙ xor_zero_r (s 0))
recover_next s (suc zero) = sym (xor_zero_r (bit_xor (s 1) (s 0)))
recover_next s (suc (suc i)) = refl

-- the two bits before bit i, zeros before the first
pub record Carried (x : ℕ → ℕ) (i newer older : ℕ) : Type 0 where
  pub newer_is : newer ≡ delay x i
  pub older_is : older ≡ delay (delay x) i

pub carried_none : (x : ℕ → ℕ) → Carried x 0 0 0
unfolding delay
carried_none x = record { newer_is = refl; older_is = refl }

pub carried_on : (x : ℕ → ℕ) (i newer older bit : ℕ) → Carried x i newer older → bit ≡ x i → Carried x (i + 1) bit newer
unfolding delay
carried_on x i newer older bit h e =
    record {
      newer_is = e ∙ sym (ap (delay x) (add-one i));
      older_is = h.newer_is ∙ sym (ap (delay (delay x)) (add-one i));
    }

pub decode_next : (rate : ℕ) (c : ℕ → ℕ) (i j newer older : ℕ) → Carried (decode rate c) i newer older → second_place rate i ≡ j
    → bit_xor (bit_xor (c j) older) newer ≡ decode rate c i
unfolding decode
decode_next rate c i j newer older h e =
    let s : ℕ → ℕ = λ k. c (second_place rate k) in
    xor_swap (c j) older newer
    ∙ ap₂ bit_xor (ap₂ bit_xor (ap c (sym e)) h.newer_is) h.older_is
    ∙ sym (recover_next s i)
  where
    xor_swap : (a b d : ℕ) → bit_xor (bit_xor a b) d ≡ bit_xor (bit_xor a d) b
    xor_swap a b d = xor_assoc a b d ∙ ap (bit_xor a) (xor_comm b d) ∙ sym (xor_assoc a d b)

-- so far n places are filled up to i, and the last two bits carried
abbrev pub Decoded : ℕ → (ℕ → ℕ) → ℕ → List ℕ → ℕ → ℕ → ℕ → Type 0
Decoded rate c n xs i newer older = Filling (decode rate c) xs n i × Carried (decode rate c) i newer older

pub decoded_on : (rate : ℕ) (c : ℕ → ℕ) (n : ℕ) (xs : List ℕ) (i j newer older : ℕ) → i < n → second_place rate i ≡ j → Decoded rate c n xs i newer older
    → Decoded rate c n (set xs i (bit_xor (bit_xor (c j) older) newer)) (i + 1) (bit_xor (bit_xor (c j) older) newer) newer
decoded_on rate c n xs i j newer older l p h =
    let b : ℕ = bit_xor (bit_xor (c j) older) newer in
    let e : b ≡ decode rate c i = decode_next rate c i j newer older h.1 p in
    (fill_one (decode rate c) n xs (set xs i b) i b l e refl h.0, carried_on (decode rate c) i newer older b h.1 e)

-- where the second outputs stand: at 1/3 and 1/2 every `step` places, at 2/3 two in a row
module _ (step i : ℕ) (low : 2 ≤ step) (high : step ≤ 3) where
  by_step : (P : ℕ → Type 0) → P 2 → P 3 → P step
  by_step P two three =
      ⊎_elim (λ (l : step < 3). let e : 2 ≡ step = omega arith in rw e at two) (λ (l : 3 ≤ step). let e : 3 ≡ step = omega arith in rw e at three) (lt_or_le step 3)

  pub steps_place : second_place (3 - step) i ≡ step * i + 1
  unfolding second_place inputs_per coded_per
  steps_place = by_step (λ (p : ℕ). second_place (3 - p) i ≡ p * i + 1) (omega arith) (omega arith)

  pub steps_fit : (n : ℕ) → step * n ≡ word_bits → i < n → step * i + 1 < word_bits
  steps_fit n e l = by_step (λ (p : ℕ). p * n ≡ word_bits → p * i + 1 < word_bits) (λ f. omega arith) (λ f. omega arith) e

pub pairs_even : (q : ℕ) → second_place 2 (2 * q) ≡ 3 * q + 1
unfolding second_place inputs_per coded_per
pairs_even q = omega arith

pub pairs_odd : (q : ℕ) → second_place 2 (2 * q + 1) ≡ 3 * q + 2
unfolding second_place inputs_per coded_per
pairs_odd q = omega arith
