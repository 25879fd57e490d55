-- What follows from m, N and B in their ranges: S, M, the slots of a symbol, and how far step 9 spreads.
use mathlib.Core.Path.{◌≡◌, refl, ap, ◌∙◌}
use Prim.Native.Nat.{ℕ, zero, suc, ◌-◌, ◌*◌, ◌/◌, ◌^◌, ◌≤◌}
use native.Mathlib.Omega.{arith}
use native.Mathlib.Nat.{mul-le-mul, mul_assoc, mul_comm}
use Rattle.sizes.specs.Sizes.{word_bits, word_bytes}
use Rattle.header.specs.declared.Fields.{Fields}
use Rattle.header_sizes.specs.Quantities.{pulse_order, symbols_per_word, interleaver_delay, slots_per_symbol}
use Rattle.header_sizes.specs.Inner.{Shaped}

-- what holds at each m holds for every m that question 3 lets pass
pub by_bits : (P : ℕ → Type 0) → P 2 → P 3 → P 4 → P 5 → P 6 → P 7 → P 8 → (m : ℕ) → 2 ≤ m → m ≤ 8 → P m
by_bits P p2 p3 p4 p5 p6 p7 p8 zero l h = absurd (omega arith)
by_bits P p2 p3 p4 p5 p6 p7 p8 (suc zero) l h = absurd (omega arith)
by_bits P p2 p3 p4 p5 p6 p7 p8 (suc (suc zero)) l h = p2
by_bits P p2 p3 p4 p5 p6 p7 p8 (suc (suc (suc zero))) l h = p3
by_bits P p2 p3 p4 p5 p6 p7 p8 (suc (suc (suc (suc zero)))) l h = p4
by_bits P p2 p3 p4 p5 p6 p7 p8 (suc (suc (suc (suc (suc zero))))) l h = p5
by_bits P p2 p3 p4 p5 p6 p7 p8 (suc (suc (suc (suc (suc (suc zero)))))) l h = p6
by_bits P p2 p3 p4 p5 p6 p7 p8 (suc (suc (suc (suc (suc (suc (suc zero))))))) l h = p7
by_bits P p2 p3 p4 p5 p6 p7 p8 (suc (suc (suc (suc (suc (suc (suc (suc zero)))))))) l h = p8
by_bits P p2 p3 p4 p5 p6 p7 p8 (suc (suc (suc (suc (suc (suc (suc (suc (suc m))))))))) l h = absurd (omega arith)

-- ---- m, N, B: questions 3 and 4

module _ (f : Fields) (s : Shaped f) where
  -- S symbols of m bits are a word
  pub word_symbols : symbols_per_word f * f.bits ≡ word_bits
  unfolding symbols_per_word
  word_symbols = by_bits (λ (m : ℕ). word_bits / m * m ≡ word_bits) refl refl refl refl refl refl refl f.bits s.bits_least s.bits_most

  pub symbols_least : word_bytes ≤ symbols_per_word f
  unfolding symbols_per_word
  symbols_least =
      by_bits (λ (m : ℕ). word_bytes ≤ word_bits / m) (omega arith) (omega arith) (omega arith) (omega arith) (omega arith) (omega arith) (omega arith)
      f.bits s.bits_least s.bits_most

  pub symbols_most : symbols_per_word f ≤ 7560
  unfolding symbols_per_word
  symbols_most =
      by_bits (λ (m : ℕ). word_bits / m ≤ 7560) (omega arith) (omega arith) (omega arith) (omega arith) (omega arith) (omega arith) (omega arith)
      f.bits s.bits_least s.bits_most

  pub order_least : 4 ≤ pulse_order f
  unfolding pulse_order
  order_least =
      by_bits (λ (m : ℕ). 4 ≤ 2 ^ m) (omega arith) (omega arith) (omega arith) (omega arith) (omega arith) (omega arith) (omega arith)
      f.bits s.bits_least s.bits_most

  pub order_most : pulse_order f ≤ 256
  unfolding pulse_order
  order_most =
      by_bits (λ (m : ℕ). 2 ^ m ≤ 256) (omega arith) (omega arith) (omega arith) (omega arith) (omega arith) (omega arith) (omega arith)
      f.bits s.bits_least s.bits_most

  -- a group's guard slots are a quarter of its M
  pub order_quarters : pulse_order f / 4 * 4 ≡ pulse_order f
  unfolding pulse_order
  order_quarters = by_bits (λ (m : ℕ). 2 ^ m / 4 * 4 ≡ 2 ^ m) refl refl refl refl refl refl refl f.bits s.bits_least s.bits_most

  pub group_least : 5 ≤ slots_per_symbol f
  unfolding slots_per_symbol
  group_least = let a = order_least in omega arith

  pub group_most : slots_per_symbol f ≤ 320
  unfolding slots_per_symbol
  group_most = let a = order_most in omega arith

  pub pairs_most : f.rows * (f.rows - 1) ≤ 128 * 127
  pairs_most = let l : f.rows - 1 ≤ 127 = let r = s.rows_most in omega arith in mul-le-mul s.rows_most l

  pub spread_most : interleaver_delay f ≤ 4161536
  unfolding interleaver_delay
  spread_most = mul-le-mul pairs_most s.step_most

-- as the step of a row, B · N, times the rows before the last
pub spread_steps : (f : Fields) → interleaver_delay f ≡ (f.rows - 1) * (f.step * f.rows)
unfolding interleaver_delay
spread_steps f =
    ap (λ (x : ℕ). x * f.step) (mul_comm f.rows (f.rows - 1))
    ∙ mul_assoc (f.rows - 1) f.rows f.step
    ∙ ap (λ (x : ℕ). (f.rows - 1) * x) (mul_comm f.rows f.step)
