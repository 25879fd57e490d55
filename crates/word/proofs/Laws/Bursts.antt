-- Why a burst of at most 18 flipped bits is found: in the coded bits the flips lie far apart, and no two words of the code differ so.
--
-- Undoing the accumulator spreads the flips over at most 19 neighbouring places; undoing the interleaver moves neighbours at least 11 places
-- apart modulo 210. But two different sets of coded bits that both are the code's differ somewhere in two places at a distance of 1 or 2.
use mathlib.Core.Path.{◌≡◌, sym, ap, ◌∙◌}
use mathlib.Core.Logic.{⊎_elim}
use Prim.Native.Nat.{ℕ, zero, suc, ◌+◌, ◌*◌, ◌/◌, ◌%◌, ◌≤◌, ◌<◌}
use native.Mathlib.Omega.{arith}
use lib.Bits.{bit_xor, xor_self}
use Rattle.bits.proofs.Laws.Choice.{bit_cases, lt_or_le}
use Rattle.bits.proofs.Laws.First.{FirstOne, one_or_none}
use Rattle.bits.specs.Pack.{Bits}
use Rattle.sizes.specs.Sizes.{info_bits, word_bits}
use Rattle.sizes.specs.Inner.{input_bits}
use Rattle.convolution.specs.Code.{encode}
use Rattle.convolution.proofs.Laws.Code.{encode_same, encode_plus}
use Rattle.convolution.proofs.Laws.Near.{Near, near}
use Rattle.interleaver.specs.Interleaver.{source_bit, output_place, deinterleave}
use Rattle.interleaver.proofs.Laws.Interleaver.{source_output, output_source, output_lt, source_lt, source_mod, taken_from}
use Rattle.accumulator.specs.Accumulator.{accumulate, differentiate}
use Rattle.accumulator.proofs.Laws.Accumulator.{accumulate_same, accumulate_differentiate, accumulate_plus}

-- zeros make zeros
encode_zeros : (rate j : ℕ) → encode rate (λ i. 0) j ≡ 0
encode_zeros rate j = encode_plus rate (λ i. 0) (λ i. 0) j ∙ xor_self (encode rate (λ i. 0) j)

accumulate_zeros : (j : ℕ) → accumulate (λ i. 0) j ≡ 0
accumulate_zeros j = accumulate_plus (λ i. 0) (λ i. 0) j ∙ xor_self (accumulate (λ i. 0) j)

-- the longest burst that is always found
abbrev pub burst : ℕ
burst = 18

-- bits within a burst; with the accumulator undone, within one place more
abbrev Inside : (ℕ → ℕ) → ℕ → Type 0
Inside e start = (j : ℕ) → j < word_bits → e j ≡ 1 → (start ≤ j) × (j < start + burst)

spread : (e : ℕ → ℕ) (start : ℕ) → Bits e → Inside e start → (j : ℕ) → j < word_bits → differentiate e j ≡ 1 → (start ≤ j) × (j < start + (burst + 1))
unfolding differentiate
spread e start b h zero l one = let r = h 0 l one in omega arith
spread e start b h (suc j) l one =
    ⊎_elim
    (λ (z : e (suc j) ≡ 0).
    let o : e j ≡ 1 = sym (ap (λ (a : ℕ). bit_xor a (e j)) z) ∙ one in
    let r = h j (omega arith) o in omega arith)
    (λ (o : e (suc j) ≡ 1). let r = h (suc j) l o in omega arith)
    (bit_cases (e (suc j)) (b (suc j)))

-- places that came from neighbours are not near each other
apart : (p d j k start : ℕ) → 1 ≤ d → d ≤ 2 → p % 210 ≡ 11 * j % 210 → (p + d) % 210 ≡ 11 * k % 210
    → start ≤ j → j < start + (burst + 1) → start ≤ k → k < start + (burst + 1) → ⊥
apart p d j k start d1 d2 ej ek j1 j2 k1 k2 =
    let a : ℕ = 11 * j / 210 + (p + d) / 210 in
    let b : ℕ = p / 210 + 11 * k / 210 in
    let e : 11 * j + d + 210 * b ≡ 11 * k + 210 * a = omega arith in
    ⊎_elim
    (λ (l : a < b). omega arith)
    (λ (l : b ≤ a). ⊎_elim
    (λ (m : b < a). omega arith)
    (λ (m : a ≤ b).
    let same : 11 * j + d ≡ 11 * k = omega arith in
    let left : (11 * j + d) % 11 ≡ d = omega arith in
    let right : 11 * k % 11 ≡ 0 = omega arith in
    let z : d ≡ 0 = sym left ∙ ap (λ (m : ℕ). m % 11) same ∙ right in
    omega arith)
    (lt_or_le b a))
    (lt_or_le a b)

module _ (rate : ℕ) (h : rate < 3) (e : ℕ → ℕ) (be : Bits e) (start : ℕ) (inside : Inside e start) (i : ℕ) (li : i < word_bits) (oi : e i ≡ 1) where
  -- no input difference that ends in 0 makes these coded differences
  pub no_code : (δ : ℕ → ℕ) → Bits δ → δ (info_bits rate + 33) ≡ 0 → ((x : ℕ) → x < word_bits → encode rate δ x ≡ deinterleave (differentiate e) x) → ⊥
  unfolding input_bits
  no_code δ bδ last same = ⊎_elim (λ (f : FirstOne δ (info_bits rate + 34)). near_no (near δ bδ rate h last f)) none (one_or_none δ bδ (info_bits rate + 34))
    where
      none : ((k : ℕ) → k < info_bits rate + 34 → δ k ≡ 0) → ⊥
      none q =
          let z : (j : ℕ) → j < word_bits → differentiate e j ≡ 0 = λ j l.
          ap (differentiate e) (sym (output_source j l)) ∙ sym (taken_from (differentiate e) (source_bit j)) ∙ sym (same (source_bit j) (source_lt j))
          ∙ encode_same rate δ (λ i. 0) h q (source_bit j) (source_lt j)
          ∙ encode_zeros rate (source_bit j) in
          let zero-e : e i ≡ 0 =
          sym (accumulate_differentiate e i) ∙ accumulate_same (differentiate e) (λ i. 0) i (λ j l. z j (omega arith)) ∙ accumulate_zeros i in
          omega arith

      near_no : Near (encode rate δ) → ⊥
      near_no c =
          let p : ℕ = c.at in
          let d : ℕ = c.apart in
          let j : ℕ = output_place p in
          let k : ℕ = output_place (p + d) in
          let lp : p < word_bits = let r = c.inside in omega arith in
          let oj : differentiate e j ≡ 1 = sym (taken_from (differentiate e) p) ∙ sym (same p lp) ∙ c.this in
          let ok : differentiate e k ≡ 1 = sym (taken_from (differentiate e) (p + d)) ∙ sym (same (p + d) c.inside) ∙ c.that in
          let rj = spread e start be inside j (output_lt p) oj in
          let rk = spread e start be inside k (output_lt (p + d)) ok in
          apart p d j k start c.some c.few
          (ap (λ (m : ℕ). m % 210) (sym (source_output p lp)) ∙ source_mod j)
          (ap (λ (m : ℕ). m % 210) (sym (source_output (p + d) c.inside)) ∙ source_mod k)
          rj.0 rj.1 rk.0 rk.1
