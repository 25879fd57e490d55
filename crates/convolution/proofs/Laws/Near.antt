-- A nonzero input difference makes two ones that stand next to each other, or with one place between them. So coded bits that
-- differ only in places further apart are not both the code's, which is what finds bursts.
use mathlib.Core.Path.{◌≡◌, refl, sym, ap, ap₂, ◌∙◌}
use mathlib.Core.Logic.{⊎_elim}
use Prim.Native.Nat.{ℕ, zero, suc, ◌+◌, ◌*◌, ◌/◌, ◌%◌, ◌≤◌, ◌<◌}
use native.Mathlib.Omega.{arith}
use lib.Bits.{bit_xor, xor_zero_r}
use Rattle.bits.proofs.Laws.Choice.{bit_cases}
use Rattle.bits.proofs.Laws.First.{FirstOne}
use Rattle.bits.specs.Pack.{Bits}
use Rattle.sizes.specs.Sizes.{info_bits, word_bits}
use Rattle.sizes.proofs.Laws.Rate.{by_rate}
use Rattle.convolution.specs.Code.{delay, first, second, encode}
use Rattle.convolution.proofs.Laws.Code.{third_first, third_second, half_first, half_second, two_first, two_second, two_odd}

-- two ones of c, below 15,120, one or two places apart
pub record Near (c : ℕ → ℕ) : Type 0 where
  pub at : ℕ
  pub apart : ℕ
  pub some : 1 ≤ apart
  pub few : apart ≤ 2
  pub inside : at + apart < word_bits
  pub this : c at ≡ 1
  pub that : c (at + apart) ≡ 1

-- nothing but zeros so far
quiet_delay : (δ : ℕ → ℕ) (i : ℕ) → ((k : ℕ) → k < i → δ k ≡ 0) → delay δ i ≡ 0
unfolding delay
quiet_delay δ zero h = refl
quiet_delay δ (suc i) h = h i (omega arith)

quiet_delay2 : (δ : ℕ → ℕ) (i : ℕ) → ((k : ℕ) → k < i → δ k ≡ 0) → delay (delay δ) i ≡ 0
unfolding delay
quiet_delay2 δ zero h = refl
quiet_delay2 δ (suc i) h = quiet_delay δ i (λ k l. h k (omega arith))

module _ (δ : ℕ → ℕ) (bits : Bits δ) where
  module _ (i : ℕ) (one : δ i ≡ 1) (quiet : (k : ℕ) → k < i → δ k ≡ 0) where
    -- the outputs of the first 1
    first_one : first δ i ≡ 1
    unfolding first
    first_one = ap₂ bit_xor one (quiet_delay2 δ i quiet)

    second_one : second δ i ≡ 1
    unfolding second
    second_one = ap₂ bit_xor (ap₂ bit_xor one (quiet_delay δ i quiet)) (quiet_delay2 δ i quiet)

    -- and of the bit after it: the first is that bit, the second its opposite
    first_next : first δ (suc i) ≡ δ (suc i)
    unfolding first delay
    first_next = ap (λ (d : ℕ). bit_xor (δ (suc i)) d) (quiet_delay δ i quiet) ∙ xor_zero_r (δ (suc i))

    second_next : second δ (suc i) ≡ bit_xor (δ (suc i)) 1
    unfolding second delay
    second_next =
        ap₂ (λ (a b : ℕ). bit_xor (bit_xor (δ (suc i)) a) b) one (quiet_delay δ i quiet)
        ∙ xor_zero_r (bit_xor (δ (suc i)) 1)

    near_third : i < 5040 → Near (encode 0 δ)
    near_third l =
        record {
          at = 3 * i;
          apart = 1;
          some = omega arith;
          few = omega arith;
          inside = omega arith;
          this = third_first δ i ∙ first_one;
          that = third_second δ i ∙ second_one;
        }

    near_half : i < 7560 → Near (encode 1 δ)
    near_half l =
        record {
          at = 2 * i;
          apart = 1;
          some = omega arith;
          few = omega arith;
          inside = omega arith;
          this = half_first δ i ∙ first_one;
          that = half_second δ i ∙ second_one;
        }

    near_even : i < 10080 → i % 2 ≡ 0 → Near (encode 2 δ)
    near_even l e =
        let q : 2 * (i / 2) ≡ i = omega arith in
        record {
          at = 3 * (i / 2);
          apart = 1;
          some = omega arith;
          few = omega arith;
          inside = omega arith;
          this = two_first δ (i / 2) ∙ ap (first δ) q ∙ first_one;
          that = two_second δ (i / 2) ∙ ap (second δ) q ∙ second_one;
        }

    near_odd : i < 10079 → i % 2 ≡ 1 → Near (encode 2 δ)
    near_odd l e =
        let q : 2 * (i / 2) + 1 ≡ i = omega arith in
        let n : 2 * (i / 2 + 1) ≡ suc i = omega arith in
        let at1 : 3 * (i / 2) + 2 + 1 ≡ 3 * (i / 2 + 1) = omega arith in
        let at2 : 3 * (i / 2) + 2 + 2 ≡ 3 * (i / 2 + 1) + 1 = omega arith in
        let here : encode 2 δ (3 * (i / 2) + 2) ≡ 1 = two_odd δ (i / 2) ∙ ap (second δ) q ∙ second_one in
        let next1 : encode 2 δ (3 * (i / 2) + 2 + 1) ≡ δ (suc i) = ap (encode 2 δ) at1 ∙ two_first δ (i / 2 + 1) ∙ ap (first δ) n ∙ first_next in
        let next2 : encode 2 δ (3 * (i / 2) + 2 + 2) ≡ bit_xor (δ (suc i)) 1 = ap (encode 2 δ) at2 ∙ two_second δ (i / 2 + 1) ∙ ap (second δ) n ∙ second_next in
        ⊎_elim
        (λ (z : δ (suc i) ≡ 0). record {
          at = 3 * (i / 2) + 2;
          apart = 2;
          some = omega arith;
          few = omega arith;
          inside = omega arith;
          this = here;
          that = next2 ∙ ap (λ (b : ℕ). bit_xor b 1) z;
        })
        (λ (o : δ (suc i) ≡ 1). record {
          at = 3 * (i / 2) + 2;
          apart = 1;
          some = omega arith;
          few = omega arith;
          inside = omega arith;
          this = here;
          that = next1 ∙ o;
        })
        (bit_cases (δ (suc i)) (bits (suc i)))

    near_two : i < 10079 → Near (encode 2 δ)
    near_two l =
        ⊎_elim (λ (e : i % 2 ≡ 0). near_even (omega arith) e) (λ (e : i % 2 ≡ 1). near_odd l e) (bit_cases (i % 2) (omega arith))

  -- a difference with a 1 in it whose last bit is 0
  pub near : (r : ℕ) → r < 3 → δ (info_bits r + 33) ≡ 0 → FirstOne δ (info_bits r + 34) → Near (encode r δ)
  unfolding info_bits
  near r h =
      by_rate (λ (r : ℕ). δ (info_bits r + 33) ≡ 0 → FirstOne δ (info_bits r + 34) → Near (encode r δ))
      (λ z f. near_third f.at f.one f.quiet f.inside)
      (λ z f. near_half f.at f.one f.quiet f.inside)
      (λ z f.
      let l = f.inside in
      let g : f.at ≡ 10079 → ⊥ = λ e. (let o : δ 10079 ≡ 1 = ap δ (sym e) ∙ f.one in omega arith) in
      near_two f.at f.one f.quiet (omega arith))
      r h
