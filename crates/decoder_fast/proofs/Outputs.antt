-- Why sums of neighbours are the input bits. With Z i for the sum of the outputs F and S of input bit i, Z i is the bit before it where nothing is
-- wrong; and if F i = Z (i + 1) + Z (i - 1) for all i, then F and S are the outputs of these bits.
use mathlib.Core.Path.{◌≡◌, refl, sym, ap, ap₂, ◌∙◌}
use mathlib.Core.Logic.{⊎_elim}
use Prim.Native.Nat.{ℕ, zero, suc, ◌+◌, ◌*◌, ◌/◌, ◌%◌, ◌≤◌, ◌<◌}
use native.Mathlib.Omega.{arith}
use native.Mathlib.Numerals.{add-one}
use lib.Bits.{bit_xor, xor_zero_r, xor_comm}
use Rattle.bits.proofs.Laws.Choice.{lt_or_le}
use Rattle.bits.proofs.Laws.Sum.{xor_assoc, xor_cancel, xor_cancel_r, same_xor}
use Rattle.sizes.specs.Sizes.{word_bits}
use Rattle.convolution.specs.Code.{delay, first, second, encode}
use Rattle.convolution.proofs.Laws.Code.{third_first, third_second, third_third, half_first, half_second, two_first, two_second, two_odd}

-- three that sum to 0: each is the sum of the others
xor_last : (a b c : ℕ) → bit_xor (bit_xor a b) c ≡ 0 → bit_xor c a ≡ b
xor_last a b c e = ap (λ (v : ℕ). bit_xor v a) (sym (same_xor (bit_xor a b) c e)) ∙ ap (λ (v : ℕ). bit_xor v a) (xor_comm a b) ∙ xor_cancel_r b a

xor_right : (a b c : ℕ) → bit_xor (bit_xor a b) c ≡ bit_xor (bit_xor a c) b
xor_right a b c = xor_assoc a b c ∙ ap (bit_xor a) (xor_comm b c) ∙ sym (xor_assoc a c b)

-- z are the n bits after Z's first, which is 0
module _ (z Z : ℕ → ℕ) (n : ℕ) (none : Z 0 ≡ 0) (behind : (i : ℕ) → i < n → z i ≡ Z (i + 1)) where
  delayed : (i : ℕ) → i ≤ n → delay z i ≡ Z i
  unfolding delay
  delayed zero h = sym none
  delayed (suc i) h = behind i (omega arith) ∙ ap Z (add-one i)

  delayed2 : (i : ℕ) → i ≤ n → delay (delay z) i ≡ delay Z i
  unfolding delay
  delayed2 zero h = refl
  delayed2 (suc i) h = delayed i (omega arith)

  first_is : (i : ℕ) → i < n → first z i ≡ bit_xor (Z (i + 1)) (delay Z i)
  unfolding first
  first_is i h = ap₂ bit_xor (behind i h) (delayed2 i (omega arith))

  second_is : (i : ℕ) → i < n → second z i ≡ bit_xor (bit_xor (Z (i + 1)) (delay Z i)) (Z i)
  unfolding second
  second_is i h =
      ap₂ bit_xor (ap₂ bit_xor (behind i h) (delayed i (omega arith))) (delayed2 i (omega arith)) ∙ xor_right (Z (i + 1)) (Z i) (delay Z i)

  -- a first output f, and with it a second
  module _ (i : ℕ) (h : i < n) (f : ℕ) (right : f ≡ bit_xor (Z (i + 1)) (delay Z i)) where
    pub first_right : f ≡ first z i
    first_right = right ∙ sym (first_is i h)

    pub second_right : (s : ℕ) → Z i ≡ bit_xor f s → s ≡ second z i
    second_right s e = sym (second_is i h ∙ ap₂ bit_xor (sym right) e ∙ xor_cancel f s)

-- the first outputs by what is tested: that of bit 0 alone, and the others with the sums before and after
tested : (Z F : ℕ → ℕ) (n : ℕ) → F 0 ≡ Z 1 → ((m : ℕ) → m + 1 < n → bit_xor (bit_xor (Z m) (F (m + 1))) (Z (m + 2)) ≡ 0) → (i : ℕ) → i < n → F i ≡ bit_xor (Z (i + 1)) (delay Z i)
unfolding delay
tested Z F n e h zero l = e ∙ sym (xor_zero_r (Z 1))
tested Z F n e h (suc m) l =
    let p : suc m + 1 ≡ m + 2 = omega arith in
    ap F (sym (add-one m)) ∙ sym (xor_last (Z m) (F (m + 1)) (Z (m + 2)) (h m (omega arith))) ∙ ap (λ (k : ℕ). bit_xor (Z k) (Z m)) (sym p)

-- ---- the rates

-- all places are the first, second or third of a turn of three, or the first or second of one of two
by_three : (P : ℕ → Type 0) (n : ℕ) → ((i : ℕ) → i < n → P (3 * i)) → ((i : ℕ) → i < n → P (3 * i + 1)) → ((i : ℕ) → i < n → P (3 * i + 2)) → (j : ℕ) → j < 3 * n → P j
by_three P n p q r j h =
    ⊎_elim
    (λ (l : j % 3 < 1). let e : 3 * (j / 3) ≡ j = omega arith in rw e at (p (j / 3) (omega arith)))
    (λ (l : 1 ≤ j % 3). ⊎_elim
    (λ (m : j % 3 < 2). let e : 3 * (j / 3) + 1 ≡ j = omega arith in rw e at (q (j / 3) (omega arith)))
    (λ (m : 2 ≤ j % 3). let e : 3 * (j / 3) + 2 ≡ j = omega arith in rw e at (r (j / 3) (omega arith)))
    (lt_or_le (j % 3) 2))
    (lt_or_le (j % 3) 1)

by_two : (P : ℕ → Type 0) (n : ℕ) → ((i : ℕ) → i < n → P (2 * i)) → ((i : ℕ) → i < n → P (2 * i + 1)) → (j : ℕ) → j < 2 * n → P j
by_two P n p q j h =
    ⊎_elim
    (λ (l : j % 2 < 1). let e : 2 * (j / 2) ≡ j = omega arith in rw e at (p (j / 2) (omega arith)))
    (λ (l : 1 ≤ j % 2). let e : 2 * (j / 2) + 1 ≡ j = omega arith in rw e at (q (j / 2) (omega arith)))
    (lt_or_le (j % 2) 1)

module _ (c z : ℕ → ℕ) where
  -- at 1/3 and 1/2 the first two outputs of bit i stand together
  module _ (step n : ℕ) (none : bit_xor (c (step * 0)) (c (step * 0 + 1)) ≡ 0) (behind : (i : ℕ) → i < n → z i ≡ bit_xor (c (step * (i + 1))) (c (step * (i + 1) + 1)))
      (start : c (step * 0) ≡ bit_xor (c (step * 1)) (c (step * 1 + 1)))
      (sums : (m : ℕ) → m + 1 < n → bit_xor (bit_xor (bit_xor (c (step * m)) (c (step * m + 1))) (c (step * (m + 1)))) (bit_xor (c (step * (m + 2))) (c (step * (m + 2) + 1))) ≡ 0) where
    Z : ℕ → ℕ
    Z i = bit_xor (c (step * i)) (c (step * i + 1))

    right : (i : ℕ) → i < n → c (step * i) ≡ bit_xor (Z (i + 1)) (delay Z i)
    unfolding Z
    right = tested Z (λ i. c (step * i)) n start sums

    pub step_first : (i : ℕ) → i < n → c (step * i) ≡ first z i
    unfolding Z
    step_first i l = first_right z Z n none behind i l (c (step * i)) (right i l)

    pub step_second : (i : ℕ) → i < n → c (step * i + 1) ≡ second z i
    unfolding Z
    step_second i l = second_right z Z n none behind i l (c (step * i)) (right i l) (c (step * i + 1)) refl

  -- at 2/3 those of the even bits, and the second output of an odd bit after them
  module _ (none : bit_xor (c (3 * 0)) (c (3 * 0 + 1)) ≡ 0)
      (odd : (i : ℕ) → i < 5040 → z (2 * i + 1) ≡ bit_xor (c (3 * (i + 1))) (c (3 * (i + 1) + 1)))
      (even : (i : ℕ) → i < 5040 → z (2 * i) ≡ bit_xor (bit_xor (bit_xor (bit_xor (c (3 * i)) (c (3 * i + 1))) (c (3 * i + 2))) (c (3 * i + 3))) (c (3 * i + 4)))
      (start : c (3 * 0) ≡ z 0)
      (sums : (m : ℕ) → m + 1 < 5040 → bit_xor (bit_xor (z (2 * m)) (c (3 * (m + 1)))) (z (2 * (m + 1))) ≡ 0) where
    pair : ℕ → ℕ
    pair i = bit_xor (c (3 * i)) (c (3 * i + 1))

    -- the bit before bit i
    W : ℕ → ℕ
    W zero = 0
    W (suc i) = z i

    W_pair : (i : ℕ) → i < 5040 → W (2 * i) ≡ pair i
    unfolding pair W
    W_pair zero l = sym none
    W_pair (suc i) l =
        let e : 2 * suc i ≡ suc (2 * i + 1) = omega arith in
        let d : i + 1 ≡ suc i = omega arith in
        ap W e ∙ odd i (omega arith) ∙ ap (λ (k : ℕ). bit_xor (c (3 * k)) (c (3 * k + 1))) d

    W_next : (i : ℕ) → W (i + 1) ≡ z i
    unfolding W
    W_next i = ap W (add-one i)

    right_even : (i : ℕ) → i < 5040 → c (3 * i) ≡ bit_xor (W (2 * i + 1)) (delay W (2 * i))
    unfolding W delay
    right_even zero l = start ∙ sym (xor_zero_r (z 0))
    right_even (suc i) l =
        let e : i + 1 ≡ suc i = omega arith in
        let two : 2 * suc i ≡ suc (suc (2 * i)) = omega arith in
        let back : delay W (2 * suc i) ≡ z (2 * i) = ap (delay W) two in
        sym (ap₂ bit_xor (W_next (2 * suc i)) back ∙ ap (λ (k : ℕ). bit_xor (z (2 * k)) (z (2 * i))) (sym e)
        ∙ xor_last (z (2 * i)) (c (3 * (i + 1))) (z (2 * (i + 1))) (sums i (omega arith)) ∙ ap (λ (k : ℕ). c (3 * k)) e)

    behind_W : (i : ℕ) → i < 10080 → z i ≡ W (i + 1)
    behind_W i l = sym (W_next i)

    pub two_first_is : (i : ℕ) → i < 5040 → c (3 * i) ≡ first z (2 * i)
    unfolding W
    two_first_is i l = first_right z W 10080 refl behind_W (2 * i) (omega arith) (c (3 * i)) (right_even i l)

    pub two_second_is : (i : ℕ) → i < 5040 → c (3 * i + 1) ≡ second z (2 * i)
    unfolding W pair
    two_second_is i l = second_right z W 10080 refl behind_W (2 * i) (omega arith) (c (3 * i)) (right_even i l) (c (3 * i + 1)) (W_pair i l)

    -- the sum of the bit itself and those before it
    pub two_odd_is : (i : ℕ) → i < 5040 → c (3 * i + 2) ≡ second z (2 * i + 1)
    unfolding W pair delay second
    two_odd_is i l =
        let one : 2 * i + 1 ≡ suc (2 * i) = omega arith in
        let p : ℕ = pair i in
        let q : ℕ = c (3 * i + 2) in
        let a : ℕ = c (3 * i + 3) in
        let b : ℕ = c (3 * i + 4) in
        let ea : 3 * (i + 1) ≡ 3 * i + 3 = omega arith in
        let eb : 3 * (i + 1) + 1 ≡ 3 * i + 4 = omega arith in
        let new : z (2 * i + 1) ≡ bit_xor a b = odd i l ∙ ap₂ (λ (j k : ℕ). bit_xor (c j) (c k)) ea eb in
        let old : z (2 * i) ≡ bit_xor (bit_xor p q) (bit_xor a b) = even i l ∙ xor_assoc (bit_xor p q) a b in
        let before : delay z (2 * i) ≡ p = delay_W (2 * i) ∙ W_pair i l in
        sym (ap₂ (λ (v w : ℕ). bit_xor (bit_xor (z (2 * i + 1)) v) w) (ap (delay z) one) (ap (delay (delay z)) one)
        ∙ ap₂ (λ (v w : ℕ). bit_xor (bit_xor v w) (delay z (2 * i))) new old
        ∙ ap (bit_xor (bit_xor (bit_xor a b) (bit_xor (bit_xor p q) (bit_xor a b)))) before
        ∙ ap (λ (v : ℕ). bit_xor v p) (ap (bit_xor (bit_xor a b)) (xor_comm (bit_xor p q) (bit_xor a b)) ∙ xor_cancel (bit_xor a b) (bit_xor p q))
        ∙ ap (λ (v : ℕ). bit_xor v p) (xor_comm p q) ∙ xor_cancel_r q p)
      where
        delay_W : (k : ℕ) → delay z k ≡ W k
        delay_W zero = refl
        delay_W (suc k) = refl

-- where these hold, all coded bits are those of z
module _ (c z : ℕ → ℕ) where
  pub third_made : ((i : ℕ) → i < 5040 → c (3 * i) ≡ first z i) → ((i : ℕ) → i < 5040 → c (3 * i + 1) ≡ second z i) → ((i : ℕ) → i < 5040 → c (3 * i + 1) ≡ c (3 * i + 2))
      → (j : ℕ) → j < word_bits → c j ≡ encode 0 z j
  third_made f s t =
      by_three (λ (j : ℕ). c j ≡ encode 0 z j) 5040 (λ i l. f i l ∙ sym (third_first z i)) (λ i l. s i l ∙ sym (third_second z i))
      (λ i l. sym (t i l) ∙ s i l ∙ sym (third_third z i))

  pub half_made : ((i : ℕ) → i < 7560 → c (2 * i) ≡ first z i) → ((i : ℕ) → i < 7560 → c (2 * i + 1) ≡ second z i) → (j : ℕ) → j < word_bits → c j ≡ encode 1 z j
  half_made f s = by_two (λ (j : ℕ). c j ≡ encode 1 z j) 7560 (λ i l. f i l ∙ sym (half_first z i)) (λ i l. s i l ∙ sym (half_second z i))

  pub two_made : ((i : ℕ) → i < 5040 → c (3 * i) ≡ first z (2 * i)) → ((i : ℕ) → i < 5040 → c (3 * i + 1) ≡ second z (2 * i)) → ((i : ℕ) → i < 5040 → c (3 * i + 2) ≡ second z (2 * i + 1))
      → (j : ℕ) → j < word_bits → c j ≡ encode 2 z j
  two_made f s t =
      by_three (λ (j : ℕ). c j ≡ encode 2 z j) 5040 (λ i l. f i l ∙ sym (two_first z i)) (λ i l. s i l ∙ sym (two_second z i)) (λ i l. t i l ∙ sym (two_odd z i))
