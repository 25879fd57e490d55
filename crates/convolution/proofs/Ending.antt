-- The last eight bytes as one number: 30 bits that stay, the check, and two zeros.
use mathlib.Core.Path.{◌≡◌, refl, sym, ap, ap₂, ◌∙◌}
use mathlib.Core.List.{List}
use mathlib.Core.Logic.{⊎_elim}
use Prim.Native.Nat.{ℕ, ◌+◌, ◌-◌, ◌*◌, ◌/◌, ◌%◌, ◌^◌, ◌≤◌, ◌<◌}
use native.Mathlib.Omega.{arith}
use lib.Bits.{bit_or, bit_and, and_mask}
use lib.Dec.{ltb}
use lib.ListN.{length, get_or}
use lib.Pow.{high, low}
use borrow.Author.Tests.{lt-ltb, le-ltb}
use Rattle.bits.specs.Basics.{pick}
use Rattle.bits.proofs.Laws.Choice.{lt_or_le}
use Rattle.bits.specs.Pack.{Bits, val, bit_at, bit_of, cut}
use Rattle.bits.proofs.Laws.Pack.{val_lt, val_same, val_bits, bit_val, bit_lt, cut_in, cut_past, cut_bits}
use Rattle.bits.proofs.Laws.Parts.{val_split, val_cut, join}
use Rattle.bits.specs.Inner.{Laid}
use Rattle.convolution.specs.Inner.{Ended}

-- the bits of bytes that were laid, and of those before them
laid_bit : (before after : List ℕ) (at n : ℕ) (f : ℕ → ℕ) → Bits f → Laid before at n f after → (u : ℕ) → u < 8 * n → bit_at after (8 * at + u) ≡ f u
unfolding bit_at
laid_bit before after at n f b l u h =
    let d : (8 * at + u) / 8 ≡ at + u / 8 = omega arith in
    let m : (8 * at + u) % 8 ≡ u % 8 = omega arith in
    let e : 8 * (u / 8) + u % 8 ≡ u = omega arith in
    ap₂ (λ (x y : ℕ). get_or after x 0 / 2 ^ (7 - y) % 2) d m
    ∙ ap (λ (v : ℕ). v / 2 ^ (7 - u % 8) % 2) (l.here (u / 8) (omega arith))
    ∙ bit_val (λ w. f (8 * (u / 8) + w)) (λ w. b (8 * (u / 8) + w)) (7 - u % 8) (u % 8) 8 (omega arith)
    ∙ ap f e

laid_before : (before after : List ℕ) (at n : ℕ) (f : ℕ → ℕ) → Laid before at n f after → (i : ℕ) → i < 8 * at → bit_at after i ≡ bit_at before i
unfolding bit_at
laid_before before after at n f l i h = ap (λ (v : ℕ). v / 2 ^ (7 - i % 8) % 2) (l.earlier (i / 8) (omega arith))

module _ (f : ℕ → ℕ) (b : Bits f) (check : ℕ) (small : check < 2 ^ 32) where
  -- bit t of the check; and the 64 bits
  check_at : ℕ → ℕ
  check_at t = check / 2 ^ (32 - 1 - t) % 2

  ended : ℕ → ℕ
  ended u = pick (ltb u 30) (f u) (cut 32 check_at (u - 30))

  ended_bits : Bits ended
  unfolding ended check_at
  ended_bits u =
      ⊎_elim (λ (l : u < 30). rw (lt-ltb u 30 l) (b u))
      (λ (l : 30 ≤ u). rw (le-ltb u 30 l) (cut_bits 32 check_at (λ t. omega arith) (u - 30))) (lt_or_le u 30)

  ended_front : (u : ℕ) → u < 30 → ended u ≡ f u
  unfolding ended
  ended_front u l = rw (lt-ltb u 30 l) refl

  ended_rest : (t : ℕ) → ended (30 + t) ≡ cut 32 check_at t
  unfolding ended
  ended_rest t =
      let l : 30 ≤ 30 + t = omega arith in
      let e : 30 + t - 30 ≡ t = omega arith in
      rw (le-ltb (30 + t) 30 l, e) refl

  -- the number that the code makes of them
  ended_number : bit_or (val f 64 / 2 ^ 34 * 2 ^ 34 % 2 ^ 64) (check * 2 ^ 2 % 2 ^ 64) ≡ val ended 64
  unfolding check_at
  ended_number =
      let front : val f 64 / 2 ^ 34 ≡ val f 30 =
      ap (λ (v : ℕ). v / 2 ^ 34) (val_split f 30 34) ∙ high (val f 30) 34 (val_lt (λ t. f (30 + t)) (λ t. b (30 + t)) 34) in
      let shifted : check * 2 ^ 2 % 2 ^ 64 ≡ check * 2 ^ 2 = omega arith in
      let rest : check * 2 ^ 2 ≡ val (λ t. ended (30 + t)) 34 =
      ap (λ (v : ℕ). v * 2 ^ 2) (sym (val_bits check 32 small)) ∙ sym (val_cut check_at 32 34 (omega arith))
      ∙ sym (val_same (λ t. ended (30 + t)) (cut 32 check_at) 34 (λ t l. ended_rest t)) in
      ap₂ (λ (v w : ℕ). bit_or (v * 2 ^ 34 % 2 ^ 64) w) front shifted
      ∙ join (val f 30) (check * 2 ^ 2) 30 34 (val_lt f b 30) (omega arith) (omega arith)
      ∙ ap₂ (λ (v w : ℕ). v * 2 ^ 34 + w) (sym (val_same ended f 30 ended_front)) rest
      ∙ sym (val_split ended 30 34)

  -- and its bits
  ended_bit : (v : ℕ) → v ≡ val ended 64 → (u : ℕ) → u < 64 → bit_of v u ≡ ended u
  ended_bit v e u l = ap (λ (w : ℕ). bit_of w u) e ∙ bit_val ended ended_bits (63 - u) u 64 (omega arith)

-- the bytes with that number in the place of the last eight
pub end_put : (before after : List ℕ) (check at : ℕ) → check < 2 ^ 32 → at + 8 ≡ length before
    → Laid before at 8 (bit_of (bit_or (val (λ t. bit_at before (8 * at + t)) 64 / 2 ^ 34 * 2 ^ 34 % 2 ^ 64) (check * 2 ^ 2 % 2 ^ 64))) after
    → Ended before check after
unfolding ended check_at
end_put before after check at small e laid =
    let f : ℕ → ℕ = λ t. bit_at before (8 * at + t) in
    let b : Bits f = λ t. bit_lt before (8 * at + t) in
    let v : ℕ = bit_or (val f 64 / 2 ^ 34 * 2 ^ 34 % 2 ^ 64) (check * 2 ^ 2 % 2 ^ 64) in
    record {
      long = laid.long;
      bits = λ k i ek l.
          let g : ℕ → ℕ = λ j. pick (ltb j k) (bit_at before j) (check / 2 ^ (31 - (j - k)) % 2) in
          ⊎_elim
          (λ (h : i < 8 * at).
          let low : i < k = omega arith in
          laid_before before after at 8 (bit_of v) laid i h ∙ sym (cut_in (k + 32) g i (omega arith) ∙ rw (lt-ltb i k low) refl))
          (λ (h : 8 * at ≤ i).
          let u : ℕ = i - 8 * at in
          let place : 8 * at + u ≡ i = omega arith in
          ap (bit_at after) (sym place)
          ∙ laid_bit before after at 8 (bit_of v) (λ j. omega arith) laid u (omega arith)
          ∙ ended_bit f b check small v (ended_number f b check small) u (omega arith)
          ∙ ⊎_elim
          (λ (m : i < k).
          ended_front f b check small u (omega arith) ∙ ap (bit_at before) place ∙ sym (cut_in (k + 32) g i (omega arith) ∙ rw (lt-ltb i k m) refl))
          (λ (m : k ≤ i).
          let t : ℕ = i - k in
          let at30 : u ≡ 30 + t = omega arith in
          ap (ended f b check small) at30 ∙ ended_rest f b check small t
          ∙ ⊎_elim
          (λ (n : t < 32). cut_in 32 (check_at f b check small) t n ∙ sym (cut_in (k + 32) g i (omega arith) ∙ rw (le-ltb i k m) refl))
          (λ (n : 32 ≤ t). cut_past 32 (check_at f b check small) t n ∙ sym (cut_past (k + 32) g i (omega arith)))
          (lt_or_le t 32))
          (lt_or_le i k))
          (lt_or_le i (8 * at));
    }

-- the last 34 bits of eight bytes
pub end_value : (f : ℕ → ℕ) → Bits f → bit_and (val f 64) 0x3FFFFFFFF ≡ val (λ t. f (30 + t)) 34
end_value f b =
    and_mask (val f 64) 34
    ∙ ap (λ (v : ℕ). v % 2 ^ 34) (val_split f 30 34)
    ∙ low (val f 30) 34 (val_lt (λ t. f (30 + t)) (λ t. b (30 + t)) 34)
