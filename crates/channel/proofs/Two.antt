-- Two neighbouring bytes hold the bits of a symbol: they are the first bits, the middle ones or the last of sixteen.
use mathlib.Core.Path.{◌≡◌, refl, sym, ap, ap₂, ◌∙◌}
use mathlib.Core.List.{List}
use mathlib.Core.Logic.{◌⊎◌, inl, inr, ⊎_elim}
use Prim.Native.Nat.{ℕ, ◌+◌, ◌-◌, ◌*◌, ◌/◌, ◌%◌, ◌^◌, ◌≤◌, ◌<◌}
use native.Mathlib.Omega.{arith}
use native.Mathlib.Nat.{mul_comm, mod-lt, mod-eq_of_lt, div-add-mod'}
use lib.Arith.{digits_div}
use lib.Bits.{bit_xor, bit_and, and_mask, xor_zero_r}
use lib.Dec.{ltb}
use lib.ListN.{length, get_or, set, length-set}
use lib.Pow.{high, low}
use lib.Seq.{get_or-set_same, get_or-set_other}
use borrow.Author.Tests.{lt-ltb, le-ltb}
use Rattle.bits.specs.Basics.{pick}
use Rattle.bits.proofs.Laws.Choice.{lt_or_le, eq_or_ne}
use Rattle.bits.specs.Pack.{val, bit_at, Bits, cut}
use Rattle.bits.proofs.Laws.Pack.{val_lt, val_same, val_bits, bit_val, cut_in, cut_past, cut_bits}
use Rattle.bits.proofs.Laws.Parts.{val_split, val_none, val_cut}
use Rattle.bits.proofs.Laws.Sum.{xor_digit}
use Rattle.channel.specs.Inner.{Puts, Put}

-- ---- bytes i and i + 1 with a and b added

module _ (xs : List ℕ) (i a b : ℕ) (room : i + 1 < length xs) where
  abbrev one : List ℕ
  one = set xs i (bit_xor (get_or xs i 0) a)

  abbrev pub two : List ℕ
  two = set one (i + 1) (bit_xor (get_or one (i + 1) 0) b)

  long_one : length one ≡ length xs
  long_one = length-set xs i (bit_xor (get_or xs i 0) a)

  pub two_long : length two ≡ length xs
  two_long = length-set one (i + 1) (bit_xor (get_or one (i + 1) 0) b) ∙ long_one

  apart : (k : ℕ) → (k ≡ i → ⊥) → get_or one k 0 ≡ get_or xs k 0
  apart k n = get_or-set_other xs i k (bit_xor (get_or xs i 0) a) 0 n

  pub two_first : (x : ℕ) → x / 8 ≡ i → bit_at two x ≡ bit_xor (bit_at xs x) (a / 2 ^ (7 - x % 8) % 2)
  unfolding bit_at
  two_first x e =
      let n : x / 8 ≡ i + 1 → ⊥ = λ q. omega arith in
      ap (λ (v : ℕ). v / 2 ^ (7 - x % 8) % 2) (
      get_or-set_other one (i + 1) (x / 8) (bit_xor (get_or one (i + 1) 0) b) 0 n
      ∙ ap (λ (k : ℕ). get_or one k 0) e
      ∙ get_or-set_same xs i (bit_xor (get_or xs i 0) a) 0 (omega arith)
      ∙ ap (λ (k : ℕ). bit_xor (get_or xs k 0) a) (sym e))
      ∙ xor_digit (get_or xs (x / 8) 0) a (7 - x % 8)

  pub two_second : (x : ℕ) → x / 8 ≡ i + 1 → bit_at two x ≡ bit_xor (bit_at xs x) (b / 2 ^ (7 - x % 8) % 2)
  unfolding bit_at
  two_second x e =
      let n : i + 1 ≡ i → ⊥ = λ q. omega arith in
      let long = long_one in
      ap (λ (v : ℕ). v / 2 ^ (7 - x % 8) % 2) (
      ap (λ (k : ℕ). get_or two k 0) e
      ∙ get_or-set_same one (i + 1) (bit_xor (get_or one (i + 1) 0) b) 0 (omega arith)
      ∙ ap (λ (v : ℕ). bit_xor v b) (apart (i + 1) n)
      ∙ ap (λ (k : ℕ). bit_xor (get_or xs k 0) b) (sym e))
      ∙ xor_digit (get_or xs (x / 8) 0) b (7 - x % 8)

  pub two_other : (x : ℕ) → (x / 8 ≡ i → ⊥) → (x / 8 ≡ i + 1 → ⊥) → bit_at two x ≡ bit_at xs x
  unfolding bit_at
  two_other x n m =
      ap (λ (v : ℕ). v / 2 ^ (7 - x % 8) % 2) (get_or-set_other one (i + 1) (x / 8) (bit_xor (get_or one (i + 1) 0) b) 0 m ∙ apart (x / 8) n)

-- ---- a symbol's bits among sixteen, from bit r on

module _ (m q r : ℕ) (small : q < 2 ^ m) (fits : m + r ≤ 16) where
  abbrev pub bit : ℕ → ℕ
  bit k = q / 2 ^ (m - 1 - k) % 2

  abbrev pub sixteen : ℕ → ℕ
  sixteen k = pick (ltb k r) 0 (cut m bit (k - r))

  bits : Bits bit
  bits k = omega arith

  sixteen_bits : Bits sixteen
  sixteen_bits k =
      ⊎_elim
      (λ (l : k < r). rw (lt-ltb k r l) (omega arith))
      (λ (l : r ≤ k). rw (le-ltb k r l) (cut_bits m bit bits (k - r)))
      (lt_or_le k r)

  pub sixteen_here : (k : ℕ) → k < m → sixteen (r + k) ≡ bit k
  sixteen_here k l =
      let a : r ≤ r + k = omega arith in
      let e : r + k - r ≡ k = omega arith in
      rw (le-ltb (r + k) r a, e) (cut_in m bit k l)

  pub sixteen_before : (k : ℕ) → k < r → sixteen k ≡ 0
  sixteen_before k l = rw (lt-ltb k r l) refl

  pub sixteen_behind : (k : ℕ) → r + m ≤ k → sixteen k ≡ 0
  sixteen_behind k l = let a : r ≤ k = omega arith in rw (le-ltb k r a) (cut_past m bit (k - r) (omega arith))

  -- they make the symbol, shifted up
  pub sixteen_val : val sixteen 16 ≡ q * 2 ^ (16 - m - r)
  sixteen_val =
      let e : 16 ≡ r + (16 - r) = omega arith in
      let none : val sixteen r ≡ 0 = val_none sixteen r sixteen_before in
      let rest : val (λ t. sixteen (r + t)) (16 - r) ≡ val (cut m bit) (16 - r) =
      val_same (λ t. sixteen (r + t)) (cut m bit) (16 - r) (λ t l. let a : r ≤ r + t = omega arith in let d : r + t - r ≡ t = omega arith in rw (le-ltb (r + t) r a, d) refl) in
      let d : 16 - r - m ≡ 16 - m - r = omega arith in
      ap (val sixteen) e ∙ val_split sixteen r (16 - r)
      ∙ ap₂ (λ (x y : ℕ). x * 2 ^ (16 - r) + y) none (rest ∙ val_cut bit m (16 - r) (omega arith) ∙ ap₂ (λ (x y : ℕ). x * 2 ^ y) (val_bits q m small) d)
      ∙ omega arith

  abbrev pub first : ℕ
  first = val sixteen 8

  abbrev pub second : ℕ
  second = val (λ t. sixteen (8 + t)) 8

  second_lt : second < 2 ^ 8
  second_lt = val_lt (λ t. sixteen (8 + t)) (λ t. sixteen_bits (8 + t)) 8

  pub first_lt : first < 2 ^ 8
  first_lt = val_lt sixteen sixteen_bits 8

  whole : q * 2 ^ (16 - m - r) ≡ first * 2 ^ 8 + second
  whole = sym sixteen_val ∙ val_split sixteen 8 8

  -- no bit is lost, and these are its two bytes
  pub shifted : q * 2 ^ (16 - m - r) % 2 ^ 64 ≡ q * 2 ^ (16 - m - r)
  shifted = let w = whole in let a = first_lt in let b = second_lt in mod-eq_of_lt (omega arith)

  pub upper : q * 2 ^ (16 - m - r) % 2 ^ 64 / 2 ^ 8 ≡ first
  upper = ap (λ (v : ℕ). v / 2 ^ 8) (shifted ∙ whole) ∙ high first 8 second_lt

  pub lower : bit_and (q * 2 ^ (16 - m - r) % 2 ^ 64) 255 ≡ second
  lower = and_mask (q * 2 ^ (16 - m - r) % 2 ^ 64) 8 ∙ ap (λ (v : ℕ). v % 2 ^ 8) (shifted ∙ whole) ∙ low first 8 second_lt

  pub first_bit : (k : ℕ) → k < 8 → first / 2 ^ (7 - k) % 2 ≡ sixteen k
  first_bit k l = bit_val sixteen sixteen_bits (7 - k) k 8 (omega arith)

  pub second_bit : (k : ℕ) → k < 8 → second / 2 ^ (7 - k) % 2 ≡ sixteen (8 + k)
  second_bit k l = bit_val (λ t. sixteen (8 + t)) (λ t. sixteen_bits (8 + t)) (7 - k) k 8 (omega arith)

-- ---- both

module _ (t m q : ℕ) (words : List ℕ) (puts : Puts t m q words) where
  abbrev pub y : ℕ
  y = m * t

  within : m + y % 8 ≤ 16
  within = let k = puts.bits_most in omega arith

  -- what the code shifts
  abbrev pub moved : ℕ
  moved = q * 2 ^ (16 - m - y % 8) % 2 ^ 64

  pub moved_small : moved / 2 ^ 8 < 256
  moved_small = let e = upper m q (y % 8) puts.small within in let l = first_lt m q (y % 8) puts.small within in omega arith

  sum : (x : ℕ) → y / 8 ≤ x / 8 → x / 8 ≤ y / 8 + 1
      → bit_at (two words (y / 8) (first m q (y % 8) puts.small within) (second m q (y % 8) puts.small within) puts.room) x
      ≡ bit_xor (bit_at words x) (sixteen m q (y % 8) puts.small within (x - 8 * (y / 8)))
  sum x a b =
      let i : ℕ = y / 8 in
      let s = puts.small in
      ⊎_elim
      (λ (e : x / 8 ≡ i).
      let k : x % 8 ≡ x - 8 * i = omega arith in
      two_first words i (first m q (y % 8) s within) (second m q (y % 8) s within) puts.room x e
      ∙ ap (bit_xor (bit_at words x)) (first_bit m q (y % 8) s within (x % 8) (omega arith) ∙ ap (sixteen m q (y % 8) s within) k))
      (λ (n : x / 8 ≡ i → ⊥).
      let e : x / 8 ≡ i + 1 = omega arith in
      let k : 8 + x % 8 ≡ x - 8 * i = omega arith in
      two_second words i (first m q (y % 8) s within) (second m q (y % 8) s within) puts.room x e
      ∙ ap (bit_xor (bit_at words x)) (second_bit m q (y % 8) s within (x % 8) (omega arith) ∙ ap (sixteen m q (y % 8) s within) k))
      (eq_or_ne (x / 8) i)

  put_made : Put t m q words (two words (y / 8) (first m q (y % 8) puts.small within) (second m q (y % 8) puts.small within) puts.room)
  put_made =
      let i : ℕ = y / 8 in
      let s = puts.small in
      let least = puts.bits_least in
      let most = puts.bits_most in
      let pos : 0 < m = least in
      record {
        long = two_long words i (first m q (y % 8) s within) (second m q (y % 8) s within) puts.room;
        here = λ x e.
            let d : t * m + x % m ≡ x = ap (λ (z : ℕ). z * m + x % m) (sym e) ∙ div-add-mod' x m in
            let c : t * m ≡ y = mul_comm t m in
            let r : x % m < m = mod-lt x pos in
            let k : x - 8 * i ≡ y % 8 + x % m = omega arith in
            sum x (omega arith) (omega arith)
            ∙ ap (bit_xor (bit_at words x)) (ap (sixteen m q (y % 8) s within) k ∙ sixteen_here m q (y % 8) s within (x % m) r);
        others = λ x n.
            let c : t * m ≡ y = mul_comm t m in
            let out : (x < y) ⊎ (y + m ≤ x) = ⊎_elim (λ (l : x < y). inl l)
            (λ (l : y ≤ x). ⊎_elim
            (λ (g : x < y + m).
            let k : x - y < m = omega arith in
            let e : x ≡ t * m + (x - y) = omega arith in
            absurd (n (ap (λ (z : ℕ). z / m) e ∙ digits_div t k)))
            (λ (g : y + m ≤ x). inr g)
            (lt_or_le x (y + m)))
            (lt_or_le x y) in
            let zero : sixteen m q (y % 8) s within (x - 8 * i) ≡ 0 → y / 8 ≤ x / 8 → x / 8 ≤ i + 1 → bit_at (two words i (first m q (y % 8) s within) (second m q (y % 8) s within) puts.room) x ≡ bit_at words x =
            λ z a b. sum x a b ∙ ap (bit_xor (bit_at words x)) z ∙ xor_zero_r (bit_at words x) in
            far x i (λ a b. zero (⊎_elim (λ (l : x < y). sixteen_before m q (y % 8) s within (x - 8 * i) (omega arith)) (λ (l : y + m ≤ x). sixteen_behind m q (y % 8) s within (x - 8 * i) (omega arith)) out) a b)
            (two_other words i (first m q (y % 8) s within) (second m q (y % 8) s within) puts.room x);
      }
    where
      far : {A : Type 0} (x i : ℕ) → (i ≤ x / 8 → x / 8 ≤ i + 1 → A) → ((x / 8 ≡ i → ⊥) → (x / 8 ≡ i + 1 → ⊥) → A) → A
      far x i near other =
          ⊎_elim
          (λ (e : x / 8 ≡ i). near (omega arith) (omega arith))
          (λ (e : x / 8 ≡ i → ⊥). ⊎_elim (λ (f : x / 8 ≡ i + 1). near (omega arith) (omega arith)) (λ (f : x / 8 ≡ i + 1 → ⊥). other e f) (eq_or_ne (x / 8) (i + 1)))
          (eq_or_ne (x / 8) i)

  pub put_moved : Put t m q words (two words (y / 8) (moved / 2 ^ 8) (bit_and moved 255) puts.room)
  put_moved = rw (upper m q (y % 8) puts.small within, lower m q (y % 8) puts.small within) put_made
