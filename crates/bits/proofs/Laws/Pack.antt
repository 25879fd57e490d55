-- Numbers and bytes by their bits, there and back, and sums of packed bytes.
use mathlib.Core.Path.{◌≡◌, refl, sym, ap, ap₂, ◌∙◌}
use mathlib.Core.List.{List}
use mathlib.Core.Logic.{⊎_elim}
use Prim.Native.Nat.{ℕ, zero, suc, ◌+◌, ◌-◌, ◌*◌, ◌/◌, ◌%◌, ◌^◌, ◌≤◌, ◌<◌}
use native.Mathlib.Omega.{arith}
use native.Mathlib.Nat.{pow-suc, div-one, div-div-eq-div-mul, mul_comm, zero-div}
use lib.Bits.{bit_xor, xor_lt}
use borrow.Author.Tests.{lt-ltb, le-ltb}
use lib.ListN.{length, get_or, get_or-eq_default}
use Rattle.bits.proofs.Laws.Choice.{lt_or_le}
use Rattle.bits.proofs.Laws.Sum.{xor_digit, sum3}
use Rattle.bits.proofs.Laws.Table.{length_tab, get_or_tab, get_or_tab_past, tab_made, tab_same}
use Rattle.bits.specs.Pack.{val, bit_at, bit_of, bytes_of, cut, Bytes, Bits, plus}

pub val_lt : (f : ℕ → ℕ) → Bits f → (n : ℕ) → val f n < 2 ^ n
unfolding val
val_lt f h zero = omega arith
val_lt f h (suc n) = rw pow-suc (let a = val_lt f h n in let b = h n in omega arith)

pub val_same : (f g : ℕ → ℕ) (n : ℕ) → ((i : ℕ) → i < n → f i ≡ g i) → val f n ≡ val g n
unfolding val
val_same f g zero h = refl
val_same f g (suc n) h = ap₂ (λ (a b : ℕ). a * 2 + b) (val_same f g n (λ i l. h i (omega arith))) (h n (omega arith))

-- a bit of the number: bit i of n stands d places above the lowest
pub bit_val : (f : ℕ → ℕ) → Bits f → (d i n : ℕ) → n ≡ d + suc i → val f n / 2 ^ d % 2 ≡ f i
unfolding val
bit_val f h zero i n e =
    let q : n ≡ suc i = omega arith in
    let b : f i < 2 = h i in
    rw (q, div-one) (omega arith)
bit_val f h (suc d) i n e =
    let m : ℕ = d + suc i in
    let q : n ≡ suc m = omega arith in
    let b : f m < 2 = h m in
    let halved : (val f m * 2 + f m) / 2 ≡ val f m = omega arith in
    rw (q, pow-suc 2 d, mul_comm (2 ^ d) 2, ← div-div-eq-div-mul (val f m * 2 + f m) 2 (2 ^ d), halved) (bit_val f h d i m refl)

-- all of them make the number again
pub val_bits : (v n : ℕ) → v < 2 ^ n → val (λ i. v / 2 ^ (n - 1 - i) % 2) n ≡ v
unfolding val
val_bits v zero h = omega arith
val_bits v (suc n) h =
    let small : v < 2 ^ n * 2 = rw pow-suc at h in
    let upper : val (λ i. v / 2 ^ (suc n - 1 - i) % 2) n ≡ v / 2 =
    val_same (λ i. v / 2 ^ (suc n - 1 - i) % 2) (λ i. v / 2 / 2 ^ (n - 1 - i) % 2) n (λ i l.
    let e : suc n - 1 - i ≡ suc (n - 1 - i) = omega arith in
    rw (e, pow-suc 2 (n - 1 - i), mul_comm (2 ^ (n - 1 - i)) 2) (ap (λ (x : ℕ). x % 2) (sym (div-div-eq-div-mul v 2 (2 ^ (n - 1 - i))))))
    ∙ val_bits (v / 2) n (omega arith) in
    let lowest : suc n - 1 - n ≡ 0 = omega arith in
    rw (upper, lowest, div-one) (omega arith)

pub bit_of_lt : (v : ℕ) → Bits (bit_of v)
bit_of_lt v j = omega arith

pub bit_lt : (xs : List ℕ) → Bits (bit_at xs)
unfolding bit_at
bit_lt xs j = omega arith

pub length_bytes : (n : ℕ) (f : ℕ → ℕ) → length (bytes_of n f) ≡ n
unfolding bytes_of
length_bytes n f = length_tab n (λ i. val (λ t. f (8 * i + t)) 8)

-- bits make bytes
pub bytes_are : (n : ℕ) (f : ℕ → ℕ) → Bits f → Bytes (bytes_of n f)
unfolding bytes_of
bytes_are n f h i =
    ⊎_elim
    (λ (l : i < n). rw (get_or_tab n (λ i. val (λ t. f (8 * i + t)) 8) i l) (val_lt (λ t. f (8 * i + t)) (λ t. h (8 * i + t)) 8))
    (λ (l : n ≤ i). rw (get_or_tab_past n (λ i. val (λ t. f (8 * i + t)) 8) i l) (omega arith))
    (lt_or_le i n)

-- the bits of the bytes
pub bit_bytes : (n : ℕ) (f : ℕ → ℕ) → Bits f → (j : ℕ) → j < 8 * n → bit_at (bytes_of n f) j ≡ f j
unfolding bytes_of bit_at
bit_bytes n f h j l =
    ap (λ (m : ℕ). m / 2 ^ (7 - j % 8) % 2) (get_or_tab n (λ i. val (λ t. f (8 * i + t)) 8) (j / 8) (omega arith))
    ∙ bit_val (λ t. f (8 * (j / 8) + t)) (λ t. h (8 * (j / 8) + t)) (7 - j % 8) (j % 8) 8 (omega arith)
    ∙ ap f (omega arith)

pub bit_bytes_past : (n : ℕ) (f : ℕ → ℕ) (j : ℕ) → 8 * n ≤ j → bit_at (bytes_of n f) j ≡ 0
unfolding bytes_of bit_at
bit_bytes_past n f j l =
    rw (get_or_tab_past n (λ i. val (λ t. f (8 * i + t)) 8) (j / 8) (omega arith), zero-div (2 ^ (7 - j % 8))) refl

-- and back: the bytes with these bits are those
pub bytes_made : (n : ℕ) (f : ℕ → ℕ) (xs : List ℕ) → length xs ≡ n → Bytes xs → ((j : ℕ) → j < 8 * n → bit_at xs j ≡ f j) → xs ≡ bytes_of n f
unfolding bytes_of bit_at
bytes_made n f xs e b h =
    tab_made n (λ i. val (λ t. f (8 * i + t)) 8) xs e (λ i l.
    sym (val_bits (get_or xs i 0) 8 (b i))
    ∙ val_same (λ t. get_or xs i 0 / 2 ^ (8 - 1 - t) % 2) (λ t. f (8 * i + t)) 8 (λ t k.
    ap₂ (λ (x y : ℕ). get_or xs x 0 / 2 ^ y % 2) (omega arith) (omega arith) ∙ h (8 * i + t) (omega arith)))

-- two bit functions that agree make the same bytes
pub bytes_same : (n : ℕ) (f g : ℕ → ℕ) → ((j : ℕ) → j < 8 * n → f j ≡ g j) → bytes_of n f ≡ bytes_of n g
unfolding bytes_of
bytes_same n f g h =
    tab_same n (λ i. val (λ t. f (8 * i + t)) 8) (λ i. val (λ t. g (8 * i + t)) 8) (λ i l.
    val_same (λ t. f (8 * i + t)) (λ t. g (8 * i + t)) 8 (λ t k. h (8 * i + t) (omega arith)))

-- byte i alone, for a loop that makes byte after byte
pub byte_at : (n : ℕ) (f : ℕ → ℕ) (i : ℕ) → i < n → get_or (bytes_of n f) i 0 ≡ val (λ t. f (8 * i + t)) 8
unfolding bytes_of
byte_at n f i l = get_or_tab n (λ i. val (λ t. f (8 * i + t)) 8) i l

pub bytes_by_byte : (n : ℕ) (f : ℕ → ℕ) (xs : List ℕ) → length xs ≡ n → ((i : ℕ) → i < n → get_or xs i 0 ≡ val (λ t. f (8 * i + t)) 8) → xs ≡ bytes_of n f
unfolding bytes_of
bytes_by_byte n f xs e h = tab_made n (λ i. val (λ t. f (8 * i + t)) 8) xs e h

pub length_plus : (xs ys : List ℕ) → length (plus xs ys) ≡ length xs
unfolding plus
length_plus xs ys = length_tab (length xs) (λ i. bit_xor (get_or xs i 0) (get_or ys i 0))

pub get_or_plus : (xs ys : List ℕ) (i : ℕ) → length ys ≡ length xs → get_or (plus xs ys) i 0 ≡ bit_xor (get_or xs i 0) (get_or ys i 0)
unfolding plus
get_or_plus xs ys i e =
    ⊎_elim
    (λ (l : i < length xs). get_or_tab (length xs) (λ i. bit_xor (get_or xs i 0) (get_or ys i 0)) i l)
    (λ (l : length xs ≤ i).
    let k : length ys ≤ i = omega arith in
    get_or_tab_past (length xs) (λ i. bit_xor (get_or xs i 0) (get_or ys i 0)) i l
    ∙ sym (rw (get_or-eq_default xs 0 l, get_or-eq_default ys 0 k) refl))
    (lt_or_le i (length xs))

pub bytes_plus : (xs ys : List ℕ) → length ys ≡ length xs → Bytes xs → Bytes ys → Bytes (plus xs ys)
bytes_plus xs ys e hx hy i = rw (get_or_plus xs ys i e) (xor_lt 8 (get_or xs i 0) (get_or ys i 0) (hx i) (hy i))

-- its bits are the sums of the bits
pub bit_plus : (xs ys : List ℕ) → length ys ≡ length xs → (j : ℕ) → bit_at (plus xs ys) j ≡ bit_xor (bit_at xs j) (bit_at ys j)
unfolding bit_at
bit_plus xs ys e j =
    ap (λ (v : ℕ). v / 2 ^ (7 - j % 8) % 2) (get_or_plus xs ys (j / 8) e)
    ∙ xor_digit (get_or xs (j / 8) 0) (get_or ys (j / 8) 0) (7 - j % 8)

-- ---- cut
pub cut_in : (m : ℕ) (x : ℕ → ℕ) (i : ℕ) → i < m → cut m x i ≡ x i
unfolding cut
cut_in m x i h = rw (lt-ltb i m h) refl

pub cut_past : (m : ℕ) (x : ℕ → ℕ) (i : ℕ) → m ≤ i → cut m x i ≡ 0
unfolding cut
cut_past m x i h = rw (le-ltb i m h) refl

pub cut_bits : (m : ℕ) (x : ℕ → ℕ) → Bits x → Bits (cut m x)
cut_bits m x h i =
    ⊎_elim
    (λ (l : i < m). rw (cut_in m x i l) (h i))
    (λ (l : m ≤ i). rw (cut_past m x i l) (omega arith))
    (lt_or_le i m)

pub cut_same : (m : ℕ) (x y : ℕ → ℕ) → ((i : ℕ) → i < m → x i ≡ y i) → (i : ℕ) → cut m x i ≡ cut m y i
cut_same m x y h i =
    ⊎_elim
    (λ (l : i < m). cut_in m x i l ∙ h i l ∙ sym (cut_in m y i l))
    (λ (l : m ≤ i). cut_past m x i l ∙ sym (cut_past m y i l))
    (lt_or_le i m)

pub cut_sum3 : (m : ℕ) (x y z : ℕ → ℕ) (i : ℕ) → cut m (λ i. sum3 (x i) (y i) (z i)) i ≡ sum3 (cut m x i) (cut m y i) (cut m z i)
cut_sum3 m x y z i =
    ⊎_elim
    (λ (l : i < m). cut_in m (λ i. sum3 (x i) (y i) (z i)) i l ∙ sym (rw (cut_in m x i l, cut_in m y i l, cut_in m z i l) refl))
    (λ (l : m ≤ i). cut_past m (λ i. sum3 (x i) (y i) (z i)) i l ∙ sym (rw (cut_past m x i l, cut_past m y i l, cut_past m z i l) refl))
    (lt_or_le i m)
