-- A number's bits in parts: what shifts and masks cut out, and what they put together.
use mathlib.Core.Path.{◌≡◌, refl, sym, ap, ap₂, ◌∙◌}
use mathlib.Core.List.{List}
use Prim.Native.Nat.{ℕ, zero, suc, ◌+◌, ◌-◌, ◌*◌, ◌/◌, ◌%◌, ◌^◌, ◌≤◌, ◌<◌}
use native.Mathlib.Omega.{arith}
use native.Mathlib.Nat.{pow-suc, add-mul, mul-add, mul_assoc, zero-div}
use lib.Bits.{bit_xor, bit_and, bit_or, xor_block, and_mask, or_shifted}
use lib.Pow.{high, low, pow-add, shl_lt, shl_exact}
use lib.ListN.{get_or}
use Rattle.bits.specs.Pack.{val, bit_at, Bits, cut}
use Rattle.bits.proofs.Laws.Pack.{val_lt, val_same, val_bits, bit_val, cut_in, cut_past}

-- the first a bits, and the n after them
pub val_split : (f : ℕ → ℕ) (a n : ℕ) → val f (a + n) ≡ val f a * 2 ^ n + val (λ t. f (a + t)) n
unfolding val
val_split f a zero = let e : a + 0 ≡ a = omega arith in rw e (omega arith)
val_split f a (suc n) =
    let e : a + suc n ≡ suc (a + n) = omega arith in
    rw (e, pow-suc) (let r = val_split f a n in omega arith)

-- shifted down by the d bits after them and masked, the n bits from `at` on are left
pub val_part : (f : ℕ → ℕ) → Bits f → (at n d : ℕ) → val f (at + n + d) / 2 ^ d % 2 ^ n ≡ val (λ t. f (at + t)) n
val_part f b at n d =
    rw (val_split f (at + n) d, high (val f (at + n)) d (val_lt (λ t. f (at + n + t)) (λ t. b (at + n + t)) d), val_split f at n)
    (low (val f at) n (val_lt (λ t. f (at + t)) (λ t. b (at + t)) n))

-- `(h >> d) & (2 ^ n - 1)` of the number of all the bits
pub cut_part : (f : ℕ → ℕ) → Bits f → (at n d : ℕ) → bit_and (val f (at + n + d) / 2 ^ d) (2 ^ n - 1) ≡ val (λ t. f (at + t)) n
cut_part f b at n d = and_mask (val f (at + n + d) / 2 ^ d) n ∙ val_part f b at n d

-- `(v << n) | w` on 64 bits
pub join : (v w m n : ℕ) → v < 2 ^ m → w < 2 ^ n → m + n ≤ 64 → bit_or (v * 2 ^ n % 2 ^ 64) w ≡ v * 2 ^ n + w
join v w m n hv hw h = ap (λ (x : ℕ). bit_or x w) (shl_exact m n 64 hv h) ∙ or_shifted v n w hw

-- a byte is the number of its bits
pub byte_val : (xs : List ℕ) (i : ℕ) → get_or xs i 0 < 256 → val (λ t. bit_at xs (8 * i + t)) 8 ≡ get_or xs i 0
unfolding bit_at
byte_val xs i b =
    val_same (λ t. bit_at xs (8 * i + t)) (λ t. get_or xs i 0 / 2 ^ (8 - 1 - t) % 2) 8 (λ t l.
    ap₂ (λ (x y : ℕ). get_or xs x 0 / 2 ^ y % 2) (omega arith) (omega arith))
    ∙ val_bits (get_or xs i 0) 8 b

-- n bits more: `(v << n) | w`
pub push_some : (f : ℕ → ℕ) → Bits f → (m n : ℕ) → m + n ≤ 64 → bit_or (val f m * 2 ^ n % 2 ^ 64) (val (λ t. f (m + t)) n) ≡ val f (m + n)
push_some f b m n l =
    join (val f m) (val (λ t. f (m + t)) n) m n (val_lt f b m) (val_lt (λ t. f (m + t)) (λ t. b (m + t)) n) l ∙ sym (val_split f m n)

-- eight
pub push_eight : (f : ℕ → ℕ) → Bits f → (i : ℕ) → i < 8 → bit_or (val f (8 * i) * 2 ^ 8 % 2 ^ 64) (val (λ t. f (8 * i + t)) 8) ≡ val f (8 * (i + 1))
push_eight f b i l = let e : 8 * i + 8 ≡ 8 * (i + 1) = omega arith in push_some f b (8 * i) 8 (omega arith) ∙ ap (val f) e

-- equal numbers have equal bits
pub same_val : (f g : ℕ → ℕ) → Bits f → Bits g → (n : ℕ) → val f n ≡ val g n → (i : ℕ) → i < n → f i ≡ g i
same_val f g hf hg n e i l =
    sym (bit_val f hf (n - 1 - i) i n (omega arith)) ∙ ap (λ (v : ℕ). v / 2 ^ (n - 1 - i) % 2) e ∙ bit_val g hg (n - 1 - i) i n (omega arith)

-- ---- sums and products

-- the number of the sums of the bits is the sum of the numbers
pub val_plus : (f g : ℕ → ℕ) → Bits f → Bits g → (n : ℕ) → val (λ t. bit_xor (f t) (g t)) n ≡ bit_xor (val f n) (val g n)
unfolding val
val_plus f g hf hg zero = refl
val_plus f g hf hg (suc n) =
    ap (λ (v : ℕ). v * 2 + bit_xor (f n) (g n)) (val_plus f g hf hg n)
    ∙ sym (xor_block 1 (val f n) (val g n) (f n) (g n) (hf n) (hg n))

-- and the number of the bits times b is b times the number
pub val_times : (b : ℕ) (f : ℕ → ℕ) (n : ℕ) → val (λ t. b * f t) n ≡ b * val f n
unfolding val
val_times b f zero = omega arith
val_times b f (suc n) = let e = val_times b f n in omega (arith, mul-add b (val f n * 2) (f n), mul_assoc b (val f n) 2)

-- ---- zeros after

pub val_none : (f : ℕ → ℕ) (n : ℕ) → ((i : ℕ) → i < n → f i ≡ 0) → val f n ≡ 0
unfolding val
val_none f zero h = refl
val_none f (suc n) h = let a = val_none f n (λ i l. h i (omega arith)) in let b = h n (omega arith) in omega arith

-- and back: the bits of 0 are zero
pub none_val : (f : ℕ → ℕ) → Bits f → (n : ℕ) → val f n ≡ 0 → (i : ℕ) → i < n → f i ≡ 0
none_val f b n e i l =
    sym (bit_val f b (n - 1 - i) i n (omega arith)) ∙ ap (λ (v : ℕ). v / 2 ^ (n - 1 - i) % 2) e ∙ ap (λ (v : ℕ). v % 2) (zero-div (2 ^ (n - 1 - i)))

-- a number with zeros after it is shifted up
pub val_cut : (f : ℕ → ℕ) (m n : ℕ) → m ≤ n → val (cut m f) n ≡ val f m * 2 ^ (n - m)
val_cut f m n h =
    let e : n ≡ m + (n - m) = omega arith in
    let none : val (λ t. cut m f (m + t)) (n - m) ≡ 0 = val_none (λ t. cut m f (m + t)) (n - m) (λ t l. cut_past m f (m + t) (omega arith)) in
    let same : val (cut m f) m ≡ val f m = val_same (cut m f) f m (λ i l. cut_in m f i l) in
    ap (val (cut m f)) e ∙ val_split (cut m f) m (n - m) ∙ ap₂ (λ (x y : ℕ). x * 2 ^ (n - m) + y) same none ∙ omega arith

-- `v << r` on n bits: the first r bits are gone, and zeros come after the others
pub val_shift : (f : ℕ → ℕ) → Bits f → (r n : ℕ) → r ≤ n → val f n * 2 ^ r % 2 ^ n ≡ val (cut (n - r) (λ t. f (r + t))) n
val_shift f b r n h =
    let rest : ℕ = val (λ t. f (r + t)) (n - r) in
    let e : n ≡ r + (n - r) = omega arith in
    let d : n - (n - r) ≡ r = omega arith in
    let small : rest < 2 ^ (n - r) = val_lt (λ t. f (r + t)) (λ t. b (r + t)) (n - r) in
    let parts : val f n * 2 ^ r ≡ val f r * 2 ^ n + rest * 2 ^ r =
    ap (λ (v : ℕ). v * 2 ^ r) (ap (val f) e ∙ val_split f r (n - r)) ∙ add-mul (val f r * 2 ^ (n - r)) rest (2 ^ r)
    ∙ ap (λ (v : ℕ). v + rest * 2 ^ r) (mul_assoc (val f r) (2 ^ (n - r)) (2 ^ r) ∙ ap (λ (v : ℕ). val f r * v) (sym (pow-add 2 (n - r) r) ∙ ap (λ (k : ℕ). 2 ^ k) (omega arith))) in
    let fits : rest * 2 ^ r < 2 ^ n = let l = shl_lt (n - r) r small in rw (let q : n - r + r ≡ n = omega arith in q) at l in
    ap (λ (v : ℕ). v % 2 ^ n) parts
    ∙ low (val f r) n fits
    ∙ sym (val_cut (λ t. f (r + t)) (n - r) n (omega arith) ∙ ap (λ (k : ℕ). rest * 2 ^ k) d)
