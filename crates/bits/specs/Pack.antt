-- Packing, most significant bit first: numbers and bytes by their bits, and what is found or changed among them.
use Rattle.std.specs.Prelude.{List, ℕ, zero, suc, ◌+◌, ◌-◌, ◌*◌, ◌/◌, ◌%◌, ◌^◌, ◌<◌, ltb, eqb, length, get_or, take, drop, set, Bool}
use Rattle.std.specs.Int.Bits.{bit_xor}
use Rattle.bits.specs.Basics.{pick, tab, up_to}

-- Packing, most significant bit first: numbers and bytes by their bits.

-- the number whose n bits are f 0, f 1, .. f (n - 1), the first highest
unfoldable pub val : (ℕ → ℕ) → ℕ → ℕ
val f zero = 0
val f (suc n) = val f n * 2 + f n

-- bit j of a list of bytes; 0 past its end
unfoldable pub bit_at : List ℕ → ℕ → ℕ
bit_at xs j = get_or xs (j / 8) 0 / 2 ^ (7 - j % 8) % 2

-- bit j of a number of 64 bits
abbrev pub bit_of : ℕ → ℕ → ℕ
bit_of v j = v / 2 ^ (63 - j) % 2

-- the n bytes whose bits are f 0, f 1, ..
unfoldable pub bytes_of : ℕ → (ℕ → ℕ) → List ℕ
bytes_of n f = tab n (λ i. val (λ t. f (8 * i + t)) 8)

-- the first m bits of x, followed by zeros
unfoldable pub cut : ℕ → (ℕ → ℕ) → ℕ → ℕ
cut m x i = pick (ltb i m) (x i) 0

-- every element is a byte, as in every slice
abbrev pub Bytes : List ℕ → Type 0
Bytes xs = (i : ℕ) → get_or xs i 0 < 256

-- every value is a bit
abbrev pub Bits : (ℕ → ℕ) → Type 0
Bits f = (i : ℕ) → f i < 2

-- the place-by-place sum of two lists of bytes
unfoldable pub plus : List ℕ → List ℕ → List ℕ
plus xs ys = tab (length xs) (λ i. bit_xor (get_or xs i 0) (get_or ys i 0))

-- Pieces of one size, back to back: words in a buffer of words, blocks in a buffer of blocks, frames in a slice.

-- piece j, of n elements
abbrev pub piece : ℕ → List ℕ → ℕ → List ℕ
piece n xs j = take n (drop (j * n) xs)

-- Packed bytes changed in place: a bit flipped, bytes copied, spare bits cleared.

-- ---- a flipped bit

-- the bytes with bit x flipped
unfoldable pub flip_bit : List ℕ → ℕ → List ℕ
flip_bit xs x = set xs (x / 8) (bit_xor (get_or xs (x / 8) 0) (128 / 2 ^ (x % 8)))

-- The first one among packed bits, found by windows: the bits of eight bytes, or of a single byte near the end, as one number.

-- bit x is not a one; and the first one from x on, or the end
abbrev pub clear_at : List ℕ → ℕ → Bool
clear_at b x = eqb (bit_at b x) 0

unfoldable pub first_set : List ℕ → ℕ → ℕ → ℕ
first_set b x end = up_to (clear_at b) x end
