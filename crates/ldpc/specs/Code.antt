-- The (128, 64) LDPC code of CCSDS 231.0-B: a codeword is 64 information bits, then 64 parity bits.
--
-- The code is given twice: by the rows of its generator, which make the parity bits, and by its checks. proofs/Laws/Exactly shows that these are one
-- code.
use Rattle.std.specs.Prelude.{Bool, List, [], ◌∷◌, ◌++◌, map, ℕ, ◌+◌, ◌-◌, ◌*◌, ◌/◌, ◌%◌, ltb, eqb, get_or}
use Rattle.bits.specs.Basics.{pick, up_to}
use Rattle.bits.specs.Pack.{bit_of}
use Rattle.bits.specs.Count.{xor_sum}

-- ---- the generator

-- the parity bits of information bits 0, 16, 32 and 48, the first bit highest
unfoldable pub rows : List ℕ
rows = 0x0E69166BEF4C0BC2 ∷ 0x7766137EBB248418 ∷ 0xC480FEB9CD53A713 ∷ 0x4EAA22FA465EEA11 ∷ []

-- parity bit t of information bit i: each row between those four is the one before it, its four pieces of 16 bits turned right by one
unfoldable pub row_bit : ℕ → ℕ → ℕ
row_bit i t = bit_of (get_or rows (i / 16) 0) (t / 16 * 16 + (t % 16 + 16 - i % 16) % 16)

-- parity bit t of the information bits u: the sum of the rows of those that are 1
unfoldable pub parity_bit : (ℕ → ℕ) → ℕ → ℕ
parity_bit u t = xor_sum (λ i. u i * row_bit i t) 64

unfoldable pub codeword : (ℕ → ℕ) → ℕ → ℕ
codeword u j = pick (ltb j 64) (u j) (parity_bit u (j - 64))

-- ---- the checks

-- The check matrix as printed: four rows of eight blocks of 16 × 16, I the identity and P7 the identity shifted right by 7, with its 1 of row r in
-- column r + 7 mod 16. Of each block, the shifts that it adds up.
unfoldable pub matrix : List (List (List ℕ))
matrix =
    ((0 ∷ 7 ∷ []) ∷ (2 ∷ []) ∷ (14 ∷ []) ∷ (6 ∷ []) ∷ [] ∷ (0 ∷ []) ∷ (13 ∷ []) ∷ (0 ∷ []) ∷ [])  -- I+P7  P2  P14  P6  0  P0  P13  I
    ∷ ((6 ∷ []) ∷ (0 ∷ 15 ∷ []) ∷ (0 ∷ []) ∷ (1 ∷ []) ∷ (0 ∷ []) ∷ [] ∷ (0 ∷ []) ∷ (7 ∷ []) ∷ [])  -- P6  I+P15  P0  P1  I  0  P0  P7
    ∷ ((4 ∷ []) ∷ (1 ∷ []) ∷ (0 ∷ 15 ∷ []) ∷ (14 ∷ []) ∷ (11 ∷ []) ∷ (0 ∷ []) ∷ [] ∷ (3 ∷ []) ∷ [])  -- P4  P1  I+P15  P14  P11  I  0  P3
    ∷ ((0 ∷ []) ∷ (1 ∷ []) ∷ (9 ∷ []) ∷ (0 ∷ 13 ∷ []) ∷ (14 ∷ []) ∷ (1 ∷ []) ∷ (0 ∷ []) ∷ [] ∷ [])  -- P0  P1  P9  I+P13  P14  P1  I  0
    ∷ []

-- the columns of the ones in the first line of a row of blocks, from block b on
unfoldable pub columns : ℕ → List (List ℕ) → List ℕ
columns b [] = []
columns b (shifts ∷ rest) = map (λ (s : ℕ). 16 * b + s) shifts ++ columns (b + 1) rest

-- the eight places of the first check of row a of blocks
unfoldable pub first_place : ℕ → ℕ → ℕ
first_place a n = get_or (columns 0 (get_or matrix a [])) n 0

-- place n of check c: each further check of a row of blocks is one column further on in every block
unfoldable pub check_place : ℕ → ℕ → ℕ
check_place c n = first_place (c / 16) n / 16 * 16 + (first_place (c / 16) n + c) % 16

-- the sum of the bits that check c adds
unfoldable pub check_sum : (ℕ → ℕ) → ℕ → ℕ
check_sum x c = xor_sum (λ n. x (check_place c n)) 8

-- x passes each of the 64 checks
unfoldable pub is_codeword : (ℕ → ℕ) → Bool
is_codeword x = eqb (up_to (λ c. eqb (check_sum x c) 0) 0 64) 64
