-- Text in ASCII: numbers in decimal, and what is written into the slice.
use Rattle.std.specs.Prelude.{List, [], ◌∷◌, ◌++◌, ℕ, zero, suc, ◌+◌, ◌/◌, ◌%◌, ltb}
use Rattle.bits.specs.Basics.{pick}

-- the digit d
abbrev pub digit : ℕ → ℕ
digit d = 48 + d

-- n, below 10 ^ k, in decimal without leading zeros
unfoldable pub decimal_in : ℕ → ℕ → List ℕ
decimal_in zero n = []
decimal_in (suc k) n = pick (ltb n 10) (digit n ∷ []) (decimal_in k (n / 10) ++ (digit (n % 10) ∷ []))

-- a number of 64 bits has at most 20 digits
unfoldable pub decimal : ℕ → List ℕ
decimal n = decimal_in 20 n

abbrev pub space : ℕ
space = 32

abbrev pub newline : ℕ
newline = 10

-- a space and a number
unfoldable pub item : ℕ → List ℕ
item n = space ∷ decimal n

-- each of them, and the end of the line
unfoldable pub items : List ℕ → List ℕ
items [] = newline ∷ []
items (n ∷ ns) = item n ++ items ns
