-- Steps 8 and 9, the markers of step 10, and the way back with questions 11 and 12, over a run's layout g (`Layout`, src/lib.rt), which has N, B, S, C, W and R; m, the bits of a symbol, is a number of its own (`bits`).
-- The words are a function: word j is a list of 1,890 bytes.
use Rattle.std.specs.Prelude.{Bool, true, not, List, ℕ, ◌+◌, ◌-◌, ◌*◌, ◌/◌, ◌%◌, ◌^◌, ltb, eqb, get_or}
use Rattle.bits.specs.Basics.{pick, up_to}
use Rattle.bits.specs.Pack.{val, bit_at, bytes_of}
use Rattle.sizes.specs.Sizes.{word_bytes}
use Rattle.channel.specs.declared.Layout.{Layout}

-- the symbols of all words, C-as-S
abbrev pub total : Layout → ℕ
total g = g.words * g.symbols

-- the symbols of a line with its markers, S + W, and of all R lines
abbrev pub unit : Layout → ℕ
unit g = g.symbols + g.markers

abbrev pub layout_symbols : Layout → ℕ
layout_symbols g = g.lines * unit g

-- Step 8: symbol t of all words, m bits each, the first bit highest
unfoldable pub data_at : ℕ → Layout → (ℕ → List ℕ) → ℕ → ℕ
data_at bits g word t = val (λ i. bit_at (word (t / g.symbols)) (bits * (t % g.symbols) + i)) bits

-- Step 9, the channel interleaver: the place to which symbol t goes
unfoldable pub place : Layout → ℕ → ℕ
place g t = t + (t % g.rows) * (g.step * g.rows)

-- the symbol that goes to place x; C-as-S where none does
unfoldable pub hit_by : Layout → ℕ → ℕ
hit_by g x = up_to (λ t. not (eqb (place g t) x)) 0 (total g)

-- what is at place x: that symbol, or 0 where none goes
unfoldable pub placed : Layout → (ℕ → ℕ) → ℕ → ℕ
placed g symbol x = pick (ltb (hit_by g x) (total g)) (symbol (hit_by g x)) 0

-- Step 10: W marker symbols come before every S places. The place of symbol s, markers counted; and the symbol at place x
unfoldable pub place_at : Layout → ℕ → ℕ
place_at g s = s / unit g * g.symbols + (s % unit g - g.markers)

unfoldable pub symbol_of : Layout → ℕ → ℕ
symbol_of g x = x / g.symbols * unit g + (g.markers + x % g.symbols)

-- symbol s: a marker symbol, or what is at its place
unfoldable pub with_markers : Layout → List ℕ → (ℕ → ℕ) → ℕ → ℕ
with_markers g marks standing s = pick (ltb (s % unit g) g.markers) (get_or marks (s % unit g) 0) (standing (place_at g s))

-- Question 11: is symbol s, if it is a marker symbol, the right one? `read` are the symbols that were read
unfoldable pub mark_right : Layout → List ℕ → (ℕ → ℕ) → ℕ → Bool
mark_right g marks read s = pick (ltb (s % unit g) g.markers) (eqb (get_or marks (s % unit g) 0) (read s)) true

-- Question 12: is symbol s 0, if it is at a place that is not hit?
unfoldable pub rest_zero : Layout → (ℕ → ℕ) → ℕ → Bool
rest_zero g read s = pick (ltb (s % unit g) g.markers) true (pick (ltb (hit_by g (place_at g s)) (total g)) true (eqb 0 (read s)))

-- and back: bit y of word j is bit y mod m of the symbol that holds it
unfoldable pub word_bit : ℕ → Layout → (ℕ → ℕ) → ℕ → ℕ → ℕ
word_bit bits g symbol j y = symbol (j * g.symbols + y / bits) / 2 ^ (bits - 1 - y % bits) % 2

unfoldable pub word_from : ℕ → Layout → (ℕ → ℕ) → ℕ → List ℕ
word_from bits g symbol j = bytes_of word_bytes (word_bit bits g symbol j)
