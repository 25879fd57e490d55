-- Fades over a run: which of its symbols they cover, and how many symbols of each word. A fade is two numbers, its first symbol and its length. Symbols are counted with markers and without copies.
use Rattle.std.specs.Prelude.{Bool, true, false, not, ◌||◌, List, [], ◌∷◌, ℕ, ◌+◌, ◌*◌, ◌/◌, ◌%◌, ltb, leb, eqb, length, get_or}
use Rattle.bits.specs.Basics.{bool, tab, both}
use Rattle.bits.specs.Count.{weight}
use Rattle.answers.specs.Answer.{Answer, after, ask, then}
use Rattle.header.specs.Header.{fields_of}
use Rattle.header_sizes.specs.Quantities.{block_count, symbol_count, layout_of}
use Rattle.header_questions.specs.Questions.{header_says}
use Rattle.channel.specs.Channel as channel
use Rattle.channel.specs.Channel.{total, unit, hit_by, place_at}
use Rattle.channel.specs.declared.Layout.{Layout}

-- ---- a list of fades

-- symbol s is in one of the fades
unfoldable pub covered : List ℕ → ℕ → Bool
covered [] s = false
covered (first ∷ []) s = false
covered (first ∷ size ∷ rest) s = both (leb first s) (ltb s (first + size)) || covered rest s

-- each fade has at least one symbol, begins no sooner than `end`, where the one before it has ended, and ends within the n symbols of the run; no
-- half of a pair is left over
unfoldable pub fades_good : ℕ → ℕ → List ℕ → Bool
fades_good n end [] = true
fades_good n end (first ∷ []) = false
fades_good n end (first ∷ size ∷ rest) = both (leb 1 size) (both (leb end first) (both (leb (first + size) n) (fades_good n (first + size) rest)))

-- 22: does the list keep these rules?
abbrev pub list_good : ℕ → List ℕ → Bool
list_good n fades = fades_good n 0 fades

-- ---- the symbols of a run

-- symbol s is a marker symbol (step 10)
unfoldable pub is_marker : Layout → ℕ → Bool
is_marker g s = ltb (s % unit g) g.markers

-- the symbol of step 8 that goes to its place; C-as-S where none does, and then it is a filler (step 9)
unfoldable pub source_of : Layout → ℕ → ℕ
source_of g s = hit_by g (place_at g s)

unfoldable pub is_filler : Layout → ℕ → Bool
is_filler g s = leb (total g) (source_of g s)

-- every other symbol belongs to a word, symbol t of step 8 to word t div S
unfoldable pub carries : Layout → ℕ → Bool
carries g s = both (not (is_marker g s)) (not (is_filler g s))

unfoldable pub of_word : Layout → ℕ → ℕ → Bool
of_word g j s = both (carries g s) (eqb (source_of g s / g.symbols) j)

-- ---- the counts

-- symbol s is covered and one of word j's, and how many such symbols the run has
abbrev pub is_hit : Layout → List ℕ → ℕ → ℕ → Bool
is_hit g fades j s = both (covered fades s) (of_word g j s)

unfoldable pub hits : Layout → List ℕ → ℕ → ℕ
hits g fades j = weight (λ s. bool (is_hit g fades j s)) (channel.layout_symbols g)

unfoldable pub counts_of : Layout → List ℕ → List ℕ
counts_of g fades = tab g.words (hits g fades)

-- ---- the call

-- the questions: those of the header alone, 1 to 7 and 20; 8, is there a number for the count of each word? And 22
unfoldable pub fades_say : List ℕ → List ℕ → ℕ → Answer
fades_say header fades counts_length =
    then (header_says header)
    (then (ask (eqb counts_length (block_count (fields_of header))) 8 0)
    (ask (list_good (symbol_count (fields_of header)) fades) 22 0))

abbrev pub counts_in : List ℕ → List ℕ → List ℕ
counts_in header fades = counts_of (layout_of (fields_of header)) fades

-- what the slice lent for the result holds afterwards: the result on acceptance, otherwise what it held
abbrev pub counts_after : List ℕ → List ℕ → List ℕ → List ℕ
counts_after header fades old = after (fades_say header fades (length old)) (counts_in header fades) old

-- Laws of a list of fades: what its rules say of each fade, and which symbols it covers.

-- ---- by index: fade i of a list

abbrev pub first_of : List ℕ → ℕ → ℕ
first_of fades i = get_or fades (2 * i) 0

abbrev pub end_of : List ℕ → ℕ → ℕ
end_of fades i = get_or fades (2 * i) 0 + get_or fades (2 * i + 1) 0
