-- Card 8. "Before a campaign we try N and B. Given a header and a list of fades (first symbol and length, markers counted, ascending, not overlapping,
-- each of at least one symbol and inside the run), walk the run symbol by symbol and count for each word how many of its symbols are hit. The list is
-- lent as pairs of 32-bit numbers, and half a pair left over breaks it; the counts go into C lent 32-bit numbers, and an empty list gives zeros. The
-- counts must sum to the covered symbols that are neither marker nor filler. Prove too that any two different places of step 9 that come from symbols, in
-- a stretch of at most N places with markers left out, come from symbols at least B-as-N − 1 apart. The reckoning counts unrepeated symbols and disregards
-- the factor. Turned away: 22 for a list that breaks these rules, put after 8."
--
-- The contract of `mahyrei_fades_count` is an equation with `fades_say` and `counts_after`. Of the fields f of a header, N is `f.rows`, B `f.step`, W `f.markers`,
-- S `symbolsPerWord f`, C `blockCount f`, and R `lineCount f`; `layoutOf f` has these six, and steps 8 to 10 go by it (channel/specs/Channel.antt). The run has
-- `symbolCount f` symbols, markers counted and copies not. `weight h n` is h 0 + .. + h (n - 1).
use Rattle.std.specs.Prelude.{◌≡◌, true, false, not, List, [], ◌∷◌, ◌⊎◌, ℕ, ◌+◌, ◌-◌, ◌*◌, ◌/◌, ◌%◌, ◌≤◌, ◌<◌, ltb, leb, eqb, length, get_or}
use Rattle.bits.specs.Basics.{bool, tab, both, up_to}
use Rattle.bits.specs.Count.{weight}
use Rattle.answers.specs.Answer.{Done, No, ask, then}
use Rattle.header.specs.Header.{fields_of, with_copies}
use Rattle.header.specs.declared.Fields.{Fields}
use Rattle.header_sizes.specs.Quantities.{symbols_per_word, block_count, line_count, symbol_count, layout_of}
use Rattle.header_questions.specs.Questions.{header_says}
use Rattle.channel.specs.declared.Layout.{Layout}
use Rattle.channel.specs.Channel.{place, hit_by, place_at, symbol_of}
use Rattle.fades.specs.Fades.{covered, list_good, is_marker, is_filler, of_word, fades_say, first_of, end_of, counts_after}

-- ---- the questions: "22 .., put after 8"

abbrev pub FadesAsks : Type 0
FadesAsks =
    (header fades : List ℕ) (n : ℕ)
    → fades_say header fades n
    ≡ then (header_says header)
    (then (ask (eqb n (block_count (fields_of header))) 8 0)
    (ask (list_good (symbol_count (fields_of header)) fades) 22 0))

-- ---- the list

-- "First symbol and length, .. ascending, not overlapping, each of at least one symbol and inside the run", "half a pair left over breaks it": fade i is the
-- pair of numbers 2i and 2i + 1, and reaches from its first symbol up to its end, which is not part of it
abbrev pub FadeFirst : Type 0
FadeFirst = (fades : List ℕ) (i : ℕ) → first_of fades i ≡ get_or fades (2 * i) 0

abbrev pub FadeEnd : Type 0
FadeEnd = (fades : List ℕ) (i : ℕ) → end_of fades i ≡ get_or fades (2 * i) 0 + get_or fades (2 * i + 1) 0

abbrev pub ListRules : Type 0
ListRules =
    (n : ℕ) (fades : List ℕ) → list_good n fades ≡ true
    → (length fades % 2 ≡ 0)
    × ((i : ℕ) → 2 * i < length fades → (1 ≤ get_or fades (2 * i + 1) 0) × (end_of fades i ≤ n))
    × ((i : ℕ) → 2 * i + 2 < length fades → end_of fades i ≤ first_of fades (i + 1))

-- and every list that keeps these rules is right
abbrev pub RulesList : Type 0
RulesList =
    (n : ℕ) (fades : List ℕ)
    → length fades % 2 ≡ 0
    → ((i : ℕ) → 2 * i < length fades → (1 ≤ get_or fades (2 * i + 1) 0) × (end_of fades i ≤ n))
    → ((i : ℕ) → 2 * i + 2 < length fades → end_of fades i ≤ first_of fades (i + 1))
    → list_good n fades ≡ true

-- a symbol is covered where a fade has it, and only there
abbrev pub CoveredBy : Type 0
CoveredBy = (fades : List ℕ) (s i : ℕ) → 2 * i + 1 < length fades → first_of fades i ≤ s → s < end_of fades i → covered fades s ≡ true

abbrev pub Uncovered : Type 0
Uncovered = (fades : List ℕ) (s : ℕ) → ((i : ℕ) → 2 * i + 1 < length fades → (s < first_of fades i) ⊎ (end_of fades i ≤ s)) → covered fades s ≡ false

-- ---- the run: marker symbols, fillers, and the symbols of the words

-- N, B, S, C, W and R
abbrev pub LayoutIs : Type 0
LayoutIs =
    (f : Fields)
    → layout_of f ≡ record { rows = f.rows; step = f.step; symbols = symbols_per_word f; words = block_count f; markers = f.markers; lines = line_count f }

abbrev pub MarkerIs : Type 0
MarkerIs = (f : Fields) (s : ℕ) → is_marker (layout_of f) s ≡ ltb (s % (symbols_per_word f + f.markers)) f.markers

-- Where steps 9 and 10 put symbols, in figures: symbol t goes to place t + (t mod N) · B · N, and of the C · S symbols the first that goes to a place is the
-- one there; every S places are a line, which begins with W markers.
abbrev pub PlaceRules : Type 0
PlaceRules =
    (f : Fields) (x : ℕ)
    → (place (layout_of f) x ≡ x + x % f.rows * (f.step * f.rows))
    × (hit_by (layout_of f) x ≡ up_to (λ t. not (eqb (t + t % f.rows * (f.step * f.rows)) x)) 0 (block_count f * symbols_per_word f))
    × (place_at (layout_of f) x ≡ x / (symbols_per_word f + f.markers) * symbols_per_word f + (x % (symbols_per_word f + f.markers) - f.markers))
    × (symbol_of (layout_of f) x ≡ x / symbols_per_word f * (symbols_per_word f + f.markers) + (f.markers + x % symbols_per_word f))

-- a filler is at a place of step 9 to which none of the C-as-S symbols goes
abbrev pub FillerIs : Type 0
FillerIs =
    (f : Fields) (s : ℕ)
    → is_filler (layout_of f) s
    ≡ leb (block_count f * symbols_per_word f) (hit_by (layout_of f) (place_at (layout_of f) s))

-- "Count for each word how many of its symbols are hit": C numbers, and number j counts the symbols of the run that are covered and word j's
abbrev pub Counted : Type 0
Counted =
    (header fades old : List ℕ) → fades_say header fades (length old) ≡ Done → (f : Fields) → f ≡ fields_of header
    → (length (counts_after header fades old) ≡ block_count f)
    × ((j : ℕ) → j < block_count f → get_or (counts_after header fades old) j 0 ≡ weight (λ s. bool (both (covered fades s) (of_word (layout_of f) j s))) (symbol_count f))

-- "The counts must sum to the covered symbols that are neither marker nor filler."
abbrev pub CountsSum : Type 0
CountsSum =
    (header fades old : List ℕ) → fades_say header fades (length old) ≡ Done → (f : Fields) → f ≡ fields_of header
    → weight (λ j. get_or (counts_after header fades old) j 0) (block_count f)
    ≡ weight (λ s. bool (both (covered fades s) (both (not (is_marker (layout_of f) s)) (not (is_filler (layout_of f) s))))) (symbol_count f)

-- symbol t of step 8 is where steps 9 and 10 put it, and is one of word t div S
abbrev pub StandsAt : Type 0
StandsAt =
    (header : List ℕ) → header_says header ≡ Done → (f : Fields) → f ≡ fields_of header
    → (j t : ℕ) → t < block_count f * symbols_per_word f
    → of_word (layout_of f) j (symbol_of (layout_of f) (place (layout_of f) t)) ≡ eqb (t / symbols_per_word f) j

-- and no other symbol of the run is a word's
abbrev pub StandsOnly : Type 0
StandsOnly =
    (header : List ℕ) → header_says header ≡ Done → (f : Fields) → f ≡ fields_of header
    → (j s t : ℕ) → of_word (layout_of f) j s ≡ true → t ≡ hit_by (layout_of f) (place_at (layout_of f) s)
    → (t < block_count f * symbols_per_word f) × (symbol_of (layout_of f) (place (layout_of f) t) ≡ s) × (t / symbols_per_word f ≡ j)

-- a fade over the whole run hits all S symbols of each word
abbrev pub AllHit : Type 0
AllHit =
    (header fades old : List ℕ) → fades_say header fades (length old) ≡ Done → (f : Fields) → f ≡ fields_of header
    → fades ≡ 0 ∷ symbol_count f ∷ [] → (j : ℕ) → j < block_count f → get_or (counts_after header fades old) j 0 ≡ symbols_per_word f

-- "An empty list gives zeros": it is right, and the C counts are 0
abbrev pub EmptyList : Type 0
EmptyList =
    (header old : List ℕ) → header_says header ≡ Done → length old ≡ block_count (fields_of header)
    → (fades_say header [] (length old) ≡ Done) × (counts_after header [] old ≡ tab (block_count (fields_of header)) (λ j. 0))

-- a refused call leaves the counts as they were
abbrev pub RefusedFades : Type 0
RefusedFades =
    (header fades old : List ℕ) (number place : ℕ) → fades_say header fades (length old) ≡ No number place → counts_after header fades old ≡ old

-- ---- "The reckoning counts unrepeated symbols and disregards the factor": a header with another factor that is accepted gets the same answer and counts

abbrev pub FactorDisregarded : Type 0
FactorDisregarded =
    (header other fades old : List ℕ) (copies : ℕ) → fields_of other ≡ with_copies copies (fields_of header)
    → header_says header ≡ Done → header_says other ≡ Done
    → (fades_say other fades (length old) ≡ fades_say header fades (length old)) × (counts_after other fades old ≡ counts_after header fades old)

-- ---- "Any two different places of step 9 that come from symbols, in a stretch of at most N places with markers left out, come from symbols at least B-as-N − 1
-- apart": symbols t and u go to places x and y, which are less than N apart

abbrev pub Apart : Type 0
Apart =
    (header : List ℕ) (n b x y t u : ℕ) → n ≡ (fields_of header).rows → b ≡ (fields_of header).step
    → x ≡ place (layout_of (fields_of header)) t → y ≡ place (layout_of (fields_of header)) u → (x ≡ y → ⊥) → x < y + n → y < x + n
    → (t + (b * n - 1) ≤ u) ⊎ (u + (b * n - 1) ≤ t)

-- and no more than that: symbols B-as-N and 1 go to neighbouring places
abbrev pub Neighbours : Type 0
Neighbours = (g : Layout) → 2 ≤ g.rows → place g 1 ≡ place g (g.step * g.rows) + 1

-- ---- what is promised, all of it: the contract of `card_8`
pub record Card8 : Type 0 where
  pub fades_asks : FadesAsks
  pub fade_first : FadeFirst
  pub fade_end : FadeEnd
  pub list_rules : ListRules
  pub rules_list : RulesList
  pub covered_by : CoveredBy
  pub uncovered : Uncovered
  pub layout_is : LayoutIs
  pub marker_is : MarkerIs
  pub place_rules : PlaceRules
  pub filler_is : FillerIs
  pub counted : Counted
  pub counts_sum : CountsSum
  pub stands_at : StandsAt
  pub stands_only : StandsOnly
  pub all_hit : AllHit
  pub empty_list : EmptyList
  pub refused_fades : RefusedFades
  pub factor_disregarded : FactorDisregarded
  pub apart : Apart
  pub neighbours : Neighbours
