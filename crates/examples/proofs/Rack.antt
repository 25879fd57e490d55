-- A day at the rack, and days that a mission can and cannot tell apart, which antt computes.
use mathlib.Core.Path.{◌≡◌, refl}
use mathlib.Core.Bool.{Bool, true, false, not, ◌||◌}
use mathlib.Core.List.{List, [], ◌∷◌, ◌++◌}
use Prim.Native.Nat.{ℕ}
use lib.Dec.{T}
use lib.ListN.{replicate}
use Rattle.bits.specs.Pack.{val, bit_at}
use Rattle.bits.specs.Basics.{tab}
use Rattle.bits.proofs.Laws.Table.{true_false, all_below, below_all}
use Rattle.header.specs.Header.{field, fields_of, spare_of}
use Rattle.header.proofs.Examples.{example}
use Rattle.header_sizes.specs.Quantities.{symbols_per_word, interleaver_delay}
use Rattle.header_questions.specs.Questions.{question1, question2, question3, question4, question5, question6, question7, copies_good, fields_say, form_says, header_says}
use Rattle.rack.proofs.Laws.Rack.{empty_rack}
use Rattle.rack.specs.Rack.{entry_at, put, loaded, lent_to, Load, Read, Drop, Lend, Call, call_of, missions_right, place_right, says, after_call, Told, told_of}
use Rattle.rack.specs.Traces.{after_all, heard, lent, ever_lent, concerns, kept}
use Rattle.rack.proofs.Laws.Unseen.{ever_rack, told_same}

-- 50 04 02 1B E1 01 04 00 00 00
abbrev pub other : List ℕ
other = 80 ∷ 4 ∷ 2 ∷ 27 ∷ 225 ∷ 1 ∷ 4 ∷ 0 ∷ 0 ∷ 0 ∷ []

-- 59 50 F0 1B E8 02 14 00 00 00: the factor is 5
abbrev fivefold : List ℕ
fivefold = 89 ∷ 80 ∷ 240 ∷ 27 ∷ 232 ∷ 2 ∷ 20 ∷ 0 ∷ 0 ∷ 0 ∷ []

abbrev nine : List ℕ
nine = replicate 9 0

abbrev room : List ℕ
room = replicate 10 0

-- what is told of a read, and of any other call
abbrev reading : ℕ → List ℕ → Told
reading code slice = record { code = code; slice = slice }

abbrev number : ℕ → Told
number code = reading code []

-- ---- a day

abbrev pub day : List Call
day =
    call_of 0 0 0 (Read room)
    ∷ call_of 0 0 1 (Load example)
    ∷ call_of 2 0 1 (Read room)
    ∷ call_of 0 0 1 (Lend 0)
    ∷ call_of 0 0 2 (Lend 2)
    ∷ call_of 1 0 1 (Lend 1)
    ∷ call_of 1 0 1 (Lend 2)
    ∷ call_of 0 0 1 (Lend 2)
    ∷ call_of 2 0 1 (Read room)
    ∷ call_of 0 0 1 (Load other)
    ∷ call_of 2 0 1 (Read room)
    ∷ call_of 0 0 1 (Lend 3)
    ∷ call_of 2 0 1 (Read room)
    ∷ call_of 3 0 1 Drop
    ∷ call_of 0 0 1 Drop
    ∷ call_of 3 0 1 (Read room)
    ∷ call_of 0 0 1 (Load example)
    ∷ call_of 3 0 1 (Read room)
    ∷ call_of 4 9 9 (Read room)
    ∷ call_of 1 1 4 (Read room)
    ∷ call_of 1 1 0 (Load nine)
    ∷ call_of 1 2 0 (Load nine)
    ∷ call_of 1 1 0 (Load fivefold)
    ∷ []

-- what all callers are told
abbrev told_all : List ℕ → List Call → List Told
told_all area [] = []
told_all area (call ∷ calls) = told_of area call ∷ told_all (after_call area call) calls

-- at the end the second entry, from byte 11 on, is loaded and lent to nobody, and all others are empty
pub day_told : (told_all empty_rack day
    ≡ reading 25 room
    ∷ number 0
    ∷ reading 25 room
    ∷ number 23
    ∷ number 25
    ∷ number 23
    ∷ number 25
    ∷ number 0
    ∷ reading 0 example
    ∷ number 0
    ∷ reading 0 other
    ∷ number 0
    ∷ reading 25 room
    ∷ number 25
    ∷ number 0
    ∷ reading 25 room
    ∷ number 0
    ∷ reading 25 room
    ∷ reading 23 room
    ∷ reading 24 room
    ∷ number 1
    ∷ number 25
    ∷ number 20
    ∷ [])
    × (after_all empty_rack day ≡ replicate 11 0 ++ (1 ∷ example) ++ replicate 154 0)
unfolding after_all says after_call entry_at put loaded lent_to missions_right place_right tab header_says form_says fields_say question1 question2 question3 question4 question5 question6 question7 copies_good fields_of field spare_of val bit_at interleaver_delay symbols_per_word
day_told = (refl, refl)

-- ---- what mission 2 is told

-- mission 0 loads a place and lends it to 2, mission 1 loads one and keeps it; 2 asks for both
abbrev pub calls : List Call
calls =
    call_of 0 0 1 (Load example)
    ∷ call_of 1 1 2 (Load other)
    ∷ call_of 0 0 1 (Lend 2)
    ∷ call_of 2 0 1 (Read room)
    ∷ call_of 2 1 2 (Read room)
    ∷ []

-- 1 loads later and something else, 0 loads one more place and lends it to 1, 3 tries to drop the place that is lent to 2
abbrev pub changed : List Call
changed =
    call_of 0 0 1 (Load example)
    ∷ call_of 0 0 3 (Load other)
    ∷ call_of 0 0 3 (Lend 1)
    ∷ call_of 3 0 1 Drop
    ∷ call_of 0 0 1 (Lend 2)
    ∷ call_of 1 1 2 (Load example)
    ∷ call_of 2 0 1 (Read room)
    ∷ call_of 2 1 2 (Read room)
    ∷ []

-- 1 lends its place to 2
abbrev pub lent_too : List Call
lent_too =
    call_of 0 0 1 (Load example)
    ∷ call_of 1 1 2 (Load other)
    ∷ call_of 1 1 2 (Lend 2)
    ∷ call_of 0 0 1 (Lend 2)
    ∷ call_of 2 0 1 (Read room)
    ∷ call_of 2 1 2 (Read room)
    ∷ []

-- 0 loads something else into the place that it lends
abbrev pub loaded_other : List Call
loaded_other =
    call_of 0 0 1 (Load other)
    ∷ call_of 1 1 2 (Load other)
    ∷ call_of 0 0 1 (Lend 2)
    ∷ call_of 2 0 1 (Read room)
    ∷ call_of 2 1 2 (Read room)
    ∷ []

abbrev lent_in : List Call → ℕ → ℕ → Bool
lent_in = ever_lent 2 empty_rack

abbrev kept_of : List Call → List Call
kept_of = kept 2 (lent_in calls)

abbrev only_where : (ℕ → ℕ → Bool) → (ℕ → ℕ → Bool) → Bool
only_where f g = all_below 4 (λ o. all_below 4 (λ p. not (f o p) || g o p))

pub record Computed : Type 0 where
  -- in the area the place of mission 0 is lent to 2, that of mission 1 to nobody
  pub ends : after_all empty_rack calls ≡ replicate 11 0 ++ (4 ∷ example) ++ replicate 44 0 ++ (1 ∷ other) ++ replicate 99 0
  -- the second list has the calls that concern 2, and lends it no more
  pub kept_same : kept_of calls ≡ kept_of changed
  pub no_more : T (only_where (lent_in changed) (lent_in calls))
  -- so 2 is told the same: the header that is lent to it, and 25
  pub told : heard 2 empty_rack calls ≡ reading 0 example ∷ reading 25 room ∷ []
  -- the third list has those calls too, but lends one place more; the fourth has others: each makes a difference
  pub kept_too : kept_of calls ≡ kept_of lent_too
  pub told_too : heard 2 empty_rack lent_too ≡ reading 0 example ∷ reading 0 other ∷ []
  pub told_other : heard 2 empty_rack loaded_other ≡ reading 0 other ∷ reading 25 room ∷ []

pub computed : Computed
unfolding after_all heard ever_lent lent concerns kept says after_call entry_at put loaded lent_to missions_right place_right tab header_says form_says fields_say question1 question2 question3 question4 question5 question6 question7 copies_good fields_of field spare_of val bit_at interleaver_delay symbols_per_word
computed = record { ends = refl; kept_same = refl; no_more = tt; told = refl; kept_too = refl; told_too = refl; told_other = refl }

-- the second list meets what `told_same` asks
no_other_lent : (o p : ℕ) → ever_lent 2 empty_rack changed o p ≡ true → ever_lent 2 empty_rack calls o p ≡ true
no_other_lent o p e =
    let i = ever_rack 2 empty_rack changed o p e in
    let row = below_all 4 (λ o. all_below 4 (λ p. not (lent_in changed o p) || lent_in calls o p)) computed.no_more o i.0 in
    follows (lent_in changed o p) (lent_in calls o p) e (below_all 4 (λ p. not (lent_in changed o p) || lent_in calls o p) row p i.1)
  where
    follows : (a b : Bool) → a ≡ true → T (not a || b) → b ≡ true
    follows true true e t = refl
    follows true false e t = absurd t
    follows false b e t = absurd (true_false false e refl)

pub changed_same : heard 2 empty_rack calls ≡ heard 2 empty_rack changed
changed_same = told_same 2 empty_rack calls changed computed.kept_same no_other_lent
