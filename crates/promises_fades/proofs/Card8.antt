-- The proofs of card 8.
use mathlib.Core.Path.{◌≡◌, refl, sym, ap, ◌∙◌}
use mathlib.Core.List.{List, []}
use mathlib.Core.Logic.{inl, inr, ⊎_elim}
use Prim.Native.Nat.{ℕ, ◌-◌, ◌*◌, ◌≤◌, ◌<◌}
use native.Mathlib.Omega.{arith}
use lib.ListN.{length, get_or}
use borrow.Author.Tests.{eq-eqb}
use Rattle.bits.proofs.Laws.Choice.{lt_or_le}
use Rattle.bits.proofs.Laws.Table.{length_tab, get_or_tab}
use Rattle.bits.specs.Count.{weight}
use Rattle.answers.specs.Answer.{Answer, Done, after}
use Rattle.header.specs.Header.{fields_of, with_copies}
use Rattle.header.specs.declared.Fields.{Fields}
use Rattle.header_sizes.specs.Quantities.{symbols_per_word, marked_bits, block_count, interleaver_delay, sequence_length, line_count, symbol_count, layout_of}
use Rattle.header_sizes.specs.Inner.{Valid}
use Rattle.header_questions.proofs.Laws.Good.{header_good}
use Rattle.channel.specs.Channel.{place, hit_by, place_at, symbol_of}
use Rattle.channel.proofs.Laws.Spacing as spacing
use Rattle.fades.specs.Fades.{fades_good, is_marker, is_filler, source_of, hits, counts_of, counts_in, fades_say, counts_after}
use Rattle.fades.proofs.Laws.Fades as laws
use Rattle.fades.proofs.Laws.Theorems as theorems
use Rattle.promises_fades.specs.Card8.{Card8, FadesAsks, FadeFirst, FadeEnd, ListRules, RulesList, CoveredBy, Uncovered, LayoutIs, MarkerIs, PlaceRules, FillerIs, Counted, CountsSum, StandsAt, StandsOnly, AllHit, EmptyList, RefusedFades, FactorDisregarded, Apart, Neighbours}

pub fades_asks : FadesAsks
unfolding fades_say
fades_asks header fades n = refl

pub fade_first : FadeFirst
fade_first fades i = refl

pub fade_end : FadeEnd
fade_end fades i = refl

pub list_rules : ListRules
list_rules n fades e =
    let r = laws.good_rules n fades e in
    (r.pairs, λ i l. (let k = r.least i l in omega arith, r.inside i l), r.ascending)

pub rules_list : RulesList
rules_list n fades pairs each ascending =
    laws.rules_good n fades record { pairs = pairs; least = λ i l. let k = each i l in omega arith; inside = λ i l. (each i l).1; ascending = ascending }

pub covered_by : CoveredBy
covered_by = laws.covered_in

pub uncovered : Uncovered
uncovered = laws.covered_out

pub layout_is : LayoutIs
unfolding layout_of
layout_is f = refl

pub marker_is : MarkerIs
unfolding is_marker layout_of
marker_is f s = refl

pub place_rules : PlaceRules
unfolding place hit_by place_at symbol_of layout_of
place_rules f x = (refl, refl, refl, refl)

pub filler_is : FillerIs
unfolding is_filler source_of layout_of
filler_is f s = refl

valid : (header fades : List ℕ) (n : ℕ) → fades_say header fades n ≡ Done → (f : Fields) → f ≡ fields_of header → Valid f
valid header fades n e f ef = rw ef (laws.accepted header fades n e).valid

counts_are : (header fades old : List ℕ) → fades_say header fades (length old) ≡ Done → (f : Fields) → f ≡ fields_of header
    → counts_after header fades old ≡ counts_of (layout_of f) fades
counts_are header fades old e f ef = ap (λ (a : Answer). after a (counts_in header fades) old) e ∙ ap (λ (x : Fields). counts_of (layout_of x) fades) (sym ef)

pub counted : Counted
unfolding counts_of hits layout_of symbol_count
counted header fades old e f ef = (
  ap length (counts_are header fades old e f ef) ∙ length_tab (block_count f) (hits (layout_of f) fades),
  λ j l. ap (λ (xs : List ℕ). get_or xs j 0) (counts_are header fades old e f ef) ∙ get_or_tab (block_count f) (hits (layout_of f) fades) j l,
)

pub counts_sum : CountsSum
unfolding layout_of symbol_count
counts_sum header fades old e f ef =
    ap (λ (xs : List ℕ). weight (λ j. get_or xs j 0) (block_count f)) (counts_are header fades old e f ef)
    ∙ theorems.counts_sum (layout_of f) (laws.valid_small f (valid header fades (length old) e f ef)).symbols_least fades

pub stands_at : StandsAt
unfolding layout_of
stands_at header e f ef = theorems.word_at (layout_of f) (theorems.valid_whole f (rw ef (header_good header e).valid))

pub stands_only : StandsOnly
unfolding source_of layout_of
stands_only header e f ef j s t h et = rw et (theorems.only_word (layout_of f) (theorems.valid_whole f (rw ef (header_good header e).valid)) j s h)

pub all_hit : AllHit
unfolding counts_of layout_of symbol_count
all_hit header fades old e f ef whole j l =
    ap (λ (xs : List ℕ). get_or xs j 0) (counts_are header fades old e f ef)
    ∙ get_or_tab (block_count f) (hits (layout_of f) fades) j l
    ∙ ap (λ (xs : List ℕ). hits (layout_of f) xs j) whole
    ∙ theorems.all_hit (layout_of f) (theorems.valid_whole f (valid header fades (length old) e f ef)) j l

pub empty_list : EmptyList
unfolding fades_say fades_good layout_of
empty_list header old e long =
    let done : fades_say header [] (length old) ≡ Done = rw (e, eq-eqb (length old) (block_count (fields_of header)) long) refl in
    (done, ap (λ (a : Answer). after a (counts_in header []) old) done ∙ theorems.none_hit (layout_of (fields_of header)))

pub refused_fades : RefusedFades
refused_fades header fades old number place e = ap (λ (a : Answer). after a (counts_in header fades) old) e

pub factor_disregarded : FactorDisregarded
unfolding fades_say layout_of with_copies symbol_count line_count sequence_length block_count marked_bits symbols_per_word interleaver_delay
factor_disregarded header other fades old copies e done also = (rw (done, also, e) refl, rw (done, also, e) refl)

pub apart : Apart
unfolding layout_of
apart header n b x y t u en eb ex ey ne a c =
    let g = layout_of (fields_of header) in
    let one : 1 ≤ (fields_of header).rows = omega arith in
    ⊎_elim
    (λ (s : 0 < (fields_of header).step). rw (en, eb) (spacing.far_apart g one s t u (rw (← ex, ← ey) ne) (rw (← ex, ← ey, ← en) a) (rw (← ex, ← ey, ← en) c)))
    (λ (s : (fields_of header).step ≤ 0).
    let z : b ≡ 0 = omega arith in
    let none : b * n - 1 ≡ 0 = rw z (omega arith) in
    ⊎_elim (λ (l : t < u). inl (omega arith)) (λ (l : u ≤ t). inr (omega arith)) (lt_or_le t u))
    (lt_or_le 0 (fields_of header).step)

pub neighbours : Neighbours
neighbours = spacing.side_by_side

-- all of it
pub card_8 : Card8
card_8 = record {
  fades_asks = fades_asks;
  fade_first = fade_first;
  fade_end = fade_end;
  list_rules = list_rules;
  rules_list = rules_list;
  covered_by = covered_by;
  uncovered = uncovered;
  layout_is = layout_is;
  marker_is = marker_is;
  place_rules = place_rules;
  filler_is = filler_is;
  counted = counted;
  counts_sum = counts_sum;
  stands_at = stands_at;
  stands_only = stands_only;
  all_hit = all_hit;
  empty_list = empty_list;
  refused_fades = refused_fades;
  factor_disregarded = factor_disregarded;
  apart = apart;
  neighbours = neighbours;
}
