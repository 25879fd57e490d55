-- The proofs of card 13.
use mathlib.Core.Path.{◌≡◌, refl, sym, ap, ap₂, ◌∙◌}
use mathlib.Core.List.{List}
use mathlib.Core.Logic.{⊎_elim}
use Prim.Native.Nat.{ℕ, zero, suc, ◌≤◌, ◌<◌}
use native.Mathlib.Omega.{arith}
use lib.Bits.{bit_xor}
use lib.ListN.{length}
use Rattle.bits.proofs.Laws.Choice.{bit_cases}
use Rattle.bits.proofs.Laws.Sum.{xor_same, same_xor}
use Rattle.bits.specs.Pack.{bit_at, bytes_of, flip_bit}
use Rattle.bits.proofs.Laws.Pack.{bit_lt, length_bytes}
use Rattle.bits.proofs.Laws.Change.{flip_bit_lem}
use Rattle.answers.specs.Answer.{Answer, after}
use Rattle.sizes.specs.Sizes.{info_bits, block_bytes}
use Rattle.word.specs.Word.{coded_of, word_of, coded_in}
use Rattle.word.proofs.Laws.Exports.{past_rates}
use Rattle.spread.specs.Spread.{changes, zero_block, spread_of, spread_says}
use Rattle.spread.proofs.Laws.Few.{limit}
use Rattle.spread.proofs.Laws.Spread as law_of_spread
use Rattle.promises_words.specs.Card13.{Card13, apart_coded, apart_out, BitChanged, Few, FewTakenOut, PlacesMarked, MarkedTakenOut, SpreadAsks, SpreadGiven, RefusedSpread}

-- a bit that is the sum of two is 1 exactly where they are not the same
one_where_apart : (m x y : ℕ) → m < 2 → m ≡ bit_xor x y → (m ≡ 1 → x ≡ y → ⊥) × ((x ≡ y → ⊥) → m ≡ 1)
one_where_apart m x y h e = (
  λ one same. let z : m ≡ 0 = e ∙ xor_same x y same in omega arith,
  λ ne. ⊎_elim (λ (z : m ≡ 0). absurd (ne (same_xor x y (sym e ∙ z)))) (λ (o : m ≡ 1). o) (bit_cases m h),
)

pub bit_changed : BitChanged
unfolding block_bytes
bit_changed rate block bit size l i = flip_bit_lem block bit i (omega arith)

pub few : Few
unfolding limit
few rate block bit size l =
    let d : rate < 3 → apart_coded rate block (flip_bit block bit) ≤ limit rate = λ h. law_of_spread.few_coded rate bit h l block size in
    (λ e. omega (arith, d (omega arith), ap limit e), λ e. omega (arith, d (omega arith), ap limit e), λ e. omega (arith, d (omega arith), ap limit e))

pub few_taken_out : FewTakenOut
unfolding limit
few_taken_out rate block bit size l =
    let d : rate < 3 → apart_out rate block (flip_bit block bit) ≤ limit rate = λ h. law_of_spread.few_taken_out rate bit h l block size in
    (λ e. omega (arith, d (omega arith), ap limit e), λ e. omega (arith, d (omega arith), ap limit e), λ e. omega (arith, d (omega arith), ap limit e))

-- a number above 2 is no rate, but the steps take it as 2
spread_past : (r bit : ℕ) → spread_of (suc (suc r)) bit ≡ spread_of 2 bit
unfolding spread_of changes zero_block block_bytes info_bits
spread_past r bit =
    let zeros : List ℕ = zero_block 2 in
    ap₂ (λ (f g : ℕ → ℕ). bytes_of 1890 (λ j. bit_xor (f j) (g j))) (past_rates r zeros).1 (past_rates r (flip_bit zeros bit)).1

-- so the marks are where the coded bits differ, whatever the rate
every_block : (rate : ℕ) (block : List ℕ) (bit : ℕ) → length block ≡ block_bytes rate → bit < info_bits rate → (j : ℕ) → j < 15120
    → bit_at (spread_of rate bit) j ≡ bit_xor (coded_of rate block j) (coded_of rate (flip_bit block bit) j)
unfolding changes info_bits block_bytes
every_block zero block bit size l j u = law_of_spread.every_block 0 bit (omega arith) l block size j u
every_block (suc zero) block bit size l j u = law_of_spread.every_block 1 bit (omega arith) l block size j u
every_block (suc (suc r)) block bit size l j u =
    rw (spread_past r bit, (past_rates r block).1, (past_rates r (flip_bit block bit)).1) (law_of_spread.every_block 2 bit (omega arith) l block size j u)

every_word : (rate : ℕ) (block : List ℕ) (bit : ℕ) → length block ≡ block_bytes rate → bit < info_bits rate → (j : ℕ) → j < 15120
    → bit_at (spread_of rate bit) j ≡ bit_xor (coded_in (word_of rate block) j) (coded_in (word_of rate (flip_bit block bit)) j)
unfolding info_bits block_bytes
every_word zero block bit size l j u = law_of_spread.every_word 0 bit (omega arith) l block size j u
every_word (suc zero) block bit size l j u = law_of_spread.every_word 1 bit (omega arith) l block size j u
every_word (suc (suc r)) block bit size l j u =
    rw (spread_past r bit, (past_rates r block).0, (past_rates r (flip_bit block bit)).0) (law_of_spread.every_word 2 bit (omega arith) l block size j u)

pub places_marked : PlacesMarked
places_marked rate block bit size l j u =
    one_where_apart (bit_at (spread_of rate bit) j) (coded_of rate block j) (coded_of rate (flip_bit block bit) j) (bit_lt (spread_of rate bit) j) (every_block rate block bit size l j u)

pub marked_taken_out : MarkedTakenOut
marked_taken_out rate block bit size l j u =
    one_where_apart (bit_at (spread_of rate bit) j) (coded_in (word_of rate block) j) (coded_in (word_of rate (flip_bit block bit)) j) (bit_lt (spread_of rate bit) j) (every_word rate block bit size l j u)

pub spread_asks : SpreadAsks
unfolding spread_says
spread_asks rate bit n = refl

pub spread_given : SpreadGiven
unfolding spread_of
spread_given rate bit old e = (ap (λ (a : Answer). after a (spread_of rate bit) old) e, length_bytes 1890 (changes rate (zero_block rate) bit))

pub refused_spread : RefusedSpread
refused_spread rate bit old number place e = ap (λ (a : Answer). after a (spread_of rate bit) old) e

-- all of it
pub card_13 : Card13
card_13 = record {
  bit_changed = bit_changed;
  few = few;
  few_taken_out = few_taken_out;
  places_marked = places_marked;
  marked_taken_out = marked_taken_out;
  spread_asks = spread_asks;
  spread_given = spread_given;
  refused_spread = refused_spread;
}
