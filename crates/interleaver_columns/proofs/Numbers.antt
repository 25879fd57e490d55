-- The laws of seven bits as one number, of the columns, and of the bytes that take each bit to its place.
use mathlib.Core.Path.{◌≡◌, refl, sym, ap, ap₂, ◌∙◌}
use mathlib.Core.List.{List}
use mathlib.Core.Logic.{⊎_elim}
use Prim.Native.Nat.{ℕ, zero, suc, ◌+◌, ◌-◌, ◌*◌, ◌/◌, ◌%◌, ◌^◌, ◌≤◌, ◌<◌}
use native.Mathlib.Omega.{arith}
use native.Mathlib.Nat.{mod-lt}
use lib.Dec.{eqb, eqb→eq}
use lib.ListN.{length, get_or}
use borrow.Author.Tests.{eq-eqb, ne_eqb}
use Rattle.bits.specs.Basics.{pick, tab}
use Rattle.bits.proofs.Laws.Choice.{lt_or_le, eq_or_ne}
use Rattle.bits.proofs.Laws.Table.{below_all, length_tab, get_or_tab}
use Rattle.bits.specs.Pack.{val, Bits}
use Rattle.bits.proofs.Laws.Pack.{val_lt, val_same, val_bits}
use Rattle.sizes.specs.Sizes.{word_bits}
use Rattle.interleaver.specs.Interleaver.{source_bit, output_place}
use Rattle.interleaver_columns.specs.Inner.{seven, Each, taken_by, column_of, First, up_out, number_out}
use Rattle.bits.specs.Inner.{Filled}
use Rattle.word_columns.specs.Inner.{column, turn_of, roll, Rolled, Light, mix_sum, mixed_at}
use Rattle.word_columns.proofs.Laws.Bits.{column_bit}

-- ---- seven bits

pub seven_digit : (f : ℕ → ℕ) → Bits f → (p i : ℕ) → i < 7 → seven f p / 2 ^ i % 2 ≡ f ((p + 2160 * i) % word_bits)
unfolding seven
seven_digit f b = column_bit (λ j. f (j % word_bits)) (λ j. b (j % word_bits))

pub seven_lt : (f : ℕ → ℕ) → Bits f → (p : ℕ) → seven f p < 128
unfolding seven column
seven_lt f b p = val_lt (λ k. f ((p + 2160 * (6 - k)) % word_bits)) (λ k. b ((p + 2160 * (6 - k)) % word_bits)) 7

pub seven_mod : (f : ℕ → ℕ) (p q : ℕ) → p % word_bits ≡ q % word_bits → seven f p ≡ seven f q
unfolding seven column
seven_mod f p q e =
    val_same (λ k. f ((p + 2160 * (6 - k)) % word_bits)) (λ k. f ((q + 2160 * (6 - k)) % word_bits)) 7 (λ k l. ap f (omega arith))

turned_val : (h : ℕ → ℕ) → h 0 < 2 → val (λ k. h ((7 - k) % 7)) 7 ≡ turn_of (val (λ k. h (6 - k)) 7)
unfolding val
turned_val h b = omega arith

pub seven_turn : (f : ℕ → ℕ) → Bits f → (p : ℕ) → seven f (p + 2160) ≡ turn_of (seven f p)
unfolding seven column
seven_turn f b p =
    let h : ℕ → ℕ = λ i. f ((p + 2160 * i) % word_bits) in
    val_same (λ k. f ((p + 2160 + 2160 * (6 - k)) % word_bits)) (λ k. h ((7 - k) % 7)) 7 (λ k l. ap f (omega arith))
    ∙ turned_val h (b ((p + 2160 * 0) % word_bits))

-- bytes with the same bits are the same
pub byte_same : (a b : ℕ) → a < 256 → b < 256 → ((d : ℕ) → d < 8 → a / 2 ^ d % 2 ≡ b / 2 ^ d % 2) → a ≡ b
byte_same a b ha hb h =
    sym (val_bits a 8 ha)
    ∙ val_same (λ i. a / 2 ^ (8 - 1 - i) % 2) (λ i. b / 2 ^ (8 - 1 - i) % 2) 8 (λ i l. h (8 - 1 - i) (omega arith))
    ∙ val_bits b 8 hb

-- ---- seven bits, each times a power of 2

below_seven : (P : ℕ → Type 0) → P 0 → P 1 → P 2 → P 3 → P 4 → P 5 → P 6 → (u : ℕ) → u < 7 → P u
below_seven P a b c d e f g zero l = a
below_seven P a b c d e f g (suc zero) l = b
below_seven P a b c d e f g (suc (suc zero)) l = c
below_seven P a b c d e f g (suc (suc (suc zero))) l = d
below_seven P a b c d e f g (suc (suc (suc (suc zero)))) l = e
below_seven P a b c d e f g (suc (suc (suc (suc (suc zero))))) l = f
below_seven P a b c d e f g (suc (suc (suc (suc (suc (suc zero)))))) l = g
below_seven P a b c d e f g (suc (suc (suc (suc (suc (suc (suc u))))))) l = absurd (omega arith)

abbrev power : ℕ → ℕ → ℕ
power u i = 2 ^ ((i + u) % 7)

mix_all : (h : ℕ → ℕ) (u : ℕ) → u < 7 → mix_sum h (power u) 7 ≡ val (λ k. h ((13 - k - u) % 7)) 7
unfolding mix_sum val
mix_all h = below_seven (λ u. mix_sum h (power u) 7 ≡ val (λ k. h ((13 - k - u) % 7)) 7) (omega arith) (omega arith) (omega arith) (omega arith) (omega arith) (omega arith) (omega arith)

mix_seven : (f : ℕ → ℕ) (x u : ℕ) → x < 2160 → u < 7 → mix_sum (λ i. f (x + 2160 * i)) (power u) 7 ≡ seven f (x + 2160 * (7 - u))
unfolding seven column
mix_seven f x u l h =
    mix_all (λ i. f (x + 2160 * i)) u h
    ∙ val_same (λ k. f (x + 2160 * ((13 - k - u) % 7))) (λ k. f ((x + 2160 * (7 - u) + 2160 * (6 - k)) % word_bits)) 7 (λ k m. ap f (omega arith))

mix_same : (h w w' : ℕ → ℕ) (n : ℕ) → ((i : ℕ) → i < n → w i ≡ w' i) → mix_sum h w n ≡ mix_sum h w' n
unfolding mix_sum
mix_same h w w' zero e = refl
mix_same h w w' (suc n) e = ap₂ (λ (a b : ℕ). a + h n * b) (mix_same h w w' n (λ i l. e i (omega arith))) (e n (omega arith))

-- ---- columns: each of the 72 is taken once, a test of all of them, which antt computes

pub column_lt : (b : ℕ) → column_of b < 72
unfolding column_of
column_lt b = mod-lt (output_place b) (omega arith)

pub column_place : (c : ℕ) → c < 72 → column_of (source_bit c % 72) ≡ c
unfolding column_of source_bit output_place
column_place c h = eqb→eq (column_of (source_bit c % 72)) c (below_all 72 (λ c. eqb (column_of (source_bit c % 72)) c) tt c h)

pub place_column : (b : ℕ) → b < 72 → source_bit (column_of b) % 72 ≡ b
unfolding column_of source_bit output_place
place_column b h = eqb→eq (source_bit (column_of b) % 72) b (below_all 72 (λ b. eqb (source_bit (column_of b) % 72) b) tt b h)

-- the line that `first_line` makes
pub row_made : (off : List ℕ) → off ≡ tab 72 source_bit → Each source_bit off
row_made off e = rw e (length_tab 72 source_bit, get_or_tab 72 source_bit)

-- ---- masks

-- one column more of the first two rows of a table by columns
pub columns_more : (f : ℕ → ℕ) (c y v old new : ℕ) → c < 72 → v ≡ f (source_bit c % 72) → new ≡ pick (eqb (y % 72) (source_bit c % 72)) v old
    → (column_of (y % 72) < c → old ≡ f (y % 72)) → column_of (y % 72) < c + 1 → new ≡ f (y % 72)
columns_more f c y v old new h e n so_far l =
    ⊎_elim
    (λ (q : y % 72 ≡ source_bit c % 72). n ∙ rw (eq-eqb (y % 72) (source_bit c % 72) q) (e ∙ ap f (sym q)))
    (λ (q : y % 72 ≡ source_bit c % 72 → ⊥). n ∙ rw (ne_eqb (y % 72) (source_bit c % 72) q) (so_far (earlier q)))
    (eq_or_ne (y % 72) (source_bit c % 72))
  where
    earlier : (y % 72 ≡ source_bit c % 72 → ⊥) → column_of (y % 72) < c
    earlier q =
        ⊎_elim
        (λ (z : column_of (y % 72) < c). z)
        (λ (z : c ≤ column_of (y % 72)).
        let w : column_of (y % 72) ≡ c = omega arith in
        absurd (q (sym (place_column (y % 72) (omega arith)) ∙ ap (λ (j : ℕ). source_bit j % 72) w)))
        (lt_or_le (column_of (y % 72)) c)

-- by what the word's columns take, the masks are those of the columns taken
pub first_same : (f : ℕ → ℕ) (up mask : List ℕ) → Filled (λ c. f (taken_by c)) up 72 → First (λ b. get_or up (column_of b) 0) mask → First f mask
first_same f up mask e m =
    record {
      size = m.size;
      entry = λ y l. m.entry y l ∙ ap (λ (j : ℕ). 2 ^ j) (e (column_of (y % 72)) (column_lt (y % 72)) ∙ ap f (place_column (y % 72) (omega arith)));
    }

rolled_power : (a : ℕ) → a < 7 → roll (2 ^ a) ≡ 2 ^ ((a + 1) % 7)
rolled_power a h = eqb→eq (roll (2 ^ a)) (2 ^ ((a + 1) % 7)) (below_all 7 (λ a. eqb (roll (2 ^ a)) (2 ^ ((a + 1) % 7))) tt a h)

-- the masks by which the bits of column b go up by `up` b rows, for two lines
pub record Masks (up : ℕ → ℕ) (mask : List ℕ) : Type 0 where
  pub size : length mask ≡ 1008
  pub entry : (i y : ℕ) → i < 7 → y < 144 → get_or mask (144 * i + y) 0 ≡ 2 ^ ((i + up (y % 72)) % 7)

pub masks_rolled : (up : ℕ → ℕ) → ((b : ℕ) → up b < 7) → (before after : List ℕ) → First up before → Rolled 864 before after → Masks up after
masks_rolled up small before after first r = record { size = r.long ∙ first.size; entry = entry }
  where
    entry : (i y : ℕ) → i < 7 → y < 144 → get_or after (144 * i + y) 0 ≡ 2 ^ ((i + up (y % 72)) % 7)
    entry zero y h l =
        let e : 144 * 0 + y ≡ y = omega arith in
        let u : up (y % 72) ≡ (0 + up (y % 72)) % 7 = let s = small (y % 72) in omega arith in
        ap (λ (k : ℕ). get_or after k 0) e ∙ r.first y l ∙ first.entry y l ∙ ap (λ (k : ℕ). 2 ^ k) u
    entry (suc i) y h l =
        let e : 144 * suc i + y ≡ 144 * i + y + 144 = omega arith in
        let u : ((i + up (y % 72)) % 7 + 1) % 7 ≡ (suc i + up (y % 72)) % 7 = omega arith in
        ap (λ (k : ℕ). get_or after k 0) e
        ∙ r.next (144 * i + y) (omega arith)
        ∙ ap roll (entry i y (omega arith) l)
        ∙ rolled_power ((i + up (y % 72)) % 7) (omega arith)
        ∙ ap (λ (k : ℕ). 2 ^ k) u

-- ---- writing

pub out_lt : (b : ℕ) → up_out b < 7
unfolding up_out
out_lt b = mod-lt (7 - source_bit (column_of b) / 2160) (omega arith)

pub out_place : (c : ℕ) → c < 72 → up_out (source_bit c % 72) ≡ (7 - source_bit c / 2160) % 7
unfolding up_out
out_place c h = ap (λ (j : ℕ). (7 - source_bit j / 2160) % 7) (column_place c h)

-- masks of different bits fit a byte
pub masks_light : (up : ℕ → ℕ) → ((b : ℕ) → up b < 7) → (mask : List ℕ) → Masks up mask → Light mask
masks_light up small mask m =
    record {
      size = m.size;
      fits = λ y l.
          let u : ℕ = up (y % 72) in
          let v : ℕ = val (λ k. 1) 7 in
          let w : v < 128 = val_lt (λ k. 1) (λ k. omega arith) 7 in
          omega (arith, mix_same (λ i. 1) (λ i. get_or mask (144 * i + y) 0) (power u) 7 (λ i h. m.entry i y h l), mix_all (λ i. 1) u (small (y % 72)));
    }

-- with them the coded bits are mixed to the numbers that the columns ask for
pub mixed_out : (coded mask v : List ℕ) → Masks up_out mask → Filled (mixed_at coded mask) v 2160 → Filled (number_out (λ j. get_or coded j 0)) v 2160
unfolding mixed_at number_out
mixed_out coded mask v m h x l =
    let f : ℕ → ℕ = λ j. get_or coded j 0 in
    let y : ℕ = x % 144 in
    let col : y % 72 ≡ x % 72 = omega arith in
    h x l
    ∙ mix_same (λ i. f (x + 2160 * i)) (λ i. get_or mask (144 * i + y) 0) (power (up_out (y % 72))) 7 (λ i k. m.entry i y k (omega arith))
    ∙ mix_seven f x (up_out (y % 72)) l (out_lt (y % 72))
    ∙ ap (λ (b : ℕ). seven f (x + 2160 * (7 - up_out b))) col
