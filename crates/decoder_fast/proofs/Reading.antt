-- What the columns say of the coded bits: where their sums are zero, and which bits they make.
use mathlib.Core.Path.{◌≡◌, refl, sym, ap, ap₂, ◌∙◌}
use mathlib.Core.List.{List}
use mathlib.Core.Logic.{⊎_elim}
use Prim.Native.Nat.{ℕ, ◌+◌, ◌*◌, ◌/◌, ◌%◌, ◌^◌, ◌≤◌, ◌<◌}
use native.Mathlib.Omega.{arith}
use lib.Bits.{bit_xor, xor_comm, xor_self}
use lib.ListN.{get_or}
use borrow.Author.Tests.{eq-eqb, ne_eqb}
use Rattle.bits.proofs.Laws.Choice.{bit_cases}
use Rattle.bits.proofs.Laws.Sum.{xor_bit, xor_cancel_r, same_xor}
use Rattle.bits.specs.Pack.{Bits, bit_at}
use Rattle.word_columns.specs.Inner.{column, Coded}
use Rattle.word_columns.proofs.Laws.Bits.{column_bit}
use Rattle.decoder_columns.specs.Inner.{bits_of, Held, sum_two, sum_five, NoSum}
use Rattle.decoder_bytes.specs.Inner.{source, Taken}
use Rattle.convolution.specs.Inner.{Made}
use Rattle.decoder_fast.specs.Inner.{pair_of, Summed, StartsRight}
use Rattle.decoder_columns.proofs.Columns.{column_none, column_plus, column_on}
use Rattle.decoder_fast.proofs.Outputs as out

-- the sum of five neighbours
abbrev pub five_of : List ℕ → ℕ → ℕ
five_of coded j = bit_xor (bit_xor (bit_xor (pair_of coded j) (bits_of coded (j + 2))) (bits_of coded (j + 3))) (bits_of coded (j + 4))

-- ---- sums of neighbours are bits, and columns of columns

pair_bits : (coded : List ℕ) → Coded coded → Bits (pair_of coded)
pair_bits coded h j = xor_bit (bits_of coded j) (bits_of coded (j + 1)) (h.bits j) (h.bits (j + 1))

five_bits : (coded : List ℕ) → Coded coded → Bits (five_of coded)
five_bits coded h j =
    let three : bit_xor (pair_of coded j) (bits_of coded (j + 2)) < 2 = xor_bit (pair_of coded j) (bits_of coded (j + 2)) (pair_bits coded h j) (h.bits (j + 2)) in
    let four : bit_xor (bit_xor (pair_of coded j) (bits_of coded (j + 2))) (bits_of coded (j + 3)) < 2 = xor_bit (bit_xor (pair_of coded j) (bits_of coded (j + 2))) (bits_of coded (j + 3)) three (h.bits (j + 3)) in
    xor_bit (bit_xor (bit_xor (pair_of coded j) (bits_of coded (j + 2))) (bits_of coded (j + 3))) (bits_of coded (j + 4)) four (h.bits (j + 4))

-- a column p places on added to one
column_add : (f g : ℕ → ℕ) → Bits f → Bits g → (x p : ℕ) → bit_xor (column f x) (column g (x + p)) ≡ column (λ j. bit_xor (f j) (g (j + p))) x
column_add f g hf hg x p = ap (bit_xor (column f x)) (column_on g x p) ∙ column_plus f (λ j. g (j + p)) hf (λ j. hg (j + p)) x

pub pairs_held : (coded v d : List ℕ) → Coded coded → Held (column (bits_of coded)) v 2168 → Held (sum_two v) d 2167 → Held (column (pair_of coded)) d 2167
pairs_held coded v d h hv hd =
    record {
      size = hd.size;
      below = λ x l.
          hd.below x l ∙ ap₂ bit_xor (hv.below x (omega arith)) (hv.below (x + 1) (omega arith))
          ∙ column_add (bits_of coded) (bits_of coded) h.bits h.bits x 1;
    }

pub fives_held : (coded v e : List ℕ) → Coded coded → Held (column (bits_of coded)) v 2168 → Held (sum_five v) e 2164 → Held (column (five_of coded)) e 2164
fives_held coded v e h hv he =
    let c : ℕ → ℕ = bits_of coded in
    let three : ℕ → ℕ = λ j. bit_xor (pair_of coded j) (c (j + 2)) in
    let four : ℕ → ℕ = λ j. bit_xor (three j) (c (j + 3)) in
    let b3 : Bits three = λ j. xor_bit (pair_of coded j) (c (j + 2)) (pair_bits coded h j) (h.bits (j + 2)) in
    let b4 : Bits four = λ j. xor_bit (three j) (c (j + 3)) (b3 j) (h.bits (j + 3)) in
    record {
      size = he.size;
      below = λ x l.
          he.below x l
          ∙ ap₂ bit_xor (ap₂ bit_xor (ap₂ bit_xor (ap₂ bit_xor (hv.below x (omega arith)) (hv.below (x + 1) (omega arith)) ∙ column_add c c h.bits h.bits x 1)
          (hv.below (x + 2) (omega arith)) ∙ column_add (pair_of coded) c (pair_bits coded h) h.bits x 2)
          (hv.below (x + 3) (omega arith)) ∙ column_add three c b3 h.bits x 3)
          (hv.below (x + 4) (omega arith)) ∙ column_add four c b4 h.bits x 4;
    }

-- ---- sums that are zero

pub no_sum : (f g h : ℕ → ℕ) → Bits f → Bits g → Bits h → (a b c : List ℕ) (na nb nc p q step n : ℕ)
    → Held (column f) a na → Held (column g) b nb → Held (column h) c nc → 2160 ≤ na → 2160 + p ≤ nb → 2160 + q ≤ nc → NoSum a b c p q step n
    → (u m r : ℕ) → u < 45 → m < n → step * m < 48 → r < 7
    → bit_xor (bit_xor (f (48 * u + step * m + 2160 * r)) (g (48 * u + step * m + 2160 * r + p))) (h (48 * u + step * m + 2160 * r + q)) ≡ 0
no_sum f g h bf bg bh a b c na nb nc p q step n ha hb hc la lb lc none u m r hu hm hs hr =
    let x : ℕ = 48 * u + step * m in
    let fg : ℕ → ℕ = λ j. bit_xor (f j) (g (j + p)) in
    let bfg : Bits fg = λ j. xor_bit (f j) (g (j + p)) (bf j) (bg (j + p)) in
    column_none (λ j. bit_xor (fg j) (h (j + q))) (λ j. xor_bit (fg j) (h (j + q)) (bfg j) (bh (j + q))) x
    (sym (ap₂ bit_xor (ap₂ bit_xor (ha.below x (omega arith)) (hb.below (x + p) (omega arith)) ∙ column_add f g bf bg x p) (hc.below (x + q) (omega arith))
    ∙ column_add fg h bfg bh x q) ∙ none u m hu hm)
    r hr

-- ---- bits that are taken

taken_bit_lem : (a b : List ℕ) (x y s n : ℕ) (input : List ℕ) → Taken a b x y s n input → (f : ℕ → ℕ) → Bits f → (g r u place : ℕ) → g < n → r < 7 → u < 8
    → source a b (x + 4 * (s * g)) (y + 4 * (s * g)) s u ≡ column f place → bit_at input (8 * (g + n * r) + u) ≡ f (place + 2160 * r)
taken_bit_lem a b x y s n input t f bf g r u place hg hr hu e =
    t g r u hg hr hu ∙ ap (λ (v : ℕ). v / 2 ^ r % 2) e ∙ column_bit f bf place r hr

-- the byte of an even place, and of an odd one
source_even : (a b : List ℕ) (x y s u : ℕ) → u % 2 ≡ 0 → source a b x y s u ≡ get_or a (x + s * (u / 2)) 0
unfolding source
source_even a b x y s u e = rw (eq-eqb (u % 2) 0 e) refl

source_odd : (a b : List ℕ) (x y s u : ℕ) → u % 2 ≡ 1 → source a b x y s u ≡ get_or b (y + s * (u / 2)) 0
unfolding source
source_odd a b x y s u e = let ne : u % 2 ≡ 0 → ⊥ = λ z. omega arith in rw (ne_eqb (u % 2) 0 ne) refl

module _ (coded d input : List ℕ) (h : Coded coded) (hd : Held (column (pair_of coded)) d 2167) where
  third_bits : Taken d d 3 6 6 90 input → (i : ℕ) → i < 5040 → bit_at input i ≡ pair_of coded (3 * (i + 1))
  third_bits t i l =
      let g : ℕ = i / 8 % 90 in
      let r : ℕ = i / 8 / 90 in
      let u : ℕ = i % 8 in
      let at : 8 * (g + 90 * r) + u ≡ i = omega arith in
      let place : ℕ = 3 * (8 * g + u + 1) in
      let there : place + 2160 * r ≡ 3 * (i + 1) = omega arith in
      ap (bit_at input) (sym at)
      ∙ taken_bit_lem d d 3 6 6 90 input t (pair_of coded) (pair_bits coded h) g r u place (omega arith) (omega arith) (omega arith)
      (⊎_elim
      (λ (z : u % 2 ≡ 0). let e : 3 + 4 * (6 * g) + 6 * (u / 2) ≡ place = omega arith in
      source_even d d (3 + 4 * (6 * g)) (6 + 4 * (6 * g)) 6 u z ∙ ap (λ (k : ℕ). get_or d k 0) e)
      (λ (z : u % 2 ≡ 1). let e : 6 + 4 * (6 * g) + 6 * (u / 2) ≡ place = omega arith in
      source_odd d d (3 + 4 * (6 * g)) (6 + 4 * (6 * g)) 6 u z ∙ ap (λ (k : ℕ). get_or d k 0) e)
      (bit_cases (u % 2) (omega arith))
      ∙ hd.below place (omega arith))
      ∙ ap (pair_of coded) there

  half_bits : Taken d d 2 4 4 135 input → (i : ℕ) → i < 7560 → bit_at input i ≡ pair_of coded (2 * (i + 1))
  half_bits t i l =
      let g : ℕ = i / 8 % 135 in
      let r : ℕ = i / 8 / 135 in
      let u : ℕ = i % 8 in
      let at : 8 * (g + 135 * r) + u ≡ i = omega arith in
      let place : ℕ = 2 * (8 * g + u + 1) in
      let there : place + 2160 * r ≡ 2 * (i + 1) = omega arith in
      ap (bit_at input) (sym at)
      ∙ taken_bit_lem d d 2 4 4 135 input t (pair_of coded) (pair_bits coded h) g r u place (omega arith) (omega arith) (omega arith)
      (⊎_elim
      (λ (z : u % 2 ≡ 0). let e : 2 + 4 * (4 * g) + 4 * (u / 2) ≡ place = omega arith in
      source_even d d (2 + 4 * (4 * g)) (4 + 4 * (4 * g)) 4 u z ∙ ap (λ (k : ℕ). get_or d k 0) e)
      (λ (z : u % 2 ≡ 1). let e : 4 + 4 * (4 * g) + 4 * (u / 2) ≡ place = omega arith in
      source_odd d d (2 + 4 * (4 * g)) (4 + 4 * (4 * g)) 4 u z ∙ ap (λ (k : ℕ). get_or d k 0) e)
      (bit_cases (u % 2) (omega arith))
      ∙ hd.below place (omega arith))
      ∙ ap (pair_of coded) there

  module _ (e : List ℕ) (he : Held (column (five_of coded)) e 2164) (t : Taken e d 0 3 3 180 input) where
    two_even : (i : ℕ) → i < 5040 → bit_at input (2 * i) ≡ five_of coded (3 * i)
    two_even i l =
        let k : ℕ = 2 * i in
        let g : ℕ = k / 8 % 180 in
        let r : ℕ = k / 8 / 180 in
        let u : ℕ = k % 8 in
        let at : 8 * (g + 180 * r) + u ≡ k = omega arith in
        let place : ℕ = 0 + 4 * (3 * g) + 3 * (u / 2) in
        let there : place + 2160 * r ≡ 3 * i = omega arith in
        ap (bit_at input) (sym at)
        ∙ taken_bit_lem e d 0 3 3 180 input t (five_of coded) (five_bits coded h) g r u place (omega arith) (omega arith) (omega arith)
        (source_even e d (0 + 4 * (3 * g)) (3 + 4 * (3 * g)) 3 u (omega arith) ∙ he.below place (omega arith))
        ∙ ap (five_of coded) there

    two_odd : (i : ℕ) → i < 5040 → bit_at input (2 * i + 1) ≡ pair_of coded (3 * (i + 1))
    two_odd i l =
        let k : ℕ = 2 * i + 1 in
        let g : ℕ = k / 8 % 180 in
        let r : ℕ = k / 8 / 180 in
        let u : ℕ = k % 8 in
        let at : 8 * (g + 180 * r) + u ≡ k = omega arith in
        let place : ℕ = 3 + 4 * (3 * g) + 3 * (u / 2) in
        let there : place + 2160 * r ≡ 3 * (i + 1) = omega arith in
        ap (bit_at input) (sym at)
        ∙ taken_bit_lem e d 0 3 3 180 input t (pair_of coded) (pair_bits coded h) g r u place (omega arith) (omega arith) (omega arith)
        (source_odd e d (0 + 4 * (3 * g)) (3 + 4 * (3 * g)) 3 u (omega arith) ∙ hd.below place (omega arith))
        ∙ ap (pair_of coded) there

-- ---- the coded bits that are made

-- the place of turn m, in rows of 2,160 and there in stretches of 48
module _ (f g h : ℕ → ℕ) (bf : Bits f) (bg : Bits g) (bh : Bits h) (a b c : List ℕ) (na nb nc p q : ℕ)
    (ha : Held (column f) a na) (hb : Held (column g) b nb) (hc : Held (column h) c nc) (la : 2160 ≤ na) (lb : 2160 + p ≤ nb) (lc : 2160 + q ≤ nc) where
  sums_three : NoSum a b c p q 3 16 → (m : ℕ) → m < 5040 → bit_xor (bit_xor (f (3 * m)) (g (3 * m + p))) (h (3 * m + q)) ≡ 0
  sums_three none m l =
      let x : ℕ = 3 * (m % 720) in
      let at : 48 * (x / 48) + 3 * (x % 48 / 3) + 2160 * (m / 720) ≡ 3 * m = omega arith in
      rw at at (no_sum f g h bf bg bh a b c na nb nc p q 3 16 ha hb hc la lb lc none (x / 48) (x % 48 / 3) (m / 720) (omega arith) (omega arith) (omega arith) (omega arith))

  sums_two : NoSum a b c p q 2 24 → (m : ℕ) → m < 7560 → bit_xor (bit_xor (f (2 * m)) (g (2 * m + p))) (h (2 * m + q)) ≡ 0
  sums_two none m l =
      let x : ℕ = 2 * (m % 1080) in
      let at : 48 * (x / 48) + 2 * (x % 48 / 2) + 2160 * (m / 1080) ≡ 2 * m = omega arith in
      rw at at (no_sum f g h bf bg bh a b c na nb nc p q 2 24 ha hb hc la lb lc none (x / 48) (x % 48 / 2) (m / 1080) (omega arith) (omega arith) (omega arith) (omega arith))

-- the first coded bit by the column w
starts_at : (coded : List ℕ) (f : ℕ → ℕ) → Bits f → (x w : ℕ) → w ≡ column f x → StartsRight coded w → bits_of coded 0 ≡ f x
starts_at coded f b x w e s =
    let one : column f x % 2 ≡ column f x / 2 ^ 0 % 2 = ap (λ (v : ℕ). v % 2) (let q : column f x ≡ column f x / 2 ^ 0 = omega arith in q) in
    let at : x + 2160 * 0 ≡ x = omega arith in
    s.first ∙ ap (λ (v : ℕ). v % 2) e ∙ one ∙ column_bit f b x 0 (omega arith) ∙ ap f at

module _ (coded v d input : List ℕ) (sp : Summed coded v d) where
  c : ℕ → ℕ
  c = bits_of coded

  pub third_read : StartsRight coded (get_or d 3 0) → NoSum d v d 3 6 3 16 → NoSum d v v 0 2 3 16 → Taken d d 3 6 6 90 input → Made 0 coded input
  unfolding c
  third_read s firsts thirds t =
      let h = sp.coded_is in
      let b = pair_bits coded h in
      let z : ℕ → ℕ = bit_at input in
      let none : bit_xor (c 0) (c 1) ≡ 0 = ap (λ (w : ℕ). bit_xor w (c 1)) s.same ∙ xor_self (c 1) in
      let behind = third_bits coded d input h sp.pairs t in
      let start : c 0 ≡ pair_of coded 3 = starts_at coded (pair_of coded) b 3 (get_or d 3 0) (sp.pairs.below 3 (omega arith)) s in
      let sums : (m : ℕ) → m + 1 < 5040 → bit_xor (bit_xor (pair_of coded (3 * m)) (c (3 * (m + 1)))) (pair_of coded (3 * (m + 2))) ≡ 0 = λ m l.
      let e : 3 * m + 3 ≡ 3 * (m + 1) = omega arith in
      let f : 3 * m + 6 ≡ 3 * (m + 2) = omega arith in
      sym (ap₂ (λ (j k : ℕ). bit_xor (bit_xor (pair_of coded (3 * m)) (c j)) (pair_of coded k)) e f)
      ∙ sums_three (pair_of coded) c (pair_of coded) b h.bits b d v d 2167 2168 2167 3 6 sp.pairs sp.columns sp.pairs (omega arith) (omega arith) (omega arith) firsts m (omega arith) in
      out.third_made c z
      (out.step_first c z 3 5040 none behind start sums)
      (out.step_second c z 3 5040 none behind start sums)
      (λ i l.
      let e : 3 * i + 0 ≡ 3 * i = omega arith in
      let sum = sums_three (pair_of coded) c c b h.bits h.bits d v v 2167 2168 2168 0 2 sp.pairs sp.columns sp.columns (omega arith) (omega arith) (omega arith) thirds i l in
      sym (ap (λ (k : ℕ). bit_xor (pair_of coded (3 * i)) (c k)) e ∙ ap (λ (w : ℕ). bit_xor w (c (3 * i))) (xor_comm (c (3 * i)) (c (3 * i + 1))) ∙ xor_cancel_r (c (3 * i + 1)) (c (3 * i)))
      ∙ same_xor (bit_xor (pair_of coded (3 * i)) (c (3 * i + 0))) (c (3 * i + 2)) sum)

  pub half_read : StartsRight coded (get_or d 2 0) → NoSum d v d 2 4 2 24 → Taken d d 2 4 4 135 input → Made 1 coded input
  unfolding c
  half_read s firsts t =
      let h = sp.coded_is in
      let b = pair_bits coded h in
      let z : ℕ → ℕ = bit_at input in
      let none : bit_xor (c 0) (c 1) ≡ 0 = ap (λ (w : ℕ). bit_xor w (c 1)) s.same ∙ xor_self (c 1) in
      let behind = half_bits coded d input h sp.pairs t in
      let start : c 0 ≡ pair_of coded 2 = starts_at coded (pair_of coded) b 2 (get_or d 2 0) (sp.pairs.below 2 (omega arith)) s in
      let sums : (m : ℕ) → m + 1 < 7560 → bit_xor (bit_xor (pair_of coded (2 * m)) (c (2 * (m + 1)))) (pair_of coded (2 * (m + 2))) ≡ 0 = λ m l.
      let e : 2 * m + 2 ≡ 2 * (m + 1) = omega arith in
      let f : 2 * m + 4 ≡ 2 * (m + 2) = omega arith in
      sym (ap₂ (λ (j k : ℕ). bit_xor (bit_xor (pair_of coded (2 * m)) (c j)) (pair_of coded k)) e f)
      ∙ sums_two (pair_of coded) c (pair_of coded) b h.bits b d v d 2167 2168 2167 2 4 sp.pairs sp.columns sp.pairs (omega arith) (omega arith) (omega arith) firsts m (omega arith) in
      out.half_made c z (out.step_first c z 2 7560 none behind start sums) (out.step_second c z 2 7560 none behind start sums)

  pub two_read : (e : List ℕ) → Held (column (five_of coded)) e 2164 → StartsRight coded (get_or e 0 0) → NoSum e v e 3 3 3 16 → Taken e d 0 3 3 180 input → Made 2 coded input
  unfolding c
  two_read e he s firsts t =
      let h = sp.coded_is in
      let b = five_bits coded h in
      let z : ℕ → ℕ = bit_at input in
      let none : bit_xor (c 0) (c 1) ≡ 0 = ap (λ (w : ℕ). bit_xor w (c 1)) s.same ∙ xor_self (c 1) in
      let odd = two_odd coded d input h sp.pairs e he t in
      let even = two_even coded d input h sp.pairs e he t in
      let start : c 0 ≡ z 0 = starts_at coded (five_of coded) b 0 (get_or e 0 0) (he.below 0 (omega arith)) s ∙ sym (even 0 (omega arith)) in
      let sums : (m : ℕ) → m + 1 < 5040 → bit_xor (bit_xor (z (2 * m)) (c (3 * (m + 1)))) (z (2 * (m + 1))) ≡ 0 = λ m l.
      let n : 3 * m + 3 ≡ 3 * (m + 1) = omega arith in
      ap₂ (λ (x y : ℕ). bit_xor (bit_xor x (c (3 * (m + 1)))) y) (even m (omega arith)) (even (m + 1) (omega arith))
      ∙ sym (ap (λ (j : ℕ). bit_xor (bit_xor (five_of coded (3 * m)) (c j)) (five_of coded j)) n)
      ∙ sums_three (five_of coded) c (five_of coded) b h.bits b e v e 2164 2168 2164 3 3 he sp.columns he (omega arith) (omega arith) (omega arith) firsts m (omega arith) in
      out.two_made c z (out.two_first_is c z none odd even start sums) (out.two_second_is c z none odd even start sums) (out.two_odd_is c z none odd even start sums)
