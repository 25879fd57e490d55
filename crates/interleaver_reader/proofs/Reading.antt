-- The word, seven bits at a time, into the order of the coded bits.
use mathlib.Core.Path.{◌≡◌, sym, ap, ap₂, ◌∙◌}
use mathlib.Core.List.{List}
use mathlib.Core.Logic.{⊎_elim}
use Prim.Native.Nat.{ℕ, ◌+◌, ◌-◌, ◌*◌, ◌/◌, ◌%◌, ◌^◌, ◌≤◌, ◌<◌}
use native.Mathlib.Omega.{arith}
use native.Mathlib.Nat.{mod-eq_of_lt, pow-suc, zero-div, add-mod-mod, mod-add-mod, add-mul-mod_self_right}
use lib.Bits.{bit_and, and_high}
use lib.Dec.{eqb, eqb→eq}
use lib.ListN.{length, get_or, replicate, length-replicate, get_or-replicate, get_or-eq_default}
use lib.Pow.{pow_pos}
use borrow.Author.Tests.{lt-ltb, le-ltb, eq-eqb, ne_eqb}
use Rattle.bits.proofs.Laws.Choice.{bit_cases, lt_or_le}
use Rattle.bits.proofs.Laws.Table.{below_all}
use Rattle.bits.specs.Pack.{Bits, bit_at}
use Rattle.bits.proofs.Laws.Pack.{bit_lt}
use Rattle.sizes.specs.Sizes.{word_bits, word_bytes}
use Rattle.interleaver.specs.Interleaver.{source_bit, output_place, deinterleave}
use Rattle.interleaver.proofs.Laws.Interleaver.{source_lt, output_source}
use Rattle.interleaver_columns.specs.Inner.{seven, column_of, back_row, start_in, up_in}
use Rattle.interleaver_reader.specs.Inner.{bit_back}
use Rattle.bits.specs.Inner.{Filled}
use Rattle.transpose.specs.Inner.{Transposed}
use Rattle.word_columns.specs.Inner.{turn_of, doubled_at, nine_of, Starts, picked_at, has_bit, split_at}
use Rattle.interleaver_columns.proofs.Numbers.{Masks, seven_digit, seven_lt, seven_turn, byte_same, column_lt, place_column}
use Rattle.interleaver_columns.proofs.Starts.{start_lt}
use Rattle.interleaver.proofs.Laws.Rows.{place_row}

-- ---- bits

-- one bit of x
one_bit : (x d : ℕ) → bit_and x (2 ^ d) ≡ x / 2 ^ d % 2 * 2 ^ d
one_bit x d =
    let e : 2 ^ (1 + d) ≡ 2 ^ d * 2 = ap (λ (k : ℕ). 2 ^ k) (omega arith) ∙ pow-suc 2 d in
    let m : 2 ^ (1 + d) - 2 ^ d ≡ 2 ^ d = omega arith in
    ap (bit_and x) (sym m) ∙ and_high x 1 d

-- so the mask of bit d tells it
has_bit_lem : (x d : ℕ) → has_bit x (2 ^ d) ≡ x / 2 ^ d % 2
unfolding has_bit
has_bit_lem x d =
    let p : 0 < 2 ^ d = pow_pos d in
    ⊎_elim
    (λ (q : x / 2 ^ d % 2 ≡ 0).
    let z : bit_and x (2 ^ d) ≡ 0 = one_bit x d ∙ ap (λ (v : ℕ). v * 2 ^ d) q ∙ omega arith in
    rw (eq-eqb (bit_and x (2 ^ d)) 0 z) (sym q))
    (λ (q : x / 2 ^ d % 2 ≡ 1).
    let z : bit_and x (2 ^ d) ≡ 1 * 2 ^ d = one_bit x d ∙ ap (λ (v : ℕ). v * 2 ^ d) q in
    rw (ne_eqb (bit_and x (2 ^ d)) 0 (λ e. omega arith)) (sym q))
    (bit_cases (x / 2 ^ d % 2) (omega arith))

-- a fresh array
pub fresh : (n k : ℕ) → ◌≡◌ {A = ℕ} (get_or {A = ℕ} (replicate {A = ℕ} n 0) k 0) 0
fresh n k =
    ⊎_elim
    (λ (h : k < n). get_or-replicate {A = ℕ} n k 0 0 h)
    (λ (h : n ≤ k). get_or-eq_default {A = ℕ} (replicate {A = ℕ} n 0) 0 (rw (length-replicate {A = ℕ} n 0) h))
    (lt_or_le k n)

two_rows : (x : ℕ) → x % 144 % 72 ≡ x % 72
two_rows x = omega arith

thirty_rows : (x : ℕ) → x % 2160 % 72 ≡ x % 72
thirty_rows x = omega arith

-- what is picked and split are the coded bits
pub starts_right : (at : List ℕ) → length at ≡ 72 → Filled start_in at 72 → Starts at
starts_right at size h = record { size = size; room = λ b l. rw (h b l) (start_lt b) }

pub given_bits : (v at seen mask coded : List ℕ) → Filled start_in at 72 → Masks up_in mask → Filled (picked_at v at) seen 2160
    → Filled (split_at seen mask) coded word_bits → Filled (bit_back v) coded word_bits
unfolding picked_at split_at bit_back
given_bits v at seen mask coded start m p s x h =
    let few : x / 2160 < 7 = omega arith in
    let low : x % 144 < 144 = omega arith in
    let y : ℕ = x % 144 in
    let i : ℕ = x / 2160 in
    let n : ℕ = x % 2160 / 72 in
    let col : y % 72 ≡ x % 72 = two_rows x in
    let b : x % 2160 % 72 ≡ x % 72 = thirty_rows x in
    let number : get_or seen (x % 2160) 0 ≡ get_or v (9 * n + start_in (x % 72)) 0 =
    p (x % 2160) (omega arith) ∙ ap (λ (k : ℕ). get_or v (9 * n + k) 0) (ap (λ (k : ℕ). get_or at k 0) b ∙ start (x % 72) (omega arith)) in
    let bit : get_or mask (144 * i + y) 0 ≡ 2 ^ ((i + up_in (x % 72)) % 7) = m.entry i y few low ∙ ap (λ (k : ℕ). 2 ^ ((i + up_in k) % 7)) col in
    s x h ∙ ap₂ has_bit number bit ∙ has_bit_lem (get_or v (9 * n + start_in (x % 72)) 0) ((i + up_in (x % 72)) % 7)

-- ---- all of them

-- 191 rows of the word are one of the coded bits: a test of all rows, which antt computes
one_row : (a : ℕ) → a < 210 → 792 * (191 * a % 210) % word_bits ≡ 72 * a
one_row a h = eqb→eq (792 * (191 * a % 210) % word_bits) (72 * a) (below_all 210 (λ a. eqb (792 * (191 * a % 210) % word_bits) (72 * a)) tt a h)

-- a number's bit i, turned by `up`, stands in row n + a + 30 i
turned_row : (n a i : ℕ) → (n + a % 30 + 30 * ((i + a / 30 % 7) % 7)) % 210 ≡ (n + a + 30 * i) % 210
turned_row n a i =
    let q : ℕ = a / 30 in
    let e : (i + q % 7) % 7 ≡ (i + q) % 7 = omega arith in
    let w : 30 * ((i + q) % 7) ≡ 30 * (i + q) % 210 = omega arith in
    let u : n + a % 30 + 30 * (i + q) ≡ n + a + 30 * i = omega arith in
    rw (e, w) (add-mod-mod (n + a % 30) (30 * (i + q)) 210 ∙ ap (λ (k : ℕ). k % 210) u)

row_bit_lem : (s c : ℕ) → c < 72 → (72 * s + c) % word_bits ≡ 72 * (s % 210) + c
row_bit_lem s c h = omega arith

-- it comes from bit x
from_bit : (x p : ℕ) → x < word_bits → p < word_bits → p % 72 ≡ x % 72 → (72 * ((x % 2160 / 72 + (210 - p / 72) + 30 * (x / 2160)) % 210) + p) % word_bits ≡ x
from_bit x p hx hp e =
    let s : ℕ = x % 2160 / 72 + (210 - p / 72) + 30 * (x / 2160) in
    let b : p ≡ 72 * (p / 72) + x % 72 = omega arith in
    let w : x ≡ 2160 * (x / 2160) + 72 * (x % 2160 / 72) + x % 72 = let z : x % 2160 % 72 ≡ x % 72 = omega arith in omega arith in
    let t : 72 * s + p ≡ x + 1 * word_bits = omega arith in
    let m : 72 * (s % 210) ≡ 72 * s % word_bits = omega arith in
    rw m (mod-add-mod (72 * s) word_bits p ∙ ap (λ (k : ℕ). k % word_bits) t ∙ add-mul-mod_self_right x 1 word_bits ∙ mod-eq_of_lt hx)

module _ (word ordered planes v : List ℕ)
    (rows : (k : ℕ) → k < word_bytes → get_or ordered k 0 ≡ get_or word (nine_of 191 k) 0) (none : (k : ℕ) → word_bytes ≤ k → get_or ordered k 0 ≡ 0)
    (turned : Transposed 270 ordered planes) (double : Filled (doubled_at planes) v 4320) where
  -- the bits of the word with its rows in the order of the coded bits
  g : ℕ → ℕ
  g = bit_at ordered

  bits : Bits g
  unfolding g
  bits = bit_lt ordered

  -- the planes have seven of them in a number
  plane : (d i : ℕ) → d < 8 → i < 270 → get_or planes (270 * d + i) 0 ≡ seven g (8 * i + (7 - d))
  unfolding g bit_at
  plane d i hd hi =
      let p : ℕ = 8 * i + (7 - d) in
      let low : seven g p < 128 = seven_lt g bits p in
      byte_same (get_or planes (270 * d + i) 0) (seven g p) (turned.small (270 * d + i)) (omega arith) (λ m hm.
      turned.cells d m i hd hm hi ∙ ⊎_elim
      (λ (h : m < 7).
      let at : (p + 2160 * m) % word_bits / 8 ≡ 270 * m + i = omega arith in
      let bit : 7 - (p + 2160 * m) % word_bits % 8 ≡ d = omega arith in
      sym (seven_digit g bits p m h ∙ ap₂ (λ (a b : ℕ). get_or ordered a 0 / 2 ^ b % 2) at bit))
      (λ (h : 7 ≤ m).
      let e : m ≡ 7 = omega arith in
      let z : get_or ordered (270 * m + i) 0 ≡ 0 = none (270 * m + i) (omega arith) in
      rw (z, e) (ap (λ (v : ℕ). v % 2) (zero-div (2 ^ d)) ∙ omega arith))
      (lt_or_le m 7))

  -- with their numbers turned after them
  doubled : (y : ℕ) → y < 4320 → get_or v y 0 ≡ seven g (8 * (y % 540) + (7 - y / 540))
  unfolding doubled_at
  doubled y h =
      let d : ℕ = y / 540 in
      let i : ℕ = y % 540 in
      double y h ∙ ⊎_elim
      (λ (l : i < 270). rw (lt-ltb i 270 l) (plane d i (omega arith) l))
      (λ (l : 270 ≤ i).
      let e : 8 * (i - 270) + (7 - d) + 2160 ≡ 8 * i + (7 - d) = omega arith in
      rw (le-ltb i 270 l) (ap turn_of (plane d (i - 270) (omega arith) (omega arith)) ∙ sym (seven_turn g bits (8 * (i - 270) + (7 - d))) ∙ ap (seven g) e))
      (lt_or_le i 270)

  -- bit c of row a is that of the word's row 191 a
  in_row : (a c : ℕ) → a < 210 → c < 72 → g (72 * a + c) ≡ bit_at word (72 * (191 * a % 210) + c)
  unfolding g bit_at
  in_row a c ha hc =
      let r : ℕ = 191 * a % 210 in
      let byte : (72 * a + c) / 8 ≡ 9 * a + c / 8 = omega arith in
      let bit : (72 * a + c) % 8 ≡ (72 * r + c) % 8 = omega arith in
      let row : (9 * a + c / 8) / 9 ≡ a = omega arith in
      let nine : (9 * a + c / 8) % 9 ≡ c / 8 = omega arith in
      let there : 9 * r + c / 8 ≡ (72 * r + c) / 8 = omega arith in
      ap₂ (λ (x y : ℕ). get_or ordered x 0 / 2 ^ (7 - y) % 2) byte bit
      ∙ ap (λ (x : ℕ). x / 2 ^ (7 - (72 * r + c) % 8) % 2) (rows (9 * a + c / 8) (omega arith) ∙ ap₂ (λ (x y : ℕ). get_or word (9 * (191 * x % 210) + y) 0) row nine ∙ ap (λ (x : ℕ). get_or word x 0) there)

  -- number n of column b
  picked : (b n : ℕ) → n < 30 → get_or v (9 * n + start_in b) 0 ≡ seven g (72 * (n + back_row b % 30) + column_of b)
  unfolding start_in
  picked b n h =
      let c : ℕ = column_of b in
      let low : c < 72 = column_lt b in
      let a : ℕ = back_row b % 30 in
      let y : ℕ = 9 * n + start_in b in
      let d : y / 540 ≡ 7 - c % 8 = omega arith in
      let i : y % 540 ≡ 9 * (n + a) + c / 8 = omega arith in
      let e : 8 * (9 * (n + a) + c / 8) + (7 - (7 - c % 8)) ≡ 72 * (n + a) + c = omega arith in
      doubled y (omega arith) ∙ ap₂ (λ (p q : ℕ). seven g (8 * p + (7 - q))) i d ∙ ap (seven g) e

  -- its bits are the coded bits
  pub coded_made : (x : ℕ) → x < word_bits → bit_back v x ≡ deinterleave (bit_at word) x
  unfolding bit_back up_in deinterleave
  coded_made x h =
      let b : ℕ = x % 72 in
      let c : ℕ = column_of b in
      let n : ℕ = x % 2160 / 72 in
      let i : ℕ = x / 2160 in
      let a : ℕ = back_row b in
      let s : ℕ = (n + a + 30 * i) % 210 in
      let low : c < 72 = column_lt b in
      let m : ℕ = (i + a / 30 % 7) % 7 in
      let at : 72 * (n + a % 30) + c + 2160 * m ≡ 72 * (n + a % 30 + 30 * m) + c = omega arith in
      let j : ℕ = 72 * (191 * s % 210) + c in
      let here : source_bit j ≡ x =
      place_row (191 * s % 210) c
      ∙ ap (λ (k : ℕ). (k + source_bit c) % word_bits) (one_row s (omega arith))
      ∙ from_bit x (source_bit c) h (source_lt c) (place_column b (omega arith)) in
      ap (λ (k : ℕ). k / 2 ^ m % 2) (picked b n (omega arith))
      ∙ seven_digit g bits (72 * (n + a % 30) + c) m (omega arith)
      ∙ ap (λ (k : ℕ). g (k % word_bits)) at
      ∙ ap g (row_bit_lem (n + a % 30 + 30 * m) c low ∙ ap (λ (k : ℕ). 72 * k + c) (turned_row n a i))
      ∙ in_row s c (omega arith) low
      ∙ ap (bit_at word) (sym (output_source j (omega arith)) ∙ ap output_place here)
