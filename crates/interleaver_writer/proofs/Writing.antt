-- The coded bits, seven at a time, into the order of the word.
use mathlib.Core.Path.{◌≡◌, refl, sym, ap, ap₂, ◌∙◌}
use mathlib.Core.List.{List}
use mathlib.Core.Logic.{⊎_elim}
use Prim.Native.Nat.{ℕ, ◌+◌, ◌-◌, ◌*◌, ◌/◌, ◌%◌, ◌^◌, ◌≤◌, ◌<◌}
use native.Mathlib.Omega.{arith}
use native.Mathlib.Nat.{add-mul-mod_self_right}
use lib.ListN.{length, get_or}
use Rattle.bits.proofs.Laws.Choice.{lt_or_le, eq_or_ne}
use Rattle.bits.specs.Pack.{Bits, val, bytes_of}
use Rattle.bits.proofs.Laws.Pack.{val_same, val_bits, bytes_by_byte}
use Rattle.sizes.specs.Sizes.{word_bits, word_bytes}
use Rattle.interleaver.specs.Interleaver.{source_bit, interleave}
use Rattle.interleaver.proofs.Laws.Interleaver.{source_lt}
use Rattle.interleaver_columns.specs.Inner.{seven, up_out, number_out, column_at, from_out}
use Rattle.interleaver_writer.specs.Inner.{seen_out}
use Rattle.bits.specs.Inner.{Filled}
use Rattle.word_columns.specs.Inner.{turn_of, Turned, nine_of}
use Rattle.transpose.specs.Inner.{Transposed}
use Rattle.interleaver.proofs.Laws.Rows.{place_row}
use Rattle.interleaver_columns.proofs.Numbers.{seven_digit, seven_mod, seven_turn, out_place}

-- the second half is the first, turned
pub out_turned : (f : ℕ → ℕ) → Bits f → (before after : List ℕ) → Filled (number_out f) before 2160 → Turned 2160 2160 before after → Filled (number_out f) after 4320
unfolding number_out
out_turned f b before after h t k l =
    ⊎_elim
    (λ (q : k < 2160). t.earlier k q ∙ h k q)
    (λ (q : 2160 ≤ k).
    let x : ℕ = k - 2160 in
    let e : k ≡ 2160 + x = omega arith in
    let p : x + 2160 * (7 - up_out (x % 72)) + 2160 ≡ k + 2160 * (7 - up_out (x % 72)) = omega arith in
    let c : x % 72 ≡ k % 72 = omega arith in
    ap (λ (j : ℕ). get_or after j 0) e
    ∙ t.here x (omega arith)
    ∙ ap turn_of (h x (omega arith))
    ∙ sym (seven_turn f b (x + 2160 * (7 - up_out (x % 72))))
    ∙ ap (seven f) p
    ∙ ap (λ (j : ℕ). seven f (k + 2160 * (7 - up_out j))) c)
    (lt_or_le k 2160)

-- ---- a number of the planes

pub seen_made : (v : List ℕ) (m n k x : ℕ) → m < 8 → n < 30 → k < 9 → x ≡ from_out (9 * m + k) → get_or v (x + 72 * n) 0 ≡ seen_out v (270 * m + 9 * n + k)
unfolding from_out seen_out
seen_made v m n k x hm hn hk e =
    let plane : (270 * m + 9 * n + k) / 270 ≡ m = omega arith in
    let low : (270 * m + 9 * n + k) % 270 ≡ 9 * n + k = omega arith in
    let byte : (270 * m + 9 * n + k) % 9 ≡ k = let w : 270 * m + 9 * n + k ≡ k + 9 * (30 * m + n) = omega arith in rw w (omega arith) in
    let row : (9 * n + k) / 9 ≡ n = omega arith in
    let q : (9 * m + k) / 9 ≡ m = omega arith in
    let r : (9 * m + k) % 9 ≡ k = omega arith in
    rw (plane, low, byte, row) (ap (λ (j : ℕ). get_or v (j + 72 * n) 0) (e ∙ ap₂ (λ (a b : ℕ). source_bit (column_at b a) % 2160) r q))

-- ---- all of them

-- number y of the planes
unfoldable pub word_out : (ℕ → ℕ) → ℕ → ℕ
word_out f y = seven f (72 * (y % 270 / 9) + source_bit (column_at (y / 270) (y % 9)))

-- byte k of the word with its rows in the order of the coded bits
unfoldable pub put_in_order : (ℕ → ℕ) → ℕ → ℕ
put_in_order f k = val (λ t. f ((72 * (k / 9) + source_bit (8 * (k % 9) + t)) % word_bits)) 8

turned_back : (p n : ℕ) → p < word_bits → (p % 2160 + 72 * n + 2160 * (7 - (7 - p / 2160) % 7)) % word_bits ≡ (72 * n + p) % word_bits
turned_back p n h =
    ⊎_elim
    (λ (z : p / 2160 ≡ 0).
    let w : p % 2160 + 72 * n + 15120 ≡ 72 * n + p + 1 * word_bits = omega arith in
    rw (z, w) (add-mul-mod_self_right (72 * n + p) 1 word_bits))
    (λ (z : p / 2160 ≡ 0 → ⊥).
    let some : 1 ≤ p / 2160 = ⊎_elim (λ (w : p / 2160 < 1). absurd (z (omega arith))) (λ (w : 1 ≤ p / 2160). w) (lt_or_le (p / 2160) 1) in
    let e : 7 - (7 - p / 2160) % 7 ≡ p / 2160 = omega arith in
    let w : p % 2160 + 72 * n + 2160 * (p / 2160) ≡ 72 * n + p = omega arith in
    rw (e, w) refl)
    (eq_or_ne (p / 2160) 0)

-- 11 rows of the coded bits are 792 places
rows_order : (r p : ℕ) → (72 * (11 * r % 210) + p) % word_bits ≡ (792 * r % word_bits + p) % word_bits
rows_order r p = let e : 72 * (11 * r % 210) ≡ 792 * r % word_bits = omega arith in rw e refl

module _ (f : ℕ → ℕ) (bits : Bits f) where
  -- turned by the rows that their place is on, the numbers of a column are those of the word's
  pub gathered : (v seen : List ℕ) → Filled (number_out f) v 4320
      → Filled (seen_out v) seen 2160 → Filled (word_out f) seen 2160
  unfolding number_out word_out seen_out
  gathered v seen h g y l =
      let c : ℕ = column_at (y / 270) (y % 9) in
      let n : ℕ = y % 270 / 9 in
      let p : ℕ = source_bit c in
      let col : c < 72 = omega arith in
      let small : p < word_bits = source_lt c in
      let k : ℕ = p % 2160 + 72 * n in
      let b : k % 72 ≡ p % 72 = omega arith in
      let u : up_out (k % 72) ≡ (7 - p / 2160) % 7 = ap up_out b ∙ out_place c col in
      g y l
      ∙ h k (omega arith)
      ∙ ap (λ (j : ℕ). seven f (k + 2160 * (7 - j))) u
      ∙ seven_mod f (k + 2160 * (7 - (7 - p / 2160) % 7)) (72 * n + p) (turned_back p n small)

  -- with rows and bits changed they are the bytes of the word, its rows in the order of the coded bits
  pub in_order : (seen after : List ℕ) → Filled (word_out f) seen 2160 → Transposed 270 seen after → Filled (put_in_order f) after word_bytes
  unfolding word_out put_in_order
  in_order seen after h s k l =
      let m : ℕ = k / 270 in
      let i : ℕ = k % 270 in
      let w : k ≡ 270 * m + i = omega arith in
      let nine : i % 9 ≡ k % 9 = omega arith in
      let row : 30 * m + i / 9 ≡ k / 9 = omega arith in
      sym (val_bits (get_or after k 0) 8 (s.small k))
      ∙ val_same (λ t. get_or after k 0 / 2 ^ (8 - 1 - t) % 2) (λ t. f ((72 * (k / 9) + source_bit (8 * (k % 9) + t)) % word_bits)) 8 (λ t r.
      let d : ℕ = 8 - 1 - t in
      let y : ℕ = 270 * d + i in
      let low : y % 270 ≡ i = omega arith in
      let plane : y / 270 ≡ d = omega arith in
      let byte : y % 9 ≡ k % 9 = omega arith in
      let col : column_at (y / 270) (y % 9) ≡ 8 * (k % 9) + t = omega arith in
      let at : 72 * (i / 9) + source_bit (column_at (y / 270) (y % 9)) + 2160 * m ≡ 72 * (k / 9) + source_bit (column_at (y / 270) (y % 9)) = omega arith in
      ap (λ (j : ℕ). get_or after j 0 / 2 ^ d % 2) w
      ∙ s.cells m d i (omega arith) (omega arith) (omega arith)
      ∙ ap (λ (v : ℕ). v / 2 ^ m % 2) (h y (omega arith) ∙ ap (λ (j : ℕ). seven f (72 * (j / 9) + source_bit (column_at (y / 270) (y % 9)))) low)
      ∙ seven_digit f bits (72 * (i / 9) + source_bit (column_at (y / 270) (y % 9))) m (omega arith)
      ∙ ap (λ (v : ℕ). f (v % word_bits)) at
      ∙ ap (λ (c : ℕ). f ((72 * (k / 9) + source_bit c) % word_bits)) col)

  -- and with those rows in their order they are the word
  pub word_made : (after word : List ℕ) → length word ≡ word_bytes → Filled (put_in_order f) after word_bytes
      → ((k : ℕ) → k < word_bytes → get_or word k 0 ≡ get_or after (nine_of 11 k) 0) → word ≡ bytes_of word_bytes (interleave f)
  unfolding put_in_order interleave
  word_made after word size h g =
      bytes_by_byte word_bytes (interleave f) word size (λ k l.
      let r : ℕ = k / 9 in
      let a : ℕ = 11 * r % 210 in
      let row : nine_of 11 k / 9 ≡ a = omega arith in
      let byte : nine_of 11 k % 9 ≡ k % 9 = omega arith in
      g k l
      ∙ h (nine_of 11 k) (omega arith)
      ∙ val_same (λ t. f ((72 * (nine_of 11 k / 9) + source_bit (8 * (nine_of 11 k % 9) + t)) % word_bits)) (λ t. f (source_bit (8 * k + t))) 8 (λ t q.
      let c : ℕ = 8 * (k % 9) + t in
      let j : 72 * r + c ≡ 8 * k + t = omega arith in
      ap₂ (λ (x y : ℕ). f ((72 * x + source_bit (8 * y + t)) % word_bits)) row byte
      ∙ ap f (rows_order r (source_bit c) ∙ sym (place_row r c) ∙ ap source_bit j)))
