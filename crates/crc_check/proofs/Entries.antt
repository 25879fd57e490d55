-- The tables are right where a test passes, which antt computes: the first of them says what six bits make of a register of zeros, and each
-- further one is that before it, six zeros on.
use mathlib.Core.Path.{◌≡◌, refl, sym, ap, ◌∙◌}
use mathlib.Core.Bool.{Bool, true, false}
use mathlib.Core.List.{List, [], ◌∷◌}
use Prim.Native.Nat.{ℕ, zero, suc, ◌+◌, ◌*◌, ◌<◌}
use native.Mathlib.Omega.{arith}
use lib.Dec.{T, eqb, eqb→eq}
use lib.ListN.{length, get_or, drop}
use lib.Seq.{get_or-drop}
use Rattle.bits.specs.Basics.{both}
use Rattle.bits.proofs.Laws.Table.{both_left, both_right, all_below, below_all}
use Rattle.crc.specs.Inner.{advances}
use Rattle.crc.proofs.Laws.Bytes.{advances_on}
use Rattle.crc_steps.specs.Inner.{none, six_bits, change_of, Tables}

change_first : (n : ℕ) → six_bits n ≡ change_of 0 n
unfolding change_of advances
change_first n = refl

change_next : (k n : ℕ) → advances (change_of k n) none 6 ≡ change_of (suc k) n
unfolding change_of
change_next k n =
    let e : 6 * suc k ≡ 6 * k + 6 = omega arith in
    sym (ap (advances (six_bits n) none) e ∙ advances_on (six_bits n) none (6 * k) 6)

abbrev first : List ℕ → ℕ → Bool
first table n = eqb (get_or table n 0) (six_bits n)

-- each of the first n entries of ys is the one of xs at its place, six zeros on: one walk along both
abbrev pub follows : ℕ → List ℕ → List ℕ → Bool
follows zero xs ys = true
follows (suc n) [] ys = false
follows (suc n) (x ∷ xs) [] = false
follows (suc n) (x ∷ xs) (y ∷ ys) = both (eqb y (advances x none 6)) (follows n xs ys)

followed : (n : ℕ) (xs ys : List ℕ) → T (follows n xs ys) → (k : ℕ) → k < n → get_or ys k 0 ≡ advances (get_or xs k 0) none 6
followed zero xs ys t k h = absurd (omega arith)
followed (suc n) [] ys t k h = absurd t
followed (suc n) (x ∷ xs) [] t k h = absurd t
followed (suc n) (x ∷ xs) (y ∷ ys) t zero h = eqb→eq y (advances x none 6) (both_left (eqb y (advances x none 6)) (follows n xs ys) t)
followed (suc n) (x ∷ xs) (y ∷ ys) t (suc k) h =
    let l : k < n = omega arith in
    followed n xs ys (both_right (eqb y (advances x none 6)) (follows n xs ys) t) k l

pub tables_right : (table : List ℕ) → length table ≡ 704 → T (both (all_below 64 (first table)) (follows 640 table (drop 64 table))) → Tables table
tables_right table e t = record { size = e; entry = entry }
  where
    entry : (k n : ℕ) → k < 11 → n < 64 → get_or table (64 * k + n) 0 ≡ change_of k n
    entry zero n a b =
        let q : 64 * 0 + n ≡ n = omega arith in
        ap (λ (i : ℕ). get_or table i 0) q
        ∙ eqb→eq (get_or table n 0) (six_bits n) (below_all 64 (first table) (both_left (all_below 64 (first table)) (follows 640 table (drop 64 table)) t) n b)
        ∙ change_first n
    entry (suc k) n a b =
        let i : ℕ = 64 * k + n in
        let q : 64 * suc k + n ≡ 64 + i = omega arith in
        ap (λ (i : ℕ). get_or table i 0) q
        ∙ sym (get_or-drop 64 table i 0)
        ∙ followed 640 table (drop 64 table) (both_right (all_below 64 (first table)) (follows 640 table (drop 64 table)) t) i (omega arith)
        ∙ ap (λ (r : ℕ). advances r none 6) (entry k n (omega arith) b)
        ∙ change_next k n
