-- Pieces of one size, back to back: their bits, and one piece replaced.
use mathlib.Core.Path.{◌≡◌, sym, ap, ap₂, ◌∙◌}
use mathlib.Core.List.{List, ◌++◌}
use mathlib.Core.Logic.{⊎_elim}
use Prim.Native.Nat.{ℕ, ◌+◌, ◌-◌, ◌*◌, ◌/◌, ◌%◌, ◌^◌, ◌≤◌, ◌<◌}
use native.Mathlib.Omega.{arith}
use native.Mathlib.Nat.{mul_left_comm, mul-le-mul, le_refl}
use lib.ListN.{length, get_or, take, drop, take-append-drop, length-drop}
use lib.Seq.{get_or-take, get_or-drop, length-take-le, take-append-le, drop-append-le, take_at, drop_at}
use borrow.Rule.Slice.PartMut.{put_mid, post_of, take_put}
use Rattle.bits.proofs.Laws.Choice.{lt_or_le}
use Rattle.bits.specs.Pack.{bit_at, piece}

pub length_piece : (n : ℕ) (xs : List ℕ) (j : ℕ) → j * n + n ≤ length xs → length (piece n xs j) ≡ n
length_piece n xs j h = length-take-le n (drop (j * n) xs) (omega (arith, length-drop (j * n) xs))

pub piece_at : (n : ℕ) (xs : List ℕ) (j i : ℕ) → i < n → get_or (piece n xs j) i 0 ≡ get_or xs (j * n + i) 0
piece_at n xs j i l = get_or-take n (drop (j * n) xs) i 0 l ∙ get_or-drop (j * n) xs i 0

-- the bits of a piece are those of the whole from its start on
pub piece_bit : (n : ℕ) (xs : List ℕ) (j i : ℕ) → i < 8 * n → bit_at (piece n xs j) i ≡ bit_at xs (j * (8 * n) + i)
unfolding bit_at
piece_bit n xs j i l =
    let inside : i / 8 < n = omega arith in
    let d : j * n + i / 8 ≡ (j * (8 * n) + i) / 8 = omega (arith, mul_left_comm j 8 n) in
    let m : i % 8 ≡ (j * (8 * n) + i) % 8 = omega (arith, mul_left_comm j 8 n) in
    ap (λ (v : ℕ). v / 2 ^ (7 - i % 8) % 2) (piece_at n xs j (i / 8) inside)
    ∙ ap₂ (λ (a b : ℕ). get_or xs a 0 / 2 ^ (7 - b) % 2) d m

-- ---- a piece that is put in place

pub piece_put : (n j k : ℕ) (xs ys : List ℕ) → j * n ≤ length xs → length ys ≡ n → piece n (put_mid (j * n) k xs ys) j ≡ ys
piece_put n j k xs ys l e =
    ap (take n) (drop_at (take (j * n) xs) (ys ++ post_of (j * n) k xs) (j * n) (length-take-le (j * n) xs l)) ∙ take_at ys (post_of (j * n) k xs) n e

-- a piece in front depends on the front alone
front : (n i m : ℕ) (xs : List ℕ) → i * n + n ≤ m → m ≤ length xs → piece n (take m xs) i ≡ piece n xs i
front n i m xs l h =
    let t : length (take m xs) ≡ m = length-take-le m xs h in
    let inside : n ≤ length (drop (i * n) (take m xs)) = omega (arith, length-drop (i * n) (take m xs)) in
    sym (take-append-le n (drop (i * n) (take m xs)) (drop m xs) inside)
    ∙ ap (take n) (sym (drop-append-le (i * n) (take m xs) (drop m xs) (omega arith)) ∙ ap (drop (i * n)) (take-append-drop m xs))

pub piece_before : (n i j k : ℕ) (xs ys : List ℕ) → i < j → j * n ≤ length xs → length (put_mid (j * n) k xs ys) ≡ length xs → piece n (put_mid (j * n) k xs ys) i ≡ piece n xs i
piece_before n i j k xs ys l m e =
    let b : i * n + n ≤ j * n = (let q : i + 1 ≤ j = omega arith in omega (arith, mul-le-mul q (le_refl n))) in
    sym (front n i (j * n) (put_mid (j * n) k xs ys) b (omega arith))
    ∙ ap (λ (zs : List ℕ). piece n zs i) (take_put (j * n) k xs ys m)
    ∙ front n i (j * n) xs b m

-- a loop that fills piece after piece: one more
pub pieces_more : (n j k : ℕ) (F : ℕ → List ℕ) (xs ys : List ℕ) → j * n ≤ length xs → length ys ≡ n → length (put_mid (j * n) k xs ys) ≡ length xs
    → ((i : ℕ) → i < j → piece n xs i ≡ F i) → ys ≡ F j → (i : ℕ) → i < j + 1 → piece n (put_mid (j * n) k xs ys) i ≡ F i
pieces_more n j k F xs ys m e long before here i l =
    ⊎_elim
    (λ (q : i < j). piece_before n i j k xs ys q m long ∙ before i q)
    (λ (q : j ≤ i).
    let d : i ≡ j = omega arith in
    ap (piece n (put_mid (j * n) k xs ys)) d ∙ piece_put n j k xs ys m e ∙ here ∙ ap F (sym d))
    (lt_or_le i j)
