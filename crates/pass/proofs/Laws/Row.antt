-- Pieces of one size back to back: each stands in its place, and a list that has them in their places is the row of them.
use mathlib.Core.Path.{◌≡◌, sym, ap, ◌∙◌}
use mathlib.Core.List.{List, ◌++◌}
use mathlib.Core.Logic.{⊎_elim}
use Prim.Native.Nat.{ℕ, zero, suc, ◌+◌, ◌-◌, ◌*◌, ◌/◌, ◌%◌, ◌≤◌, ◌<◌}
use native.Mathlib.Omega.{arith}
use native.Mathlib.Nat.{mul-le-mul, le_refl, div-add-mod', mod-lt, div-lt_iff_lt-mul, mul-div_cancel}
use lib.ListN.{length, get_or, take, drop, length-append, length-take, length-drop, get_or-eq_default, get_or-append}
use lib.Seq.{get_or-append-add, take_all, take-append-le, drop-append-le, drop_at, ext_get_or}
use Rattle.bits.proofs.Laws.Choice.{lt_or_le}
use Rattle.bits.specs.Pack.{Bytes, piece}
use Rattle.bits.proofs.Laws.Pieces.{piece_at}
use Rattle.pass.specs.Pass.{in_row}

-- piece j of n lies in their bytes
pub inside : (n size j : ℕ) → j < n → j * size + size ≤ n * size
inside n size j l = let k : j + 1 ≤ n = omega arith in omega (arith, mul-le-mul k (le_refl size))

-- as many as their bytes hold
pub whole : (n size : ℕ) → 0 < size → n * size / size ≡ n
whole n size pos = mul-div_cancel n pos

module _ (size : ℕ) (F : ℕ → List ℕ) where
  pub row_length : (n : ℕ) → ((j : ℕ) → j < n → length (F j) ≡ size) → length (in_row n F) ≡ n * size
  unfolding in_row
  row_length zero sizes = omega arith
  row_length (suc n) sizes =
      length-append (in_row n F) (F n) ∙ omega (arith, row_length n (λ j l. sizes j (omega arith)), sizes n (omega arith))

  pub row_piece : (n : ℕ) → ((j : ℕ) → j < n → length (F j) ≡ size) → (j : ℕ) → j < n → piece size (in_row n F) j ≡ F j
  unfolding in_row
  row_piece zero sizes j l = absurd (omega arith)
  row_piece (suc n) sizes j l =
      let before : (j : ℕ) → j < n → length (F j) ≡ size = λ j l. sizes j (omega arith) in
      let long : length (in_row n F) ≡ n * size = row_length n before in
      ⊎_elim
      (λ (u : j < n).
      let fits : j * size + size ≤ n * size = inside n size j u in
      ap (take size) (drop-append-le (j * size) (in_row n F) (F n) (omega arith))
      ∙ take-append-le size (drop (j * size) (in_row n F)) (F n) (omega (arith, length-drop (j * size) (in_row n F)))
      ∙ row_piece n before j u)
      (λ (u : n ≤ j).
      let e : j ≡ n = omega arith in
      ap (piece size (in_row n F ++ F n)) e
      ∙ ap (take size) (drop_at (in_row n F) (F n) (n * size) long)
      ∙ take_all size (F n) (omega (arith, sizes n (omega arith)))
      ∙ ap F (sym e))
      (lt_or_le j n)

  pub row_made : (n : ℕ) → 0 < size → ((j : ℕ) → j < n → length (F j) ≡ size) → (xs : List ℕ) → length xs ≡ n * size → ((j : ℕ) → j < n → piece size xs j ≡ F j) → xs ≡ in_row n F
  row_made n pos sizes xs e h =
      ext_get_or 0 xs (in_row n F) (e ∙ sym (row_length n sizes)) (λ i l.
      let j : ℕ = i / size in
      let r : ℕ = i % size in
      let rl : r < size = mod-lt i pos in
      let jl : j < n = (div-lt_iff_lt-mul pos).1 (let k : i < n * size = omega arith in k) in
      let at : j * size + r ≡ i = div-add-mod' i size in
      ap (λ (k : ℕ). get_or xs k 0) (sym at)
      ∙ sym (piece_at size xs j r rl)
      ∙ ap (λ (p : List ℕ). get_or p r 0) (h j jl ∙ sym (row_piece n sizes j jl))
      ∙ piece_at size (in_row n F) j r rl
      ∙ ap (λ (k : ℕ). get_or (in_row n F) k 0) at)

-- a row of bytes, and a piece of bytes
pub bytes_row : (F : ℕ → List ℕ) → ((j : ℕ) → Bytes (F j)) → (n : ℕ) → Bytes (in_row n F)
unfolding in_row
bytes_row F each zero i = omega arith
bytes_row F each (suc n) i =
    let m : ℕ = length (in_row n F) in
    ⊎_elim
    (λ (l : i < m). rw (get_or-append (in_row n F) (F n) 0 i l) (bytes_row F each n i))
    (λ (l : m ≤ i).
    let e : m + (i - m) ≡ i = omega arith in
    rw (← e, get_or-append-add (in_row n F) (F n) (i - m) 0) (each n (i - m)))
    (lt_or_le i m)

pub bytes_piece : (size : ℕ) (xs : List ℕ) (j : ℕ) → Bytes xs → Bytes (piece size xs j)
bytes_piece size xs j b i =
    ⊎_elim
    (λ (l : i < size). rw (piece_at size xs j i l) (b (j * size + i)))
    (λ (l : size ≤ i).
    let short : length (piece size xs j) ≤ i = omega (arith, length-take size (drop (j * size) xs)) in
    rw (get_or-eq_default (piece size xs j) 0 short) (omega arith))
    (lt_or_le i size)
