-- Columns: their bits, their sums, and those of the next row.
use mathlib.Core.Path.{◌≡◌, sym, ap, ◌∙◌}
use mathlib.Core.List.{List}
use mathlib.Core.Logic.{⊎_elim}
use Prim.Native.Nat.{ℕ, ◌+◌, ◌-◌, ◌*◌, ◌/◌, ◌^◌, ◌≤◌, ◌<◌}
use native.Mathlib.Omega.{arith}
use lib.Bits.{bit_xor}
use lib.ListN.{length, get_or, set, length-set, get_or-eq_default}
use Rattle.bits.proofs.Laws.Choice.{lt_or_le}
use Rattle.bits.proofs.Laws.Table.{fill}
use Rattle.bits.specs.Pack.{Bits, val}
use Rattle.bits.proofs.Laws.Pack.{val_same}
use Rattle.bits.proofs.Laws.Parts.{val_split, val_plus, none_val}
use Rattle.sizes.specs.Sizes.{word_bits}
use Rattle.convolution.specs.Inner.{Put}
use Rattle.word_columns.specs.Inner.{column, Coded}
use Rattle.decoder_columns.specs.Inner.{bits_of, Row, Held}

-- the bits of a column, from the last row's on
abbrev pub row_bit : (ℕ → ℕ) → ℕ → ℕ → ℕ
row_bit f x t = f (x + 2160 * (6 - t))

pub column_none : (f : ℕ → ℕ) → Bits f → (x : ℕ) → column f x ≡ 0 → (k : ℕ) → k < 7 → f (x + 2160 * k) ≡ 0
unfolding column
column_none f b x e k l =
    let r : 6 - (6 - k) ≡ k = omega arith in
    ap (λ (q : ℕ). f (x + 2160 * q)) (sym r) ∙ none_val (row_bit f x) (λ t. b (x + 2160 * (6 - t))) 7 e (6 - k) (omega arith)

pub column_same : (f g : ℕ → ℕ) (x y : ℕ) → ((k : ℕ) → k < 7 → f (x + 2160 * k) ≡ g (y + 2160 * k)) → column f x ≡ column g y
unfolding column
column_same f g x y h = val_same (row_bit f x) (row_bit g y) 7 (λ t l. h (6 - t) (omega arith))

-- sums, and places further on
pub column_plus : (f g : ℕ → ℕ) → Bits f → Bits g → (x : ℕ) → bit_xor (column f x) (column g x) ≡ column (λ j. bit_xor (f j) (g j)) x
unfolding column
column_plus f g hf hg x = sym (val_plus (row_bit f x) (row_bit g x) (λ t. hf (x + 2160 * (6 - t))) (λ t. hg (x + 2160 * (6 - t))) 7)

pub column_on : (f : ℕ → ℕ) (x p : ℕ) → column f (x + p) ≡ column (λ j. f (j + p)) x
column_on f x p = column_same f (λ j. f (j + p)) (x + p) x (λ k l. let e : x + p + 2160 * k ≡ x + 2160 * k + p = omega arith in ap f e)

-- where f is 0 after the last row, the next row's columns have one bit less
pub column_next : (f : ℕ → ℕ) → Bits f → ((j : ℕ) → word_bits ≤ j → f j ≡ 0) → (x : ℕ) → column f x / 2 ≡ column f (2160 + x)
unfolding column val
column_next f b past x =
    let g : ℕ → ℕ = row_bit f x in
    let h : ℕ → ℕ = row_bit f (2160 + x) in
    let first : h 0 ≡ 0 = past (2160 + x + 2160 * 6) (omega arith) in
    let rest : val (λ t. h (1 + t)) 6 ≡ val g 6 = val_same (λ t. h (1 + t)) g 6 (λ t l. let e : 2160 + x + 2160 * (6 - (1 + t)) ≡ x + 2160 * (6 - t) = omega arith in ap f e) in
    let last : g 6 < 2 = b (x + 2160 * (6 - 6)) in
    let half : (val g 6 * 2 + g 6) / 2 ≡ val g 6 = omega arith in
    let split : val h 7 ≡ val h 1 * 2 ^ 6 + val (λ t. h (1 + t)) 6 = val_split h 1 6 in
    half ∙ omega arith

-- coded bits after the end
pub coded_past : (coded : List ℕ) → Coded coded → (j : ℕ) → word_bits ≤ j → bits_of coded j ≡ 0
coded_past coded h j l = get_or-eq_default coded 0 (let e = h.size in omega arith)

-- ---- a row that is filled

pub held_none : (g : ℕ → ℕ) (xs : List ℕ) → Row xs → Held g xs 0
held_none g xs e = record { size = e; below = λ x l. absurd (omega arith) }

pub held_more : (g : ℕ → ℕ) (xs : List ℕ) (x v : ℕ) → x < 2168 → v ≡ g x → Held g xs x → Held g (set xs x v) (x + 1)
held_more g xs x v l e h =
    let n : length xs ≡ 2168 = h.size in
    record { size = length-set xs x v ∙ h.size; below = fill xs g x v (omega arith) e h.below }

-- all columns
pub held_next : (f : ℕ → ℕ) → Bits f → ((j : ℕ) → word_bits ≤ j → f j ≡ 0) → (xs ys : List ℕ) → Held (column f) xs 2160 → Put xs 2160 8 (λ e. get_or xs e 0 / 2) ys
    → Held (column f) ys 2168
held_next f b past xs ys h p =
    record {
      size = p.long ∙ h.size;
      below = λ x l. ⊎_elim
          (λ (u : x < 2160). p.earlier x u ∙ h.below x u)
          (λ (u : 2160 ≤ x).
          let e : ℕ = x - 2160 in
          let at : 2160 + e ≡ x = omega arith in
          ap (λ (i : ℕ). get_or ys i 0) (sym at) ∙ p.here e (omega arith)
          ∙ ap (λ (v : ℕ). v / 2) (h.below e (omega arith))
          ∙ column_next f b past e ∙ ap (column f) at)
          (lt_or_le x 2160);
    }
