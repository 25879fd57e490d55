-- A header in plain arithmetic of its bytes. A field that lies in one byte is what a division and a remainder leave of it, and one that lies in several is put
-- together of such parts; spare bits are zero together exactly if they are in each byte.
use mathlib.Core.Path.{◌≡◌, refl, ap, ap₂, ◌∙◌}
use mathlib.Core.Bool.{Bool, true, false, ◌||◌}
use mathlib.Core.List.{List}
use mathlib.Core.Logic.{◌⊎◌, inl, inr, ⊎_elim}
use Prim.Native.Nat.{ℕ, ◌+◌, ◌-◌, ◌*◌, ◌/◌, ◌%◌, ◌^◌, ◌≤◌, ◌<◌}
use native.Mathlib.Omega.{arith}
use lib.Dec.{eqb}
use lib.ListN.{get_or}
use borrow.Author.Tests.{eqb-true, eq-eqb, ne_eqb}
use Rattle.bits.specs.Basics.{both}
use Rattle.bits.specs.Pack.{val, bit_at}
use Rattle.bits.proofs.Laws.Choice.{lt_or_le}
use Rattle.bits.proofs.Laws.Pack.{val_same}
use Rattle.bits.proofs.Laws.Parts.{val_split}
use Rattle.bits.proofs.Laws.Field.{cut_out}
use Rattle.header.specs.Header.{field, fields_of, spare_of, old_spare_of}
use Rattle.header.proofs.Laws.Form.{fields_same}
use Rattle.header_questions.specs.Questions.{copies_good}
use Rattle.promises_headers.specs.Card6.{byte, fields_from, ten_end, eight_end, one_of_seven}

-- n bits of byte i, from its bit r on
part : (header : List ℕ) (at i r n : ℕ) → at ≡ 8 * i + r → r + n ≤ 8 → field header at n ≡ byte header i / 2 ^ (8 - n - r) % 2 ^ n
unfolding field bit_at
part header at i r n e l =
    val_same (λ t. bit_at header (at + t)) (λ t. byte header i / 2 ^ (8 - 1 - (r + t)) % 2) n (λ t k.
    ap₂ (λ (x y : ℕ). get_or header x 0 / 2 ^ y % 2) (omega arith) (omega arith))
    ∙ cut_out (byte header i) 8 r n l

-- a bits, and the n after them
joined : (header : List ℕ) (at a n : ℕ) → field header at (a + n) ≡ field header at a * 2 ^ n + field header (at + a) n
unfolding field
joined header at a n =
    val_split (λ t. bit_at header (at + t)) a n
    ∙ ap (λ (v : ℕ). val (λ t. bit_at header (at + t)) a * 2 ^ n + v)
    (val_same (λ t. bit_at header (at + (a + t))) (λ t. bit_at header (at + a + t)) n (λ t l. ap (bit_at header) (omega arith)))

module _ (header : List ℕ) (bytes : (i : ℕ) → byte header i < 256) where
  pub fields_in : fields_of header ≡ fields_from header
  unfolding fields_of
  fields_in =
      fields_same (fields_of header) (fields_from header)
      (let e = part header 0 0 0 2 (omega arith) (omega arith) in let b = bytes 0 in omega arith)
      (let e = part header 2 0 2 4 (omega arith) (omega arith) in omega arith)
      (let j = joined header 6 2 6 in
      let e = part header 6 0 6 2 (omega arith) (omega arith) in
      let d = part header 8 1 0 6 (omega arith) (omega arith) in
      let b = bytes 1 in omega arith)
      (let j = joined header 14 2 7 in
      let e = part header 14 1 6 2 (omega arith) (omega arith) in
      let d = part header 16 2 0 7 (omega arith) (omega arith) in
      let b = bytes 2 in omega arith)
      (let j = joined header 23 1 11 in
      let i = joined header 24 8 3 in
      let e = part header 23 2 7 1 (omega arith) (omega arith) in
      let d = part header 24 3 0 8 (omega arith) (omega arith) in
      let c = part header 32 4 0 3 (omega arith) (omega arith) in
      let b = bytes 3 in let a = bytes 4 in omega arith)
      (let j = joined header 35 5 1 in
      let e = part header 35 4 3 5 (omega arith) (omega arith) in
      let d = part header 40 5 0 1 (omega arith) (omega arith) in
      let b = bytes 5 in omega arith)
      (let e = part header 41 5 1 7 (omega arith) (omega arith) in omega arith)
      (let e = part header 48 6 0 6 (omega arith) (omega arith) in let b = bytes 6 in omega arith)

  -- ---- the spare bits

  whole : (at i : ℕ) → at ≡ 8 * i → field header at 8 ≡ byte header i
  whole at i l = let e = part header at i 0 8 (omega arith) (omega arith) in let b = bytes i in omega arith

  pub ten_end_is : eqb (spare_of header) 0 ≡ ten_end header
  unfolding spare_of
  ten_end_is =
      let low : field header 54 2 ≡ byte header 6 % 4 = let e = part header 54 6 6 2 (omega arith) (omega arith) in omega arith in
      let i = joined header 54 2 24 in
      let j = joined header 56 8 16 in
      let k = joined header 64 8 8 in
      four (byte header 6 % 4) (byte header 7) (byte header 8) (byte header 9) (spare_of header)
      (omega (arith, low, i, j, k, whole 56 7 (omega arith), whole 64 8 (omega arith), whole 72 9 (omega arith)))
    where
      four : (a b c d s : ℕ) → s ≡ a * 16777216 + b * 65536 + c * 256 + d → eqb s 0 ≡ both (eqb a 0) (both (eqb b 0) (both (eqb c 0) (eqb d 0)))
      four a b c d s e =
          ⊎_elim
          (λ (la : a < 1). ⊎_elim
          (λ (lb : b < 1). ⊎_elim
          (λ (lc : c < 1). ⊎_elim
          (λ (ld : d < 1). rw (eq-eqb a 0 (omega arith), eq-eqb b 0 (omega arith), eq-eqb c 0 (omega arith), eq-eqb d 0 (omega arith)) (eq-eqb s 0 (omega arith)))
          (λ (ld : 1 ≤ d). rw (eq-eqb a 0 (omega arith), eq-eqb b 0 (omega arith), eq-eqb c 0 (omega arith), ne_eqb d 0 (λ z. omega arith)) (ne_eqb s 0 (λ z. omega arith)))
          (lt_or_le d 1))
          (λ (lc : 1 ≤ c). rw (eq-eqb a 0 (omega arith), eq-eqb b 0 (omega arith), ne_eqb c 0 (λ z. omega arith)) (ne_eqb s 0 (λ z. omega arith)))
          (lt_or_le c 1))
          (λ (lb : 1 ≤ b). rw (eq-eqb a 0 (omega arith), ne_eqb b 0 (λ z. omega arith)) (ne_eqb s 0 (λ z. omega arith)))
          (lt_or_le b 1))
          (λ (la : 1 ≤ a). rw (ne_eqb a 0 (λ z. omega arith)) (ne_eqb s 0 (λ z. omega arith)))
          (lt_or_le a 1)

  pub eight_end_is : eqb (old_spare_of header) 0 ≡ eight_end header
  unfolding old_spare_of
  eight_end_is =
      two (byte header 6) (byte header 7) (old_spare_of header)
      (omega (arith, joined header 48 8 8, whole 48 6 (omega arith), whole 56 7 (omega arith)))
    where
      two : (a b s : ℕ) → s ≡ a * 256 + b → eqb s 0 ≡ both (eqb a 0) (eqb b 0)
      two a b s e =
          ⊎_elim
          (λ (la : a < 1). ⊎_elim
          (λ (lb : b < 1). rw (eq-eqb a 0 (omega arith), eq-eqb b 0 (omega arith)) (eq-eqb s 0 (omega arith)))
          (λ (lb : 1 ≤ b). rw (eq-eqb a 0 (omega arith), ne_eqb b 0 (λ z. omega arith)) (ne_eqb s 0 (λ z. omega arith)))
          (lt_or_le b 1))
          (λ (la : 1 ≤ a). rw (ne_eqb a 0 (λ z. omega arith)) (ne_eqb s 0 (λ z. omega arith)))
          (lt_or_le a 1)

-- ---- the factor

pub factor_is : (k : ℕ) → copies_good k ≡ one_of_seven k
unfolding copies_good
factor_is k = row (eqb k 1) (eqb k 2) (eqb k 3) (eqb k 4) (eqb k 8) (eqb k 16) (eqb k 32)
  where
    row : (a b c d e f g : Bool) → a || (b || (c || (d || (e || (f || (g || false)))))) ≡ a || b || c || d || e || f || g
    row true b c d e f g = refl
    row false true c d e f g = refl
    row false false true d e f g = refl
    row false false false true e f g = refl
    row false false false false true f g = refl
    row false false false false false true g = refl
    row false false false false false false true = refl
    row false false false false false false false = refl

abbrev Seven : ℕ → Type 0
Seven k = (k ≡ 1) ⊎ (k ≡ 2) ⊎ (k ≡ 3) ⊎ (k ≡ 4) ⊎ (k ≡ 8) ⊎ (k ≡ 16) ⊎ (k ≡ 32)

pub factor_seven : (k : ℕ) → one_of_seven k ≡ true → Seven k
factor_seven k e = by (eqb k 1) (eqb k 2) (eqb k 3) (eqb k 4) (eqb k 8) (eqb k 16) e (eqb-true k 1) (eqb-true k 2) (eqb-true k 3) (eqb-true k 4) (eqb-true k 8) (eqb-true k 16) (eqb-true k 32)
  where
    by : (a b c d f g : Bool) → a || b || c || d || f || g || eqb k 32 ≡ true
        → (a ≡ true → k ≡ 1) → (b ≡ true → k ≡ 2) → (c ≡ true → k ≡ 3) → (d ≡ true → k ≡ 4) → (f ≡ true → k ≡ 8) → (g ≡ true → k ≡ 16) → (eqb k 32 ≡ true → k ≡ 32) → Seven k
    by true b c d f g e e1 e2 e3 e4 e8 e16 e32 = inl (e1 refl)
    by false true c d f g e e1 e2 e3 e4 e8 e16 e32 = inr (inl (e2 refl))
    by false false true d f g e e1 e2 e3 e4 e8 e16 e32 = inr (inr (inl (e3 refl)))
    by false false false true f g e e1 e2 e3 e4 e8 e16 e32 = inr (inr (inr (inl (e4 refl))))
    by false false false false true g e e1 e2 e3 e4 e8 e16 e32 = inr (inr (inr (inr (inl (e8 refl)))))
    by false false false false false true e e1 e2 e3 e4 e8 e16 e32 = inr (inr (inr (inr (inr (inl (e16 refl))))))
    by false false false false false false e e1 e2 e3 e4 e8 e16 e32 = inr (inr (inr (inr (inr (inr (e32 e))))))

pub seven_factor : (k : ℕ) → Seven k → one_of_seven k ≡ true
seven_factor k =
    ⊎_elim (λ (e : k ≡ 1). rw e refl)
    (⊎_elim (λ (e : k ≡ 2). rw e refl)
    (⊎_elim (λ (e : k ≡ 3). rw e refl)
    (⊎_elim (λ (e : k ≡ 4). rw e refl)
    (⊎_elim (λ (e : k ≡ 8). rw e refl)
    (⊎_elim (λ (e : k ≡ 16). rw e refl)
    (λ (e : k ≡ 32). rw e refl))))))
