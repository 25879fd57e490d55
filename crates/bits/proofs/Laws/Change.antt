-- One bit turned over.
use mathlib.Core.Path.{◌≡◌, refl, sym, ap, ap₂, ◌∙◌}
use mathlib.Core.List.{List}
use mathlib.Core.Logic.{⊎_elim}
use Prim.Native.Nat.{ℕ, ◌-◌, ◌*◌, ◌/◌, ◌%◌, ◌^◌, ◌<◌}
use native.Mathlib.Omega.{arith}
use lib.Bits.{bit_xor, xor_zero_r}
use lib.Dec.{eqb, eqb→eq}
use lib.ListN.{length, get_or, length-set}
use lib.Seq.{get_or-set_same, get_or-set_other}
use borrow.Author.Tests.{eq-eqb, ne_eqb}
use Rattle.bits.specs.Basics.{bool}
use Rattle.bits.proofs.Laws.Choice.{eq_or_ne}
use Rattle.bits.proofs.Laws.Sum.{xor_digit}
use Rattle.bits.proofs.Laws.Table.{all_below, below_all}
use Rattle.bits.specs.Pack.{bit_at, flip_bit}

pub length_flip : (xs : List ℕ) (x : ℕ) → length (flip_bit xs x) ≡ length xs
unfolding flip_bit
length_flip xs x = length-set xs (x / 8) (bit_xor (get_or xs (x / 8) 0) (128 / 2 ^ (x % 8)))

-- the byte 128 shifted down has one bit: a test of all 64 cases, which antt computes
one_bit : (r s : ℕ) → r < 8 → s < 8 → 128 / 2 ^ r / 2 ^ (7 - s) % 2 ≡ bool (eqb s r)
one_bit r s hr hs =
    eqb→eq (128 / 2 ^ r / 2 ^ (7 - s) % 2) (bool (eqb s r))
    (below_all 8 (λ s. eqb (128 / 2 ^ r / 2 ^ (7 - s) % 2) (bool (eqb s r)))
    (below_all 8 (λ r. all_below 8 (λ s. eqb (128 / 2 ^ r / 2 ^ (7 - s) % 2) (bool (eqb s r)))) tt r hr) s hs)

pub flip_bit_lem : (xs : List ℕ) (x y : ℕ) → x < 8 * length xs → bit_at (flip_bit xs x) y ≡ bit_xor (bit_at xs y) (bool (eqb y x))
unfolding bit_at flip_bit
flip_bit_lem xs x y h =
    let b : ℕ = get_or xs (x / 8) 0 in
    let v : ℕ = bit_xor b (128 / 2 ^ (x % 8)) in
    ⊎_elim
    (λ (e : y / 8 ≡ x / 8).
    ap (λ (i : ℕ). get_or (flip_bit xs x) i 0 / 2 ^ (7 - y % 8) % 2) e
    ∙ ap (λ (w : ℕ). w / 2 ^ (7 - y % 8) % 2) (get_or-set_same xs (x / 8) v 0 (omega arith))
    ∙ xor_digit b (128 / 2 ^ (x % 8)) (7 - y % 8)
    ∙ ap₂ (λ (i w : ℕ). bit_xor (get_or xs i 0 / 2 ^ (7 - y % 8) % 2) w) (sym e) (one_bit (x % 8) (y % 8) (omega arith) (omega arith) ∙ same e))
    (λ (e : y / 8 ≡ x / 8 → ⊥).
    let n : y ≡ x → ⊥ = λ q. e (omega arith) in
    ap (λ (w : ℕ). w / 2 ^ (7 - y % 8) % 2) (get_or-set_other xs (x / 8) (y / 8) v 0 e)
    ∙ sym (ap (λ t. bit_xor (get_or xs (y / 8) 0 / 2 ^ (7 - y % 8) % 2) (bool t)) (ne_eqb y x n) ∙ xor_zero_r (get_or xs (y / 8) 0 / 2 ^ (7 - y % 8) % 2)))
    (eq_or_ne (y / 8) (x / 8))
  where
    same : y / 8 ≡ x / 8 → bool (eqb (y % 8) (x % 8)) ≡ bool (eqb y x)
    same e =
        ⊎_elim
        (λ (q : y ≡ x). let r : y % 8 ≡ x % 8 = omega arith in rw (eq-eqb y x q, eq-eqb (y % 8) (x % 8) r) refl)
        (λ (q : y ≡ x → ⊥). let r : y % 8 ≡ x % 8 → ⊥ = λ z. q (omega arith) in rw (ne_eqb y x q, ne_eqb (y % 8) (x % 8) r) refl)
        (eq_or_ne y x)
