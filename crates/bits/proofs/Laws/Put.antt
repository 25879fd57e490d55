-- One bit set: that bit, and the others.
use mathlib.Core.Path.{◌≡◌, refl, sym, ap, ◌∙◌}
use mathlib.Core.List.{List}
use mathlib.Core.Logic.{⊎_elim}
use Prim.Native.Nat.{ℕ, ◌-◌, ◌*◌, ◌/◌, ◌%◌, ◌^◌, ◌<◌}
use native.Mathlib.Omega.{arith}
use lib.Bits.{bit_or, or_shr, or_mod, or_zero_r}
use lib.Dec.{eqb, eqb→eq}
use lib.ListN.{length, get_or}
use lib.Seq.{get_or-set_same, get_or-set_other}
use borrow.Author.Tests.{eq-eqb, ne_eqb}
use Rattle.bits.specs.Basics.{bool}
use Rattle.bits.proofs.Laws.Choice.{eq_or_ne, bit_cases}
use Rattle.bits.proofs.Laws.Table.{all_below, below_all}
use Rattle.bits.specs.Pack.{bit_at}
use Rattle.bits.specs.Inner.{with_bit, put_bit}

-- the byte 128 shifted down has one bit: a test of all 64 cases, which antt computes
one_bit : (r s : ℕ) → r < 8 → s < 8 → 128 / 2 ^ r / 2 ^ (7 - s) % 2 ≡ bool (eqb r s)
one_bit r s hr hs =
    eqb→eq (128 / 2 ^ r / 2 ^ (7 - s) % 2) (bool (eqb r s))
    (below_all 8 (λ s. eqb (128 / 2 ^ r / 2 ^ (7 - s) % 2) (bool (eqb r s)))
    (below_all 8 (λ r. all_below 8 (λ s. eqb (128 / 2 ^ r / 2 ^ (7 - s) % 2) (bool (eqb r s)))) tt r hr) s hs)

with_bit_lem : (b r s : ℕ) → r < 8 → s < 8 → with_bit b r / 2 ^ (7 - s) % 2 ≡ bit_or (b / 2 ^ (7 - s) % 2) (bool (eqb r s))
unfolding with_bit
with_bit_lem b r s hr hs =
    ap (λ (v : ℕ). v % 2) (or_shr b (128 / 2 ^ r) (7 - s))
    ∙ or_mod (b / 2 ^ (7 - s)) (128 / 2 ^ r / 2 ^ (7 - s)) 1
    ∙ ap (λ (v : ℕ). bit_or (b / 2 ^ (7 - s) % 2) v) (one_bit r s hr hs)

or_one : (b : ℕ) → b < 2 → bit_or b 1 ≡ 1
or_one b h = ⊎_elim (λ (e : b ≡ 0). rw e refl) (λ (e : b ≡ 1). rw e refl) (bit_cases b h)

pub put_same : (xs : List ℕ) (x : ℕ) → x < 8 * length xs → bit_at (put_bit xs x) x ≡ 1
unfolding bit_at
put_same xs x h =
    let b : ℕ = get_or xs (x / 8) 0 in
    ap (λ (v : ℕ). v / 2 ^ (7 - x % 8) % 2) (get_or-set_same xs (x / 8) (with_bit b (x % 8)) 0 (omega arith))
    ∙ with_bit_lem b (x % 8) (x % 8) (omega arith) (omega arith)
    ∙ ap (λ t. bit_or (b / 2 ^ (7 - x % 8) % 2) (bool t)) (eq-eqb (x % 8) (x % 8) refl)
    ∙ or_one (b / 2 ^ (7 - x % 8) % 2) (omega arith)

pub put_other : (xs : List ℕ) (x y : ℕ) → x < 8 * length xs → (y ≡ x → ⊥) → bit_at (put_bit xs x) y ≡ bit_at xs y
unfolding bit_at
put_other xs x y h n =
    let b : ℕ = get_or xs (x / 8) 0 in
    ⊎_elim
    (λ (e : x / 8 ≡ y / 8).
    let d : x % 8 ≡ y % 8 → ⊥ = λ q. n (omega arith) in
    ap (λ (i : ℕ). get_or (put_bit xs x) i 0 / 2 ^ (7 - y % 8) % 2) (sym e)
    ∙ ap (λ (v : ℕ). v / 2 ^ (7 - y % 8) % 2) (get_or-set_same xs (x / 8) (with_bit b (x % 8)) 0 (omega arith))
    ∙ with_bit_lem b (x % 8) (y % 8) (omega arith) (omega arith)
    ∙ ap (λ t. bit_or (b / 2 ^ (7 - y % 8) % 2) (bool t)) (ne_eqb (x % 8) (y % 8) d)
    ∙ or_zero_r (b / 2 ^ (7 - y % 8) % 2)
    ∙ ap (λ (i : ℕ). get_or xs i 0 / 2 ^ (7 - y % 8) % 2) e)
    (λ (e : x / 8 ≡ y / 8 → ⊥). ap (λ (v : ℕ). v / 2 ^ (7 - y % 8) % 2) (get_or-set_other xs (x / 8) (y / 8) (with_bit b (x % 8)) 0 (λ q. e (omega arith))))
    (eq_or_ne (x / 8) (y / 8))
