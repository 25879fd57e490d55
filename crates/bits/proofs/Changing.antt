-- The spare bits of packed bytes, shifted out.
use mathlib.Core.Path.{◌≡◌, refl, sym, ap, ◌∙◌}
use mathlib.Core.List.{List}
use mathlib.Core.Logic.{⊎_elim}
use Prim.Native.Nat.{ℕ, ◌+◌, ◌-◌, ◌*◌, ◌/◌, ◌%◌, ◌^◌, ◌≤◌, ◌<◌}
use native.Mathlib.Omega.{arith}
use native.Mathlib.Nat.{mod-eq_of_lt}
use lib.Pow.{high}
use lib.ListN.{length, get_or, set, length-set}
use lib.Seq.{get_or-set_same, get_or-set_other}
use Rattle.bits.proofs.Laws.Choice.{lt_or_le, eq_or_ne}
use Rattle.bits.specs.Pack.{val, bit_at, Bytes, cut}
use Rattle.bits.proofs.Laws.Pack.{val_lt, bit_val, bit_lt, cut_in, cut_past, cut_bits}
use Rattle.bits.proofs.Laws.Parts.{val_split, val_cut, byte_val}
use Rattle.bits.specs.Inner.{Ends}

-- none is spare
pub ends_whole : (xs : List ℕ) (end : ℕ) → 8 * length xs ≤ end → Ends xs end xs
ends_whole xs end h = record { long = refl; bits = λ x l. sym (cut_in end (bit_at xs) x (omega arith)) }

-- shifted down and up again, a byte has lost its last bits
shifted : (f : ℕ → ℕ) → ((i : ℕ) → f i < 2) → (used spare : ℕ) → used + spare ≡ 8 → val f 8 / 2 ^ spare * 2 ^ spare % 2 ^ 8 ≡ val (cut used f) 8
shifted f b used spare e =
    let l : used ≤ 8 = omega arith in
    let d : 8 - used ≡ spare = omega arith in
    let up : val f 8 / 2 ^ spare ≡ val f used =
    ap (λ (n : ℕ). val f n / 2 ^ spare) (sym e)
    ∙ ap (λ (v : ℕ). v / 2 ^ spare) (val_split f used spare)
    ∙ high (val f used) spare (val_lt (λ t. f (used + t)) (λ t. b (used + t)) spare) in
    let made : val f used * 2 ^ spare ≡ val (cut used f) 8 = sym (val_cut f used 8 l ∙ ap (λ (k : ℕ). val f used * 2 ^ k) d) in
    ap (λ (v : ℕ). v * 2 ^ spare % 2 ^ 8) up
    ∙ ap (λ (v : ℕ). v % 2 ^ 8) made
    ∙ mod-eq_of_lt (val_lt (cut used f) (cut_bits used f b) 8)

pub ends_cut : (xs : List ℕ) (end used spare : ℕ) → Bytes xs → used ≡ end % 8 → used + spare ≡ 8 → 0 < used → end < 8 * length xs → 8 * length xs < end + 8
    → Ends xs end (set xs (end / 8) (get_or xs (end / 8) 0 / 2 ^ spare * 2 ^ spare % 2 ^ 8))
unfolding bit_at
ends_cut xs end used spare bytes eu es h l m =
    let i : ℕ = end / 8 in
    let f : ℕ → ℕ = λ t. bit_at xs (8 * i + t) in
    let fb : (t : ℕ) → f t < 2 = λ t. bit_lt xs (8 * i + t) in
    let v : ℕ = get_or xs i 0 / 2 ^ spare * 2 ^ spare % 2 ^ 8 in
    let made : v ≡ val (cut used f) 8 = ap (λ (b : ℕ). b / 2 ^ spare * 2 ^ spare % 2 ^ 8) (sym (byte_val xs i (bytes i))) ∙ shifted f fb used spare es in
    record {
      long = length-set xs i v;
      bits = λ x k. ⊎_elim
          (λ (q : x / 8 ≡ i).
          let at : 8 * i + x % 8 ≡ x = omega arith in
          ap (λ (j : ℕ). get_or (set xs i v) j 0 / 2 ^ (7 - x % 8) % 2) q
          ∙ ap (λ (w : ℕ). w / 2 ^ (7 - x % 8) % 2) (get_or-set_same xs i v 0 (omega arith) ∙ made)
          ∙ bit_val (cut used f) (cut_bits used f fb) (7 - x % 8) (x % 8) 8 (omega arith)
          ∙ ⊎_elim
          (λ (z : x % 8 < used). cut_in used f (x % 8) z ∙ ap (bit_at xs) at ∙ sym (cut_in end (bit_at xs) x (omega arith)))
          (λ (z : used ≤ x % 8). cut_past used f (x % 8) z ∙ sym (cut_past end (bit_at xs) x (omega arith)))
          (lt_or_le (x % 8) used))
          (λ (q : x / 8 ≡ i → ⊥).
          let low : x < end = omega arith in
          ap (λ (w : ℕ). w / 2 ^ (7 - x % 8) % 2) (get_or-set_other xs i (x / 8) v 0 q)
          ∙ sym (cut_in end (bit_at xs) x low))
          (eq_or_ne (x / 8) i);
    }
