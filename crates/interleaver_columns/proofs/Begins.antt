-- Where the columns begin among the numbers, in the order of the planes.
use mathlib.Core.Path.{◌≡◌, ◌∙◌}
use mathlib.Core.List.{List}
use mathlib.Core.Logic.{⊎_elim}
use Prim.Native.Nat.{ℕ, ◌+◌, ◌-◌, ◌*◌, ◌/◌, ◌%◌, ◌≤◌, ◌<◌}
use native.Mathlib.Omega.{arith}
use native.Mathlib.Nat.{mod-lt}
use lib.ListN.{length, get_or, set}
use lib.Seq.{get_or-set_same, get_or-set_other}
use Rattle.bits.proofs.Laws.Choice.{lt_or_le, eq_or_ne}
use Rattle.interleaver.specs.Interleaver.{source_bit}
use Rattle.interleaver_columns.specs.Inner.{column_at, from_out}

pub begin_lt : (q : ℕ) → from_out q < 2160
unfolding from_out
begin_lt q = mod-lt (source_bit (column_at (q / 9) (q % 9))) (omega arith)

nine_mod : (e d : ℕ) → d < 9 → (9 * e + d) % 9 ≡ d
nine_mod e d l = omega arith

nine_div : (e d : ℕ) → d < 9 → (9 * e + d) / 9 ≡ e
nine_div e d l = omega arith

-- one more in the order of the planes
pub begin_more : (from : List ℕ) (c v : ℕ) → length from ≡ 72 → c < 72 → v ≡ source_bit c % 2160
    → ((q : ℕ) → q < 72 → column_at (q / 9) (q % 9) < c → get_or from q 0 ≡ from_out q)
    → (q : ℕ) → q < 72 → column_at (q / 9) (q % 9) < c + 1 → get_or (set from (9 * (7 - c % 8) + c / 8) v) q 0 ≡ from_out q
unfolding from_out
begin_more from c v size h e so_far q l k =
    ⊎_elim
    (λ (w : q ≡ 9 * (7 - c % 8) + c / 8).
    let small : c / 8 < 9 = omega arith in
    let byte : q % 9 ≡ c / 8 = rw w (nine_mod (7 - c % 8) (c / 8) small) in
    let plane : q / 9 ≡ 7 - c % 8 = rw w (nine_div (7 - c % 8) (c / 8) small) in
    let column : column_at (q / 9) (q % 9) ≡ c = omega arith in
    rw column (rw w (get_or-set_same from (9 * (7 - c % 8) + c / 8) v 0 (omega arith)) ∙ e))
    (λ (w : q ≡ 9 * (7 - c % 8) + c / 8 → ⊥).
    get_or-set_other from (9 * (7 - c % 8) + c / 8) q v 0 w ∙ so_far q l (earlier w))
    (eq_or_ne q (9 * (7 - c % 8) + c / 8))
  where
    earlier : (q ≡ 9 * (7 - c % 8) + c / 8 → ⊥) → column_at (q / 9) (q % 9) < c
    earlier w = ⊎_elim (λ (z : column_at (q / 9) (q % 9) < c). z) (λ (z : c ≤ column_at (q / 9) (q % 9)). absurd (w (omega arith))) (lt_or_le (column_at (q / 9) (q % 9)) c)
