-- Where the columns start among the planes, and by how many rows their bits go up.
use mathlib.Core.Path.{◌≡◌, sym, ap, ◌∙◌}
use mathlib.Core.List.{List}
use mathlib.Core.Logic.{⊎_elim}
use Prim.Native.Nat.{ℕ, ◌+◌, ◌-◌, ◌*◌, ◌/◌, ◌%◌, ◌<◌}
use native.Mathlib.Omega.{arith}
use native.Mathlib.Nat.{mod-lt}
use lib.Dec.{eqb}
use lib.ListN.{length, get_or, set}
use lib.Seq.{get_or-set_same, get_or-set_other}
use borrow.Author.Tests.{eq-eqb, ne_eqb}
use Rattle.bits.specs.Basics.{pick}
use Rattle.bits.proofs.Laws.Choice.{eq_or_ne}
use Rattle.interleaver.specs.Interleaver.{source_bit}
use Rattle.interleaver_columns.specs.Inner.{column_of, back_row, start_in, up_in}
use Rattle.interleaver_columns.proofs.Numbers.{column_lt, column_place, columns_more}

pub in_lt : (b : ℕ) → up_in b < 7
unfolding up_in
in_lt b = mod-lt (back_row b / 30) (omega arith)

pub start_lt : (b : ℕ) → start_in b < 4050
unfolding start_in
start_lt b = let c = column_lt b in omega arith

pub start_place : (c : ℕ) → c < 72 → 540 * (7 - c % 8) + 9 * ((210 - source_bit c / 72) % 30) + c / 8 ≡ start_in (source_bit c % 72)
unfolding start_in
start_place c h = sym (ap (λ (j : ℕ). 540 * (7 - j % 8) + 9 * ((210 - source_bit j / 72) % 30) + j / 8) (column_place c h))

pub in_place : (c : ℕ) → c < 72 → (210 - source_bit c / 72) / 30 % 7 ≡ up_in (source_bit c % 72)
unfolding up_in
in_place c h = sym (ap (λ (j : ℕ). (210 - source_bit j / 72) / 30 % 7) (column_place c h))

-- one start more
pub start_more : (at : List ℕ) (c v : ℕ) → length at ≡ 72 → c < 72 → v ≡ start_in (source_bit c % 72) → ((b : ℕ) → b < 72 → column_of b < c → get_or at b 0 ≡ start_in b)
    → (b : ℕ) → b < 72 → column_of b < c + 1 → get_or (set at (source_bit c % 72) v) b 0 ≡ start_in b
start_more at c v size h e so_far b l k =
    let w : b % 72 ≡ b = omega arith in
    rw w at (columns_more start_in c b v (get_or at b 0) (get_or (set at (source_bit c % 72) v) b 0) h e new (λ q. ap (λ (j : ℕ). get_or at j 0) (sym w) ∙ so_far (b % 72) (omega arith) q) (rw (← w) at k))
  where
    new : get_or (set at (source_bit c % 72) v) b 0 ≡ pick (eqb (b % 72) (source_bit c % 72)) v (get_or at b 0)
    new =
        let w : b % 72 ≡ b = omega arith in
        ⊎_elim
        (λ (q : b ≡ source_bit c % 72).
        let r : b % 72 ≡ source_bit c % 72 = omega arith in
        rw (eq-eqb (b % 72) (source_bit c % 72) r, q) (get_or-set_same at (source_bit c % 72) v 0 (omega arith)))
        (λ (q : b ≡ source_bit c % 72 → ⊥).
        rw (ne_eqb (b % 72) (source_bit c % 72) (λ z. q (sym w ∙ z))) (get_or-set_other at (source_bit c % 72) b v 0 q))
        (eq_or_ne b (source_bit c % 72))
