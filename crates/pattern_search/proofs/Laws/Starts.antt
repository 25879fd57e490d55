-- What it means that a marker stands at a slot, and what is the earliest.
use mathlib.Core.Path.{◌≡◌, refl, ap}
use mathlib.Core.Bool.{true, false, not}
use mathlib.Core.List.{List}
use mathlib.Core.Logic.{⊎_elim}
use Prim.Native.Nat.{ℕ, ◌+◌, ◌-◌, ◌≤◌, ◌<◌}
use native.Mathlib.Omega.{arith}
use lib.Dec.{eqb}
use borrow.Author.Tests.{eqb-true, eq-eqb, not-true, not-false}
use Rattle.bits.specs.Basics.{first_from, up_to}
use Rattle.bits.proofs.Laws.Choice.{lt_or_le}
use Rattle.bits.proofs.Laws.First.{all_pass, none_fails, found, found_at, first_same, same_from}
use Rattle.bits.specs.Pack.{bit_at}
use Rattle.pattern_search.specs.Starts.{right, first_mismatch, stands, starts, missed, earliest}

-- ---- at one slot

module _ (marker : ℕ → ℕ) (n : ℕ) (b : List ℕ) (x : ℕ) where
  -- every slot is right
  pub stands_all : stands marker n b x ≡ true → (i : ℕ) → i < n → bit_at b (x + i) ≡ marker i
  unfolding stands first_mismatch
  stands_all e i l = eqb-true (bit_at b (x + i)) (marker i) (none_fails (right marker b x) n (eqb-true (up_to (right marker b x) 0 n) n e) i l)

  pub all_stands : ((i : ℕ) → i < n → bit_at b (x + i) ≡ marker i) → stands marker n b x ≡ true
  unfolding stands first_mismatch
  all_stands h = eq-eqb (up_to (right marker b x) 0 n) n (all_pass (right marker b x) n (λ i l. eq-eqb (bit_at b (x + i)) (marker i) (h i l)))

-- ---- in a capture, from a slot on

module _ (marker : ℕ → ℕ) (n : ℕ) (b : List ℕ) (from : ℕ) where
  -- there is none to try
  pub earliest_past : starts n b ≤ from → earliest marker n b from ≡ from
  unfolding earliest first_from
  earliest_past h = let none : starts n b - from ≡ 0 = omega arith in rw none refl

  pub earliest_least : from ≤ earliest marker n b from
  unfolding earliest
  earliest_least =
      ⊎_elim
      (λ (l : from < starts n b). (found (missed marker n b) from (starts n b) (omega arith)).least)
      (λ (l : starts n b ≤ from). let e : up_to (missed marker n b) from (starts n b) ≡ from = earliest_past l in omega arith)
      (lt_or_le from (starts n b))

  -- it stands at the slot that is found, and at none before it
  pub earliest_stands : earliest marker n b from < starts n b → stands marker n b (earliest marker n b from) ≡ true
  unfolding earliest
  earliest_stands l =
      let a = earliest_least in
      not-false (stands marker n b (earliest marker n b from)) ((found (missed marker n b) from (starts n b) (omega arith)).fails l)

  pub none_earlier : (x : ℕ) → from ≤ x → x < earliest marker n b from → stands marker n b x ≡ false
  unfolding earliest
  none_earlier x a l =
      ⊎_elim
      (λ (h : from < starts n b). not-true (stands marker n b x) ((found (missed marker n b) from (starts n b) (omega arith)).before x a l))
      (λ (h : starts n b ≤ from). absurd (let e = earliest_past h in omega arith))
      (lt_or_le from (starts n b))

  -- a slot at which it stands, with none before it, is found
  pub found_earliest : (x : ℕ) → from ≤ x → x < starts n b → stands marker n b x ≡ true
      → ((y : ℕ) → from ≤ y → y < x → stands marker n b y ≡ false)
      → earliest marker n b from ≡ x
  unfolding earliest
  found_earliest x a l e none = found_at (missed marker n b) from (starts n b) x a l (λ y c h. ap not (none y c h)) (ap not e)

-- markers that are the same in their n slots are found at the same slot
pub earliest_same : (marker other : ℕ → ℕ) (n : ℕ) (b : List ℕ) (from : ℕ) → ((i : ℕ) → i < n → marker i ≡ other i)
    → earliest marker n b from ≡ earliest other n b from
unfolding earliest stands first_mismatch
earliest_same marker other n b from h =
    same_from (missed marker n b) (missed other n b) (starts n b - from) from (λ x a l.
    ap (λ (k : ℕ). not (eqb k n)) (first_same (right marker b x) (right other b x) n (λ i k. ap (eqb (bit_at b (x + i))) (h i k))))
