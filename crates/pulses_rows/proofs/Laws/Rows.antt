-- A row that is filled with symbols while each is asked whether it is one.
use mathlib.Core.Path.{◌≡◌, refl, sym, ap, ◌∙◌}
use mathlib.Core.Bool.{Bool, true}
use mathlib.Core.List.{List}
use mathlib.Core.Logic.{⊎_elim}
use Prim.Native.Nat.{ℕ, ◌+◌, ◌-◌, ◌^◌, ◌≤◌, ◌<◌}
use native.Mathlib.Omega.{arith}
use native.Mathlib.Nat.{mod-eq_of_lt}
use lib.Bits.{bit_and, and_mask}
use lib.Dec.{ltb}
use lib.ListN.{length, get_or, set, length-set}
use borrow.Author.Tests.{lt-ltb, le-ltb}
use Rattle.bits.specs.Basics.{up_to}
use Rattle.bits.specs.Inner.{Filled}
use Rattle.bits.proofs.Laws.Choice.{lt_or_le}
use Rattle.bits.proofs.Laws.First.{found_at, found_none}
use Rattle.bits.proofs.Laws.Table.{fill}
use Rattle.pulses_rows.specs.Inner.{Known, Reached}

-- a symbol fits a byte
pub byte_of_lem : (order q : ℕ) → order ≤ 256 → q < order → bit_and q 255 ≡ q
byte_of_lem order q most l = and_mask q 8 ∙ mod-eq_of_lt (let h : q < 2 ^ 8 = omega arith in h)

module _ (order : ℕ) (f : ℕ → ℕ) where
  -- s has a symbol
  abbrev pub is_symbol : ℕ → Bool
  is_symbol s = ltb (f s) order

  pub reach_start : (from to : ℕ) (row : List ℕ) → from ≤ to → Reached order f row from to from row
  reach_start from to row l = record { least = omega arith; most = l; long = refl; known = λ i h. absurd (omega arith) }

  -- one more, in a row that knew nothing but those before it
  pub known_more : (from n q : ℕ) (row : List ℕ) → Known order f from n row → n < length row → order ≤ 256 → q < order → f (from + n) ≡ q → Known order f from (n + 1) (set row n (bit_and q 255))
  known_more from n q row k room most h e i l =
      let full : get_or (set row n (bit_and q 255)) i 0 ≡ f (from + i) = fill row (λ i. f (from + i)) n (bit_and q 255) room (byte_of_lem order q most h ∙ sym e) (λ j g. (k j g).1) i l in
      ⊎_elim
      (λ (g : i < n). ((k i g).0, full))
      (λ (g : n ≤ i). let at : i ≡ n = omega arith in (rw (at, e) h, full))
      (lt_or_le i n)

  pub reach_more : (before : List ℕ) (from to s q : ℕ) (row : List ℕ) → Reached order f before from to s row → s < to → s - from < length row → order ≤ 256 → q < order → f s ≡ q
      → Reached order f before from to (s + 1) (set row (s - from) (bit_and q 255))
  reach_more before from to s q row r l room most h e =
      let k = r.least in
      let n : s + 1 - from ≡ s - from + 1 = omega arith in
      let at : from + (s - from) ≡ s = omega arith in
      record {
        least = omega arith;
        most = omega arith;
        long = length-set row (s - from) (bit_and q 255) ∙ r.long;
        known = rw n (known_more from (s - from) q row r.known room most h (ap f at ∙ e));
      }

  -- so far all have a symbol
  pub known_pass : (from n s : ℕ) (row : List ℕ) → Known order f from n row → from ≤ s → s < from + n → is_symbol s ≡ true
  known_pass from n s row k a l =
      let at : from + (s - from) ≡ s = omega arith in
      let h = (k (s - from) (omega arith)).0 in
      lt-ltb (f s) order (rw at at h)

  -- s has none
  pub reach_stop : (before : List ℕ) (from to s q : ℕ) (row : List ℕ) → Reached order f before from to s row → s < to → order ≤ q → q ≡ f s → s ≡ up_to is_symbol from to
  reach_stop before from to s q row r l h e =
      let least = r.least in
      sym (found_at is_symbol from to s r.least l (λ i a g. known_pass from (s - from) i row r.known a (omega arith)) (le-ltb (f s) order (rw (← e) h)))

  -- all have one
  pub reach_end : (before : List ℕ) (from to s : ℕ) (row : List ℕ) → Reached order f before from to s row → to ≤ s → s ≡ up_to is_symbol from to
  reach_end before from to s row r l =
      let m = r.most in
      let least = r.least in
      let e : s ≡ to = omega arith in
      e ∙ sym (found_none is_symbol from to (omega arith) (λ i a g. known_pass from (s - from) i row r.known a (omega arith)))

  pub reach_full : (before : List ℕ) (from to s : ℕ) (row : List ℕ) → Reached order f before from to s row → to ≤ s → Filled (λ i. f (from + i)) row (to - from)
  reach_full before from to s row r l i h = (r.known i (omega arith)).1

  -- the end or the first that has none
  pub reach_value : (before : List ℕ) (from to s : ℕ) (row : List ℕ) → Reached order f before from to s row → (s < to → order ≤ f s) → s ≡ up_to is_symbol from to
  reach_value before from to s row r none =
      ⊎_elim
      (λ (l : s < to). reach_stop before from to s (f s) row r l (none l) refl)
      (λ (l : to ≤ s). reach_end before from to s row r l)
      (lt_or_le s to)

  -- a step from s on, of a row that was known up to s
  pub reach_on : (before : List ℕ) (from to s end r : ℕ) (row after : List ℕ) → Reached order f before from to s row → Reached order f row from end r after → end ≤ to
      → Reached order f before from to r after
  reach_on before from to s end r row after a b l =
      let m = b.most in
      record { least = b.least; most = omega arith; long = b.long ∙ a.long; known = b.known }
