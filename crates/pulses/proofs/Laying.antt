-- The pulses of zeros' slots, one after another.
use mathlib.Core.Path.{◌≡◌, refl, ap, ◌∙◌}
use mathlib.Core.Bool.{Bool}
use mathlib.Core.List.{List}
use mathlib.Core.Logic.{⊎_elim}
use Prim.Native.Nat.{ℕ, ◌+◌, ◌-◌, ◌*◌, ◌/◌, ◌%◌, ◌^◌, ◌≤◌, ◌<◌}
use native.Mathlib.Omega.{arith}
use native.Mathlib.Nat.{div-add-mod', zero-div}
use lib.Arith.{digits_mod}
use lib.Dec.{ltb, eqb}
use lib.ListN.{length, get_or, length-set}
use borrow.Author.Tests.{lt-ltb, le-ltb, eq-eqb, ne_eqb}
use Rattle.bits.specs.Basics.{pick, bool}
use Rattle.bits.proofs.Laws.Choice.{lt_or_le, eq_or_ne}
use Rattle.bits.specs.Pack.{bit_at}
use Rattle.bits.specs.Inner.{put_bit, with_bit}
use Rattle.bits.proofs.Laws.Put.{put_same, put_other}
use Rattle.pulses.specs.Inner.{Zeros}

-- those before slot x are there
pub record Upto (group x : ℕ) (z : List ℕ) : Type 0 where
  pub long : length z ≡ 40
  pub even : x % group ≡ 0
  pub slot : (i : ℕ) → i < 320 → bit_at z i ≡ pick (ltb i x) (bool (eqb (i % group) 0)) 0

pub upto_none : (group : ℕ) → 1 ≤ group → (z : List ℕ) → length z ≡ 40 → ((k : ℕ) → k < 40 → get_or z k 0 ≡ 0) → Upto group 0 z
unfolding bit_at
upto_none group h z e none =
    let d : 0 < group = h in
    record {
      long = e;
      even = ap (λ (n : ℕ). n % group) (let q : 0 ≡ 0 * group + 0 = omega arith in q) ∙ digits_mod 0 d;
      slot = λ i l. rw (none (i / 8) (omega arith), zero-div (2 ^ (7 - i % 8)), le-ltb i 0 (omega arith)) refl;
    }

pub upto_more : (group x : ℕ) → 1 ≤ group → x < 320 → (z : List ℕ) → Upto group x z → Upto group (x + group) (put_bit z x)
upto_more group x h l z u =
    let long : length z ≡ 40 = u.long in
    let at : x / group * group + 0 ≡ x = let d = div-add-mod' x group in let e = u.even in omega arith in
    let room : x < 8 * length z = omega arith in
    record {
      long = length-set z (x / 8) (with_bit (get_or z (x / 8) 0) (x % 8)) ∙ long;
      even =
          let z : 0 < group = h in
          let q : x + group ≡ (x / group + 1) * group + 0 = omega arith in
          ap (λ (n : ℕ). n % group) q ∙ digits_mod (x / group + 1) z;
      slot = λ i k. ⊎_elim
          (λ (e : i ≡ x).
          rw (e, put_same z x room, lt-ltb x (x + group) (omega arith), eq-eqb (x % group) 0 u.even) refl)
          (λ (n : i ≡ x → ⊥).
          put_other z x i room n
          ∙ u.slot i k
          ∙ ⊎_elim
          (λ (s : i < x). rw (lt-ltb i x s, lt-ltb i (x + group) (omega arith)) refl)
          (λ (s : x ≤ i). ⊎_elim
          (λ (t : i < x + group).
          let small : i - x < group = omega arith in
          let q : i ≡ x / group * group + (i - x) = omega arith in
          let m : i % group ≡ i - x = ap (λ (v : ℕ). v % group) q ∙ digits_mod (x / group) small in
          rw (le-ltb i x s, lt-ltb i (x + group) t, ne_eqb (i % group) 0 (λ z. n (omega arith))) refl)
          (λ (t : x + group ≤ i). rw (le-ltb i x s, le-ltb i (x + group) t) refl)
          (lt_or_le i (x + group)))
          (lt_or_le i x))
          (eq_or_ne i x);
    }

pub upto_all : (group x : ℕ) (z : List ℕ) → 320 ≤ x → Upto group x z → Zeros group z
upto_all group x z h u = record { long = u.long; slot = λ i l. u.slot i l ∙ ap (λ (t : Bool). pick t (bool (eqb (i % group) 0)) 0) (lt-ltb i x (omega arith)) }
