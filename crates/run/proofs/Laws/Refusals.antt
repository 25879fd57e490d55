-- What a refusal tells: all that was asked before its question was answered yes, and its place is the first at which that was answered no.
use mathlib.Core.Path.{◌≡◌, refl, sym, ap, ◌∙◌}
use mathlib.Core.Bool.{Bool, true, false}
use mathlib.Core.Logic.{⊎_elim}
use Prim.Native.Nat.{ℕ, ◌≤◌, ◌<◌}
use native.Mathlib.Omega.{arith}
use lib.Dec.{eqb}
use borrow.Author.Tests.{eq-eqb, ne_eqb, eqb-true, eqb-false}
use Rattle.bits.specs.Basics.{up_to}
use Rattle.bits.proofs.Laws.Choice.{lt_or_le}
use Rattle.bits.proofs.Laws.First.{up_to_le, all_pass, none_fails, one_fails, passes_before, found_at}
use Rattle.bits.proofs.Laws.Table.{true_false}
use Rattle.answers.specs.Answer.{Answer, Done, No, number_of, ask, then, is_done, first_refused, put_in_order}
use Rattle.answers.proofs.Laws.Answer.{ask_done, ask_yes, ask_refused, then_refused, done_is}

-- p is the first of n at which a question is answered no; it is answered yes at all of them
abbrev pub FirstNo : ℕ → (ℕ → Type 0) → ℕ → Type 0
FirstNo n Yes p = (p < n) × ((i : ℕ) → i < p → Yes i) × (Yes p → ⊥)

abbrev pub AllYes : ℕ → (ℕ → Type 0) → Type 0
AllYes n Yes = (i : ℕ) → i < n → Yes i

-- of n pieces that are asked one after another, p is the first that is refused, and by this number
abbrev pub FirstRefused : ℕ → (ℕ → Answer) → ℕ → ℕ → Type 0
FirstRefused n say number p = (p < n) × ((i : ℕ) → i < p → say i ≡ Done) × (number_of (say p) ≡ number)

-- ---- an answer that has not a number

abbrev pub Never : ℕ → Answer → Type 0
Never number a = (p : ℕ) → a ≡ No number p → ⊥

pub never_ask : (number : ℕ) (t : Bool) (n place : ℕ) → (n ≡ number → ⊥) → Never number (ask t n place)
never_ask number t n place other p e = other (ask_refused t n place number p e).1

pub never_then : (number : ℕ) (a b : Answer) → Never number a → Never number b → Never number (then a b)
never_then number a b na nb p e =
    ⊎_elim (λ (q : a ≡ No number p). na p q) (λ (q : (a ≡ Done) × (b ≡ No number p)). nb p q.1) (then_refused a b number p e)

-- ---- one question among others

-- what comes before it was answered yes, and what comes after it does not matter
pub among_others : (a q b : Answer) (number p : ℕ) → Never number a → Never number b → then a (then q b) ≡ No number p → (a ≡ Done) × (q ≡ No number p)
among_others a q b number p na nb e =
    ⊎_elim
    (λ (x : a ≡ No number p). absurd (na p x))
    (λ (x : (a ≡ Done) × (then q b ≡ No number p)).
    ⊎_elim (λ (y : q ≡ No number p). (x.0, y)) (λ (y : (q ≡ Done) × (b ≡ No number p)). absurd (nb p y.1)) (then_refused q b number p x.1))
    (then_refused a (then q b) number p e)

pub last_of : (a q : Answer) (number p : ℕ) → Never number a → then a q ≡ No number p → (a ≡ Done) × (q ≡ No number p)
last_of a q number p na e = ⊎_elim (λ (x : a ≡ No number p). absurd (na p x)) (λ (x : (a ≡ Done) × (q ≡ No number p)). x) (then_refused a q number p e)

pub others_done : (a q b : Answer) (number p : ℕ) → a ≡ Done → q ≡ No number p → then a (then q b) ≡ No number p
others_done a q b number p ea eq = rw (ea, eq) refl

pub not_yes : (t : Bool) → (t ≡ true → ⊥) → t ≡ false
not_yes true h = absurd (h refl)
not_yes false h = refl

-- ---- a question that is put to one after another, of which a test tells the answer

module _ (n : ℕ) (test : ℕ → Bool) (Yes : ℕ → Type 0) (told : (i : ℕ) → i < n → test i ≡ true → Yes i) (tells : (i : ℕ) → i < n → Yes i → test i ≡ true) where
  -- the question, and its place
  abbrev put : ℕ → Answer
  put number = ask (eqb (up_to test 0 n) n) number (up_to test 0 n)

  pub put_yes : (number : ℕ) → put number ≡ Done → AllYes n Yes
  put_yes number e i l = told i l (none_fails test n (eqb-true (up_to test 0 n) n (ask_done (eqb (up_to test 0 n) n) number (up_to test 0 n) e)) i l)

  pub yes_put : (number : ℕ) → AllYes n Yes → put number ≡ Done
  yes_put number h = ask_yes (eqb (up_to test 0 n) n) number (up_to test 0 n) (eq-eqb (up_to test 0 n) n (all_pass test n (λ i l. tells i l (h i l))))

  pub put_no : (number p : ℕ) → put number ≡ No number p → FirstNo n Yes p
  put_no number p e =
      let r = ask_refused (eqb (up_to test 0 n) n) number (up_to test 0 n) number p e in
      let ne : up_to test 0 n ≡ n → ⊥ = eqb-false (up_to test 0 n) n r.0 in
      let le : up_to test 0 n ≤ n = up_to_le test n in
      let lt : up_to test 0 n < n = ⊎_elim (λ (h : up_to test 0 n < n). h) (λ (h : n ≤ up_to test 0 n). absurd (ne (omega arith))) (lt_or_le (up_to test 0 n) n) in
      let at : up_to test 0 n ≡ p = r.2 in
      let few : p < n = omega arith in (
        few,
        λ i l. told i (omega arith) (passes_before test n i (omega arith)),
        λ y. true_false (test p) (tells p few y) (ap test (sym at) ∙ one_fails test n lt),
      )

  pub no_put : (number p : ℕ) → FirstNo n Yes p → put number ≡ No number p
  no_put number p (few, before, fails) =
      let bad : test p ≡ false = cases (test p) refl in
      let at : up_to test 0 n ≡ p = found_at test 0 n p (omega arith) few (λ i a l. tells i (omega arith) (before i l)) bad in
      let ne : p ≡ n → ⊥ = λ z. omega arith in
      rw (at, ne_eqb p n ne) refl
    where
      cases : (t : Bool) → test p ≡ t → test p ≡ false
      cases true e = absurd (fails (told p few e))
      cases false e = e

-- ---- pieces that are asked one after another

pub order_no : (n : ℕ) (say : ℕ → Answer) (number p : ℕ) → put_in_order n say ≡ No number p → FirstRefused n say number p
unfolding put_in_order first_refused
order_no n say number p e =
    let test : ℕ → Bool = λ j. is_done (say j) in
    let r = ask_refused (eqb (up_to test 0 n) n) (number_of (say (up_to test 0 n))) (up_to test 0 n) number p e in
    let at : up_to test 0 n ≡ p = r.2 in
    let le : up_to test 0 n ≤ n = up_to_le test n in
    let ne : up_to test 0 n ≡ n → ⊥ = eqb-false (up_to test 0 n) n r.0 in
    let lt : up_to test 0 n < n = ⊎_elim (λ (h : up_to test 0 n < n). h) (λ (h : n ≤ up_to test 0 n). absurd (ne (omega arith))) (lt_or_le (up_to test 0 n) n) in
    (omega arith, λ i l. done_is (say i) (passes_before test n i (omega arith)), ap (λ (j : ℕ). number_of (say j)) (sym at) ∙ r.1)

pub no_order : (n : ℕ) (say : ℕ → Answer) (number p : ℕ) → 0 < number → FirstRefused n say number p → put_in_order n say ≡ No number p
unfolding put_in_order first_refused
no_order n say number p some (few, before, e) =
    let test : ℕ → Bool = λ j. is_done (say j) in
    let at : up_to test 0 n ≡ p = found_at test 0 n p (omega arith) few (λ i a l. ap is_done (before i l)) (refused (say p) e) in
    let ne : p ≡ n → ⊥ = λ z. omega arith in
    rw (at, ne_eqb p n ne) (ap (λ (k : ℕ). No k p) e)
  where
    refused : (a : Answer) → number_of a ≡ number → is_done a ≡ false
    refused Done z = absurd (omega arith)
    refused (No k q) z = refl
