-- How answers are put together: the first no, pieces asked one after another, and which numbers can come out.
use mathlib.Core.Path.{◌≡◌, refl, sym, ap, ◌∙◌}
use mathlib.Core.Bool.{Bool, true, false, false≢true}
use mathlib.Core.Logic.{◌⊎◌, inl, inr}
use Prim.Native.Nat.{ℕ, ◌*◌, ◌^◌, ◌<◌, ◌≤◌}
use native.Mathlib.Omega.{arith}
use lib.Dec.{eqb}
use borrow.Author.Tests.{eq-eqb, ne_eqb, eqb-true}
use mathlib.Core.List.{List}
use Rattle.bits.specs.Basics.{up_to}
use Rattle.bits.proofs.Laws.First.{up_to_le, first_here, first_end, all_pass, none_fails}
use Rattle.answers.specs.Answer.{Answer, Done, No, number_of, place_of, code_of, code_with, ask, then, is_done, first_refused, put_in_order, among}
use Rattle.answers.specs.Inner.{Fits, FitsGiven, number, answer_of, code_given}
use Rattle.answers.specs.declared.Fault.{Fault}
use Rattle.answers.specs.declared.Refusal.{Refusal}
use Rattle.std.specs.Prelude.{Result, Ok, Err, IsOk, IfOk, IsErrAnd}
use Rattle.std.proofs.lemmas.Result.{err_from_is_err_and}
use borrow.Author.Rules.{rules}

-- ---- laws

-- a refusal is not acceptance
pub no_done : {number place : ℕ} → No number place ≡ Done → ⊥
no_done e = let z : ◌≡◌ {A = ℕ} 0 1 = cc in omega arith

-- what accepts is an Ok
pub ok_of : {A : Type 0} (r : Result A Refusal) → answer_of r ≡ Done → IsOk r
ok_of (Ok value) e = search rules
ok_of (Err refusal) e = absurd (no_done e)

pub then_done : (a b : Answer) → then a b ≡ Done → (a ≡ Done) × (b ≡ Done)
then_done Done b e = (refl, e)
then_done (No number place) b e = absurd (no_done e)

-- questions in order need no brackets
pub then_then : (a b c : Answer) → then (then a b) c ≡ then a (then b c)
then_then Done b c = refl
then_then (No number place) b c = refl

-- a question that is asked only where all before it was answered yes
pub then_when : (a b c : Answer) → (a ≡ Done → b ≡ c) → then a b ≡ then a c
then_when Done b c h = h refl
then_when (No number place) b c h = refl

pub ask_done : (t : Bool) (number place : ℕ) → ask t number place ≡ Done → t ≡ true
ask_done true number place e = refl
ask_done false number place e = absurd (no_done e)

pub ask_yes : (t : Bool) (number place : ℕ) → t ≡ true → ask t number place ≡ Done
ask_yes t number place e = rw e refl

pub ask_no : (t : Bool) (number place : ℕ) → t ≡ false → ask t number place ≡ No number place
ask_no t number place e = rw e refl

-- what a refusal says: of one question, and of questions in order
pub ask_refused : (t : Bool) (number place n p : ℕ) → ask t number place ≡ No n p → (t ≡ false) × (number ≡ n) × (place ≡ p)
ask_refused true number place n p e = absurd (no_done (sym e))
ask_refused false number place n p e = (refl, ap number_of e, ap place_of e)

pub then_refused : (a b : Answer) (n p : ℕ) → then a b ≡ No n p → (a ≡ No n p) ⊎ ((a ≡ Done) × (b ≡ No n p))
then_refused Done b n p e = inr (refl, e)
then_refused (No number place) b n p e = inl e

pub done_is : (a : Answer) → is_done a ≡ true → a ≡ Done
done_is Done e = refl
done_is (No number place) e = absurd (false≢true e)

-- ---- questions asked one after another by `?`

-- what a `?` hands on is the refusal that came
pub left : {A : Type 0} (r : Result A Refusal) (x : Refusal) → IsErrAnd r (λ y. y ≡ x) → answer_of r ≡ No (number x.fault) x.place
left r x e = let p = err_from_is_err_and r e in rw (p.1, p.2) refl

-- a refusal at a place
pub refuses : (r : Refusal) (fault : Fault) (place : ℕ) (a : Answer) → r ≡ record { fault = fault; place = place } → No (number fault) place ≡ a → No (number r.fault) r.place ≡ a
refuses r fault place a e s = ap (λ (x : Refusal). No (number x.fault) x.place) e ∙ s

-- and the questions that would have followed are not asked
pub stops : {A : Type 0} (r : Result A Refusal) (x : Refusal) (a rest : Answer) → IsErrAnd r (λ y. y ≡ x) → No (number x.fault) x.place ≡ a → answer_of r ≡ then a rest
stops r x a rest e s = left r x e ∙ rw (sym s) refl

-- where more than the test tells what is said
pub refused_as : {A : Type 0} (r : Result A Refusal) (x : Refusal) (said : Bool) (n p : ℕ) (a : Answer) → IsErrAnd r (λ y. y ≡ x) → No (number x.fault) x.place ≡ ask said n p
    → (said ≡ false → No n p ≡ a) → answer_of r ≡ a
refused_as r x said n p a e s h = let no : said ≡ false = (ask_refused said n p _ _ (sym s)).0 in left r x e ∙ s ∙ ask_no said n p no ∙ h no

-- what was answered yes leaves the rest to answer
pub goes_on : (s a rest : Answer) → Done ≡ a → s ≡ rest → s ≡ then a rest
goes_on s a rest done e = rw (sym done) e

-- the same of one question, by its test
pub stops_at : {A : Type 0} (r : Result A Refusal) (x : Refusal) (said test : Bool) (n p : ℕ) (rest : Answer)
    → IsErrAnd r (λ y. y ≡ x) → No (number x.fault) x.place ≡ ask said n p → said ≡ test → answer_of r ≡ then (ask test n p) rest
stops_at r x said test n p rest e s q = stops r x (ask test n p) rest e (s ∙ ap (λ (t : Bool). ask t n p) q)

pub goes_past : (s rest : Answer) (said test : Bool) (n p : ℕ) → Done ≡ ask said n p → said ≡ test → s ≡ rest → s ≡ then (ask test n p) rest
goes_past s rest said test n p done q e = goes_on s (ask test n p) rest (done ∙ ap (λ (t : Bool). ask t n p) q) e

pub said_yes : (said test : Bool) (n p : ℕ) → Done ≡ ask said n p → said ≡ test → test ≡ true
said_yes said test n p done q = sym q ∙ ask_done said n p (sym done)

pub says_last : (s : Answer) (said test : Bool) (n p : ℕ) → s ≡ ask said n p → said ≡ test → s ≡ ask test n p
says_last s said test n p e q = e ∙ ap (λ (t : Bool). ask t n p) q

-- what C gets goes by the answer, and by what an acceptance gives
pub with_same : (a b : Answer) (s t : ℕ) → a ≡ b → (a ≡ Done → s ≡ t) → code_with a s ≡ code_with b t
with_same Done b s t e h = ap (code_with Done) (h refl) ∙ ap (λ (x : Answer). code_with x t) e
with_same (No number place) b s t e h = ap (λ (x : Answer). code_with x t) e

pub given_is : (r : Result ℕ Refusal) (a : Answer) (s : ℕ) → answer_of r ≡ a → IfOk r (λ x. x ≡ s) → code_given r ≡ code_with a s
given_is (Ok x) a s e h = rw (← e) (ap (λ (n : ℕ). n * 256) h)
given_is (Err x) a s e h = rw (← e) refl

-- ---- which answers fit

pub fits_given : (r : Result ℕ Refusal) (a : Answer) → answer_of r ≡ a → Fits a → IfOk r (λ x. x < 2 ^ 56) → FitsGiven r
fits_given (Ok x) a e f h = h
fits_given (Err x) a e f h = rw (← e) at f.place

pub fits_done : Fits Done
fits_done = record { number = omega arith; place = omega arith; listed = λ e. omega arith }

pub fits_ask : (t : Bool) (number place : ℕ) → number < 256 → place < 2 ^ 56 → (number ≡ 17 → ⊥) → Fits (ask t number place)
fits_ask true number place a b c = fits_done
fits_ask false number place a b c = record { number = a; place = b; listed = c }

pub fits_then : (a b : Answer) → Fits a → (a ≡ Done → Fits b) → Fits (then a b)
fits_then Done b s f = f refl
fits_then (No number place) b s f = s

-- ---- questions that have no place

pub placeless_ask : (t : Bool) (number : ℕ) → place_of (ask t number 0) ≡ 0
placeless_ask true number = refl
placeless_ask false number = refl

pub placeless_then : (a b : Answer) → place_of a ≡ 0 → place_of b ≡ 0 → place_of (then a b) ≡ 0
placeless_then Done b ea eb = eb
placeless_then (No number place) b ea eb = ea

-- place × 256 + number, so that a place of 3 with number 13 is 781
pub code_example : code_of (No 13 3) ≡ 781
code_example = refl

-- all are done where the answer is done
pub all_done : (n : ℕ) (say : ℕ → Answer) → put_in_order n say ≡ Done → (j : ℕ) → j < n → say j ≡ Done
unfolding put_in_order first_refused
all_done n say e j l =
    let k : ℕ = first_refused n say in
    let q : k ≡ n = eqb-true k n (ask_done (eqb k n) (number_of (say k)) k e) in
    done_is (say j) (none_fails (λ j. is_done (say j)) n q j l)

pub done_all : (n : ℕ) (say : ℕ → Answer) → ((j : ℕ) → j < n → say j ≡ Done) → put_in_order n say ≡ Done
unfolding put_in_order first_refused
done_all n say h =
    let e : first_refused n say ≡ n = all_pass (λ j. is_done (say j)) n (λ j l. ap is_done (h j l)) in
    rw (eq-eqb (first_refused n say) n e) refl

-- ---- as a loop comes to it: all before j are done

pub order_no : (n m j : ℕ) (say : ℕ → Answer) (a : Answer) → m ≡ n → j < m → up_to (λ j. is_done (say j)) j m ≡ up_to (λ j. is_done (say j)) 0 m
    → a ≡ say j → is_done a ≡ false → No (number_of a) j ≡ put_in_order n say
unfolding put_in_order first_refused
order_no n m j say a em l inv e bad =
    let gives : ℕ → Bool = λ j. is_done (say j) in
    let k : j < n = omega arith in
    let here : up_to gives j n ≡ j = first_here gives n j k (ap is_done (sym e) ∙ bad) in
    let found : up_to gives 0 n ≡ j = ap (up_to gives 0) (sym em) ∙ sym inv ∙ ap (up_to gives j) em ∙ here in
    let ne : j ≡ n → ⊥ = λ q. omega arith in
    ap (λ (x : Answer). No (number_of x) j) e ∙ sym (rw (found, ne_eqb j n ne) refl)

pub order_yes : (n m j : ℕ) (say : ℕ → Answer) → m ≡ n → m ≤ j → j ≤ m → up_to (λ j. is_done (say j)) j m ≡ up_to (λ j. is_done (say j)) 0 m → Done ≡ put_in_order n say
unfolding put_in_order first_refused
order_yes n m j say em l h inv =
    let gives : ℕ → Bool = λ j. is_done (say j) in
    let e : up_to gives 0 n ≡ n = ap (up_to gives 0) (sym em) ∙ sym inv ∙ first_end gives m j l h ∙ em in
    sym (rw (eq-eqb (up_to gives 0 n) n e) refl)

-- the answer fits the number that C gets
pub fits_order : (n : ℕ) (say : ℕ → Answer) → n < 2 ^ 56 → ((j : ℕ) → Fits (say j)) → Fits (put_in_order n say)
unfolding put_in_order first_refused
fits_order n say few fit =
    let k : ℕ = first_refused n say in
    let b : k ≤ n = up_to_le (λ j. is_done (say j)) n in
    fits_ask (eqb k n) (number_of (say k)) k (fit k).number (omega arith) (fit k).listed

pub among_ask : (ns : List ℕ) (t : Bool) (number place : ℕ) → among ns 0 ≡ true → among ns number ≡ true → among ns (number_of (ask t number place)) ≡ true
among_ask ns true number place done refused = done
among_ask ns false number place done refused = refused

pub among_then : (ns : List ℕ) (a b : Answer) → among ns (number_of a) ≡ true → among ns (number_of b) ≡ true → among ns (number_of (then a b)) ≡ true
among_then ns Done b first rest = rest
among_then ns (No number place) b first rest = first

-- of several pieces: those of one of them
pub among_order : (ns : List ℕ) (n : ℕ) (say : ℕ → Answer) → among ns 0 ≡ true → ((j : ℕ) → among ns (number_of (say j)) ≡ true) → among ns (number_of (put_in_order n say)) ≡ true
unfolding put_in_order
among_order ns n say done each =
    among_ask ns (eqb (first_refused n say) n) (number_of (say (first_refused n say))) (first_refused n say) done (each (first_refused n say))
