-- The proofs about questions and answers.
use mathlib.Core.Path.{◌≡◌, refl, ap}
use native.Mathlib.Omega.{arith}
use borrow.Author.Tests.{ne_eqb}
use Rattle.bits.proofs.Laws.First.{found_at}
use Rattle.answers.specs.Answer.{Answer, No, is_done, first_refused, put_in_order, number_of}
use Rattle.answers.proofs.Laws.Answer.{done_all}
use Rattle.promises_terms.specs.Answers.{Answers, AskIs, BothIs, ThenIs, InOrderIs, NumberIs, AmongIs, AfterIs, RefusedCode, AcceptedCode}

-- ---- how questions follow one another

pub ask_is : AskIs
ask_is number place = (refl, refl)

pub both_is : BothIs
both_is t = (refl, refl)

pub then_is : ThenIs
then_is rest number place = (refl, refl)

pub in_order_is : InOrderIs
unfolding put_in_order first_refused
in_order_is n say = (
  done_all n say,
  λ j number place l before e.
      let found : first_refused n say ≡ j = found_at (λ i. is_done (say i)) 0 n j (omega arith) l (λ i a b. ap is_done (before i b)) (ap is_done e) in
      let ne : j ≡ n → ⊥ = λ z. omega arith in
      rw (found, ne_eqb j n ne) (ap (λ (a : Answer). No (number_of a) j) e),
)

pub number_is : NumberIs
number_is number place = (refl, refl, refl, refl)

pub among_is : AmongIs
among_is n number ns = (refl, refl)

-- ---- afterwards

pub after_is : AfterIs
after_is new old number place = (refl, refl)

pub refused_code : RefusedCode
refused_code number place = refl

pub accepted_code : AcceptedCode
accepted_code = refl

-- all of it
pub answers : Answers
answers = record {
  ask_is = ask_is;
  both_is = both_is;
  then_is = then_is;
  in_order_is = in_order_is;
  number_is = number_is;
  among_is = among_is;
  after_is = after_is;
  refused_code = refused_code;
  accepted_code = accepted_code;
}
