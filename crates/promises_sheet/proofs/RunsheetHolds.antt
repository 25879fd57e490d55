-- The proofs of the line of runsheet.
use mathlib.Core.Path.{◌≡◌, refl, sym, ap, ap₂, ◌∙◌}
use mathlib.Core.List.{List, [], ◌∷◌, ◌++◌}
use Prim.Native.Nat.{ℕ, zero, suc, ◌+◌, ◌*◌, ◌/◌, ◌%◌, ◌^◌, ◌≤◌, ◌<◌}
use native.Mathlib.Omega.{arith}
use native.Mathlib.Nat.{pow-suc}
use lib.Dec.{ltb}
use borrow.Author.Tests.{lt-ltb, le-ltb}
use Rattle.answers.specs.Answer.{Done}
use Rattle.bits.specs.Basics.{pick}
use Rattle.sizes.specs.Sizes.{inputs_per, coded_per}
use Rattle.header.specs.Header.{fields_of}
use Rattle.header.specs.declared.Fields.{Fields}
use Rattle.header_sizes.specs.Quantities.{pulse_order}
use Rattle.header_questions.specs.Questions.{header_says}
use Rattle.sheet.specs.Text.{digit, decimal_in, decimal, item, items}
use Rattle.sheet.specs.Line.{rate_text, run_numbers, run_line, no_line, line_for, line_of}
use Rattle.sheet.proofs.Examples as examples
use Rattle.sheet.proofs.Input.{other_length}
use Rattle.promises_sheet.specs.Runsheet.{Runsheet, PrintedIs, DecimalIs, LineRefused, LineAccepted, LineOfOthers, LineExample, spaced, numbers_of}

pub printed_is : PrintedIs
printed_is header out n p = (p.count, p.text)

-- a place more changes nothing
one_more : (k n : ℕ) → n < 10 ^ suc k → decimal_in (suc k) n ≡ decimal_in (suc (suc k)) n
unfolding decimal_in
one_more zero n l = let h : n < 10 = l in rw (lt-ltb n 10 h) refl
one_more (suc k) n l =
    let m : n < 10 ^ suc k * 10 = rw (pow-suc 10 (suc k)) at l in
    ap (λ (x : List ℕ). pick (ltb n 10) (digit n ∷ []) (x ++ (digit (n % 10) ∷ []))) (one_more k (n / 10) (omega arith))

one_digit : (k n : ℕ) → n < 10 → decimal_in (suc k) n ≡ (48 + n) ∷ []
unfolding decimal_in
one_digit k n l = rw (lt-ltb n 10 l) refl

last_digit : (k n : ℕ) → 10 ≤ n → decimal_in (suc k) n ≡ decimal_in k (n / 10) ++ ((48 + n % 10) ∷ [])
unfolding decimal_in
last_digit k n l = rw (le-ltb n 10 l) refl

pub decimal_is : DecimalIs
unfolding decimal
decimal_is n = (
  one_digit 19 n,
  λ l m. last_digit 19 n l ∙ ap (λ (x : List ℕ). x ++ ((48 + n % 10) ∷ [])) (one_more 18 (n / 10) (omega arith)),
)

-- each number after a space, as the definition has it
items_are : (ns : List ℕ) → items ns ≡ spaced ns
unfolding items item
items_are [] = refl
items_are (n ∷ ns) = ap (λ (x : List ℕ). 32 ∷ (decimal n ++ x)) (items_are ns)

pub line_refused : LineRefused
unfolding line_of no_line
line_refused header number place e = rw (e) (ap (λ (x : List ℕ). 110 ∷ 111 ∷ x) (items_are (number ∷ [])))

accepted_at : (header : List ℕ) (f : Fields) (rate : ℕ) → header_says header ≡ Done → f ≡ fields_of header → f.rate ≡ rate
    → line_of header ≡ rate_text rate ++ spaced (numbers_of f)
unfolding line_of run_line run_numbers pulse_order
accepted_at header f rate e g h =
    ap₂ line_for e (sym g) ∙ ap₂ (λ (x y : List ℕ). x ++ y) (ap rate_text h) (items_are (numbers_of f))

pub line_accepted : LineAccepted
unfolding rate_text inputs_per coded_per
line_accepted header e f g = (accepted_at header f 0 e g, accepted_at header f 1 e g, accepted_at header f 2 e g)

pub line_of_others : LineOfOthers
unfolding decimal decimal_in
line_of_others header h = line_refused header 1 0 (other_length header h)

pub line_example : LineExample
line_example = examples.example

-- all of it
pub runsheet : Runsheet
runsheet = record {
  printed_is = printed_is;
  decimal_is = decimal_is;
  line_refused = line_refused;
  line_accepted = line_accepted;
  line_of_others = line_of_others;
  line_example = line_example;
}
