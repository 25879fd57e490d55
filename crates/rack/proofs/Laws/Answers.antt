-- The answers fit the number that C gets: their place is 0, and their numbers are these.
use mathlib.Core.Path.{◌≡◌, refl}
use mathlib.Core.Bool.{Bool, true}
use mathlib.Core.List.{List, [], ◌∷◌}
use Prim.Native.Nat.{ℕ}
use native.Mathlib.Omega.{arith}
use lib.ListN.{length}
use Rattle.answers.specs.Answer.{number_of, place_of, ask, among}
use Rattle.answers.specs.Inner.{Fits}
use Rattle.answers.proofs.Laws.Answer.{fits_done, fits_ask, fits_then, placeless_ask, placeless_then, among_ask, among_then}
use Rattle.header.specs.Header.{fields_of}
use Rattle.header_questions.specs.Questions.{question1, question2, question3, question4, question5, question6, question7, question20, fields_say, form_says, header_says}
use Rattle.header_questions.proofs.Laws.Good.{header_fits, header_placeless}
use Rattle.rack.specs.Rack.{Task, Load, Read, Drop, Lend, Call, call_of, missions_right, place_right, allowed, header_asked, rack_lengths_right, entry_for, says}

-- ---- C's number

header_task_fits : (task : Task) → Fits (header_asked task)
header_task_fits (Load header) = header_fits header
header_task_fits (Read slice) = fits_done
header_task_fits Drop = fits_done
header_task_fits (Lend to) = fits_done

pub says_fits : (area : List ℕ) (call : Call) → Fits (says area call)
unfolding says
says_fits area call =
    let may : Bool = allowed call.caller call.owner call.task (entry_for area call) in
    let long : Bool = rack_lengths_right (length area) call.task in
    fits_then (ask (missions_right call) 23 0) _ (fits_ask (missions_right call) 23 0 (omega arith) (omega arith) (λ z. omega arith)) (λ a.
    fits_then (ask (place_right call) 24 0) _ (fits_ask (place_right call) 24 0 (omega arith) (omega arith) (λ z. omega arith)) (λ b.
    fits_then (ask may 25 0) _ (fits_ask may 25 0 (omega arith) (omega arith) (λ z. omega arith)) (λ d.
    fits_then (header_asked call.task) (ask long 8 0) (header_task_fits call.task) (λ e.
    fits_ask long 8 0 (omega arith) (omega arith) (λ z. omega arith)))))

-- ---- place 0

header_task_place : (task : Task) → place_of (header_asked task) ≡ 0
header_task_place (Load header) = header_placeless header
header_task_place (Read slice) = refl
header_task_place Drop = refl
header_task_place (Lend to) = refl

pub says_place : (area : List ℕ) (call : Call) → place_of (says area call) ≡ 0
unfolding says
says_place area call =
    let may : Bool = allowed call.caller call.owner call.task (entry_for area call) in
    let long : Bool = rack_lengths_right (length area) call.task in
    placeless_then (ask (missions_right call) 23 0) _ (placeless_ask (missions_right call) 23)
    (placeless_then (ask (place_right call) 24 0) _ (placeless_ask (place_right call) 24)
    (placeless_then (ask may 25 0) _ (placeless_ask may 25)
    (placeless_then (header_asked call.task) (ask long 8 0) (header_task_place call.task) (placeless_ask long 8))))

-- ---- the numbers

abbrev pub load_numbers : List ℕ
load_numbers = 0 ∷ 1 ∷ 2 ∷ 3 ∷ 4 ∷ 5 ∷ 6 ∷ 7 ∷ 8 ∷ 20 ∷ 23 ∷ 24 ∷ 25 ∷ []

abbrev pub other_numbers : List ℕ
other_numbers = 0 ∷ 8 ∷ 23 ∷ 24 ∷ 25 ∷ []

header_numbers : (header : List ℕ) → among load_numbers (number_of (header_says header)) ≡ true
unfolding header_says form_says fields_say
header_numbers header =
    let f = fields_of header in
    let ns : List ℕ = load_numbers in
    among_then ns (form_says header) (ask (question20 f) 20 0)
    (among_then ns (ask (question1 header) 1 0) _ (among_ask ns (question1 header) 1 0 refl refl)
    (among_then ns (ask (question2 f) 2 0) _ (among_ask ns (question2 f) 2 0 refl refl)
    (among_then ns (ask (question3 f) 3 0) _ (among_ask ns (question3 f) 3 0 refl refl)
    (among_then ns (ask (question4 f) 4 0) _ (among_ask ns (question4 f) 4 0 refl refl)
    (among_then ns (ask (question5 f) 5 0) _ (among_ask ns (question5 f) 5 0 refl refl)
    (among_then ns (ask (question6 f) 6 0) (ask (question7 f) 7 0) (among_ask ns (question6 f) 6 0 refl refl) (among_ask ns (question7 f) 7 0 refl refl)))))))
    (among_ask ns (question20 f) 20 0 refl refl)

module _ (ns : List ℕ) (n0 : among ns 0 ≡ true) (n8 : among ns 8 ≡ true) (n23 : among ns 23 ≡ true) (n24 : among ns 24 ≡ true) (n25 : among ns 25 ≡ true) where
  call_numbers : (area : List ℕ) (call : Call) → among ns (number_of (header_asked call.task)) ≡ true → among ns (number_of (says area call)) ≡ true
  unfolding says
  call_numbers area call header =
      let may : Bool = allowed call.caller call.owner call.task (entry_for area call) in
      let long : Bool = rack_lengths_right (length area) call.task in
      among_then ns (ask (missions_right call) 23 0) _ (among_ask ns (missions_right call) 23 0 n0 n23)
      (among_then ns (ask (place_right call) 24 0) _ (among_ask ns (place_right call) 24 0 n0 n24)
      (among_then ns (ask may 25 0) _ (among_ask ns may 25 0 n0 n25)
      (among_then ns (header_asked call.task) (ask long 8 0) header (among_ask ns long 8 0 n0 n8))))

pub load_numbers_lem : (area : List ℕ) (c o p : ℕ) (header : List ℕ) → among load_numbers (number_of (says area (call_of c o p (Load header)))) ≡ true
load_numbers_lem area c o p header = call_numbers load_numbers refl refl refl refl refl area (call_of c o p (Load header)) (header_numbers header)

pub read_numbers : (area : List ℕ) (c o p : ℕ) (slice : List ℕ) → among other_numbers (number_of (says area (call_of c o p (Read slice)))) ≡ true
read_numbers area c o p slice = call_numbers other_numbers refl refl refl refl refl area (call_of c o p (Read slice)) refl

pub drop_numbers : (area : List ℕ) (c o p : ℕ) → among other_numbers (number_of (says area (call_of c o p Drop))) ≡ true
drop_numbers area c o p = call_numbers other_numbers refl refl refl refl refl area (call_of c o p Drop) refl

pub lend_numbers : (area : List ℕ) (c o p to : ℕ) → among other_numbers (number_of (says area (call_of c o p (Lend to)))) ≡ true
lend_numbers area c o p to = call_numbers other_numbers refl refl refl refl refl area (call_of c o p (Lend to)) refl
