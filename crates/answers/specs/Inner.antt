-- What the code answers, as an answer of the questions; an answer with another place; and answers whose number and place fit the one number
-- that C gets.
use Rattle.std.specs.Prelude.{◌≡◌, ℕ, ◌*◌, ◌^◌, ◌<◌, Result, Ok, Err}
use Rattle.answers.specs.declared.Fault.{Fault}
use Rattle.answers.specs.declared.Fault.TheVariants.{BadHeader, BadRate, BadOrder, BadRows, BadFit, BadFrames, BadMarker, BadLength, BadSpare, BadPulse, WrongMarker, BadIdle, BadCode, BadTermination, BadCheck, BadFrameMarker, BadFill, NoMarker, BadCopies, NoOldHeader, BadFades, BadMission, BadPlace, ClosedPlace, BadSymbol, BadBit, BadGroup, BadParity}
use Rattle.answers.specs.declared.Refusal.{Refusal}
use Rattle.answers.specs.Answer.{Answer, Done, No, number_of, place_of, code_of}

-- the number of the question that finds a fault
abbrev pub number : Fault → ℕ
number BadHeader = 1
number BadRate = 2
number BadOrder = 3
number BadRows = 4
number BadFit = 5
number BadFrames = 6
number BadMarker = 7
number BadLength = 8
number BadSpare = 9
number BadPulse = 10
number WrongMarker = 11
number BadIdle = 12
number BadCode = 13
number BadTermination = 14
number BadCheck = 15
number BadFrameMarker = 16
number BadFill = 18
number NoMarker = 19
number BadCopies = 20
number NoOldHeader = 21
number BadFades = 22
number BadMission = 23
number BadPlace = 24
number ClosedPlace = 25
number BadSymbol = 26
number BadBit = 27
number BadGroup = 28
number BadParity = 29

-- what a result says
abbrev pub answer_of : {A : Type 0} → Result A Refusal → Answer
answer_of (Ok value) = Done
answer_of (Err refusal) = No (number refusal.fault) refusal.place

-- the one number, where an acceptance gives one
abbrev pub code_given : Result ℕ Refusal → ℕ
code_given (Ok given) = given * 256
code_given (Err refusal) = code_of (No (number refusal.fault) refusal.place)

-- an answer that C may get: its code fits in 64 bits, and its number is in the list, which has no 17
pub record Fits (a : Answer) : Type 0 where
  pub number : number_of a < 256
  pub place : place_of a < 2 ^ 56
  pub listed : number_of a ≡ 17 → ⊥

-- and one with what an acceptance gives
abbrev pub FitsGiven : Result ℕ Refusal → Type 0
FitsGiven (Ok given) = given < 2 ^ 56
FitsGiven (Err refusal) = refusal.place < 2 ^ 56
