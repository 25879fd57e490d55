-- Each answer is the one that the questions give, in their order, to the input bits that were read.
use mathlib.Core.Path.{◌≡◌, ap, ◌∙◌}
use mathlib.Core.List.{List}
use Prim.Native.Nat.{ℕ, ◌*◌}
use native.Mathlib.Omega.{arith}
use lib.ListN.{length, get_or}
use Rattle.sizes.specs.Inner.{input_bits}
use Rattle.sizes.proofs.Laws.Rate.{info_ge}
use Rattle.convolution.specs.Code.{decode}
use Rattle.convolution.proofs.Laws.Code.{decode_bits}
use Rattle.word.proofs.Laws.Judging.{says_13, says_rest, says_check}
use Rattle.word_judge.proofs.judge.Goals as goal
use Rattle.word_judge.proofs.judge.Goals.{After-end_of-end}
use Rattle.answers.specs.Answer.{ask, then}
use Rattle.std.proofs.lemmas.Grind.{common_steps}
use lib.Dec.{eqb}
use lib.Bits.{bit_and}
use Rattle.word.specs.Word.{judged, check_right}

size : (rate : ℕ) (before after : List ℕ) → 8 * length before ≡ input_bits rate → length after ≡ length before → 8 * length after ≡ input_bits rate
size rate before after h e = ap (λ (n : ℕ). 8 * n) e ∙ h

pub returns-then-at-ne-WORD_BITS-clause-value : goal.returns-then-at-ne-WORD_BITS-clause-value
returns-then-at-ne-WORD_BITS-clause-value c =
    let y : ℕ → ℕ = λ j. get_or c.args.coded.now j 0 in
    rw c.at.ensures (says_13 c.args.rate y (decode c.args.rate y) _ c.read-at.ensures.value c.if-at-ne-WORD_BITS.true)

pub end_of-end-requires : goal.end_of-end-requires
unfolding input_bits
end_of-end-requires c =
    let s = c in
    let r = c.read-at in
    omega (arith, size _ _ _ c.requires.input_size r.auto.input, info_ge s.args.rate)

pub check-check-requires : goal.check-check-requires
unfolding input_bits
check-check-requires c =
    let s = c in
    let r = c.read-at in
    omega (arith, size _ _ _ c.requires.input_size r.auto.input, c.info_bits.ensures)

-- what is left once question 13 is answered yes
rest : (c : After-end_of-end) → judged c.args.rate (λ j. get_or c.args.coded.now j 0) (decode c.args.rate (λ j. get_or c.args.coded.now j 0))
    ≡ then (ask (eqb (bit_and c.end_of-end.result 3) 0) 14 0) (ask (check_right c.args.rate (decode c.args.rate (λ j. get_or c.args.coded.now j 0))) 15 0)
rest c =
    let r = c.read-at in
    let y : ℕ → ℕ = λ j. get_or c.args.coded.now j 0 in
    says_rest c.args.rate y (decode c.args.rate y) _ r.ensures.value (omega arith) r.new.input (size _ _ _ c.requires.input_size r.auto.input) r.ensures.by_index
    (decode_bits c.args.rate y c.requires.coded_bits) _ c.end_of-end.ensures

pub returns-in_err-ask-clause-value : goal.returns-in_err-ask-clause-value
returns-in_err-ask-clause-value c = let e = rest (goal.at.returns-in_err-ask-clause-value c).After-end_of-end in grind (arith, common_steps)

pub returns-clause-value : goal.returns-clause-value
returns-clause-value c =
    let r = c.read-at in
    let y : ℕ → ℕ = λ j. get_or c.args.coded.now j 0 in
    let e = rest (goal.at.returns-clause-value c).After-end_of-end in
    let right = says_check c.args.rate y (decode c.args.rate y) _ r.ensures.value (omega arith) r.new.input (size _ _ _ c.requires.input_size r.auto.input) r.ensures.by_index
    (decode_bits c.args.rate y c.requires.coded_bits) _ c.end_of-end.ensures _ _ c.info_bits.ensures c.check-check.ensures in
    grind (arith, common_steps)
