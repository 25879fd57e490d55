-- Questions 9 to 12 of slots b, and the words in them: the definitions of crates `pulses`, `pool` and `channel` for a plan's layout and numbers.
use Rattle.std.specs.Prelude.{Bool, List, ℕ, eqb}
use Rattle.bits.specs.Basics.{up_to}
use Rattle.channel.specs.Channel.{layout_symbols, place, symbol_of, mark_right, rest_zero, word_from}
use Rattle.pulses.specs.Pulses as pulses
use Rattle.pool.specs.Pooled as pool
use Rattle.plan.specs.declared.Plan.{Plan}
use Rattle.plan.specs.Plan.{sent_count}
use Rattle.answers.specs.Answer.{Answer, ask, then}

-- question 9: are the spare bits after the last slot empty?
abbrev pub spare_slots_empty : Plan → List ℕ → Bool
spare_slots_empty p b = pulses.spare_empty p.group (sent_count p) b

-- symbol s, pooled over its copies, or M where they do not decide on one; question 10: do they? And the first symbol of which they do not
abbrev pub pooled_in : Plan → List ℕ → ℕ → ℕ
pooled_in p b s = pool.pooled b p.copies p.group p.order s

abbrev pub first_bad_symbol : Plan → List ℕ → ℕ
first_bad_symbol p b = pool.first_undecided b p.copies p.group p.order (layout_symbols p.layout)

-- question 11: is each symbol, if it is a marker symbol, the right one? The first that is not
unfoldable pub first_bad_mark : Plan → List ℕ → ℕ
first_bad_mark p b = up_to (mark_right p.layout p.marks (pooled_in p b)) 0 (layout_symbols p.layout)

-- question 12: is each symbol, if it is at a place that is not hit, 0? The first that is not
unfoldable pub first_bad_rest : Plan → List ℕ → ℕ
first_bad_rest p b = up_to (rest_zero p.layout (pooled_in p b)) 0 (layout_symbols p.layout)

-- symbol t of the words, as read at its place; bit y of word j, and word j
abbrev pub data_in : Plan → List ℕ → ℕ → ℕ
data_in p b t = pooled_in p b (symbol_of p.layout (place p.layout t))

unfoldable pub word_out : Plan → List ℕ → ℕ → List ℕ
word_out p b j = word_from p.bits p.layout (data_in p b) j

-- What `slots_say` answers.

-- questions 9 to 12, in this order; the first no is the answer
unfoldable pub slots_say : Plan → List ℕ → Answer
slots_say p b =
    then (ask (spare_slots_empty p b) 9 0)
    (then (ask (eqb (first_bad_symbol p b) (layout_symbols p.layout)) 10 (first_bad_symbol p b))
    (then (ask (eqb (first_bad_mark p b) (layout_symbols p.layout)) 11 (first_bad_mark p b))
    (ask (eqb (first_bad_rest p b) (layout_symbols p.layout)) 12 (first_bad_rest p b))))
