-- Each turn fills 24 places more, and after 630 turns all are filled.
use mathlib.Core.Path.{refl, ◌∙◌}
use native.Mathlib.Omega.{arith}
use Rattle.bits.specs.Pack.{bit_at}
use Rattle.bits.proofs.Laws.Pack.{bit_lt}
use Rattle.encoder_turns.proofs.Turning.{third_turns, coding_none, coding_small, push_byte, last_two, coding_on, coding_done}
use Rattle.encoder_turns.proofs.thirds.Goals as goal

pub loop-i-init : goal.loop-i-init
loop-i-init c = (coding_none 0 8 24 _ _ c.requires.codes.coded_size)

pub pushed-w-requires : goal.pushed-w-requires
pushed-w-requires c = omega (arith, coding_small 0 8 24 _ (bit_lt _) _ _ _ c.loop-i.invariant)

pub loop-i-preserved : goal.loop-i-preserved
loop-i-preserved c =
    let l = c.loop-i in
    let s = c in
    let xs = c.args.input.now in
    let p = c.pushed-w in
    let all = p.ensures ∙ push_byte xs (λ k. omega (arith, c.type_inv.input k)) 8 l.i 0 _ l.i l.invariant.carried (omega arith) in
    (coding_on 0 8 24 third_turns (bit_at xs) (bit_lt xs) _ _ _ l.i _ _ l.invariant all (last_two _ _ _ p.ensures) c.third_turn.ensures)

pub returns : goal.returns
returns c = coding_done 0 8 24 630 _ _ _ c.loop-i.i refl (omega arith) c.loop-i.invariant
