-- Each turn fills 24 places more, and after 630 turns all are filled.
use mathlib.Core.Path.{refl, ◌∙◌}
use Prim.Native.Nat.{◌+◌, ◌*◌}
use native.Mathlib.Omega.{arith}
use Rattle.bits.specs.Pack.{Bytes, bit_at}
use Rattle.bits.proofs.Laws.Pack.{bit_lt}
use Rattle.encoder_turns.proofs.Turning.{two_thirds_turns, coding_none, coding_small, push_byte, last_two, coding_on, coding_done}
use Rattle.encoder_turns.proofs.two_thirds.Goals as goal

pub loop-i-init : goal.loop-i-init
loop-i-init c = (coding_none 2 16 24 _ _ c.requires.codes.coded_size)

pub pushed-one-requires : goal.pushed-one-requires
pushed-one-requires c = omega (arith, coding_small 2 16 24 _ (bit_lt _) _ _ _ c.loop-i.invariant)

pub pushed-w-requires : goal.pushed-w-requires
pushed-w-requires c =
    let l = c.loop-i in
    omega (arith, c.pushed-one.ensures, c.type_inv.input (2 * l.i), coding_small 2 16 24 _ (bit_lt _) _ _ _ l.invariant)

pub loop-i-preserved : goal.loop-i-preserved
loop-i-preserved c =
    let l = c.loop-i in
    let s = c in
    let xs = c.args.input.now in
    let bytes : Bytes xs = λ k. omega (arith, c.type_inv.input k) in
    let one = c.pushed-one.ensures ∙ push_byte xs bytes 16 l.i 0 _ (2 * l.i) l.invariant.carried (omega arith) in
    let all = c.pushed-w.ensures ∙ push_byte xs bytes 16 l.i 8 _ (2 * l.i + 1) one (omega arith) in
    (coding_on 2 16 24 two_thirds_turns (bit_at xs) (bit_lt xs) _ _ _ l.i _ _ l.invariant all (last_two _ _ _ c.pushed-w.ensures) c.two_thirds_turn.ensures)

pub returns : goal.returns
returns c = coding_done 2 16 24 630 _ _ _ c.loop-i.i refl (omega arith) c.loop-i.invariant
