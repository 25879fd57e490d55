-- Slot by slot near the end of the buffer; otherwise near or far.
use native.Mathlib.Omega.{arith}
use Rattle.pulses.proofs.Laws.Needs.{held}
use Rattle.pulses.proofs.Lone.{is_near, is_far}
use Rattle.pulses.proofs.numbers.seen.Goals as goal

pub symbol_there-requires : goal.symbol_there-requires
symbol_there-requires c = let s = c in let a = c.args in (held _ _ _ _ s.requires.0 a.s (omega arith), s.requires.1)

pub seen_near-requires : goal.seen_near-requires
seen_near-requires c = let s = c in (is_near _ _ _ _ s.requires.0 c.if-order-lt64.true (omega arith), s.requires.1)

pub seen_far-requires : goal.seen_far-requires
seen_far-requires c = let s = c in (is_far _ _ _ _ s.requires.0 (omega arith), s.requires.1)
