-- Up to M = 32 a group is near, from M = 64 on far.
use native.Mathlib.Omega.{arith}
use Rattle.pulses.proofs.Lone.{is_near, is_far}
use Rattle.pulses.proofs.numbers.symbol.Goals as goal

pub near-requires : goal.near-requires
near-requires c = let s = c in let m = c.requires.1 in is_near _ _ _ _ s.requires.0 c.if-order-lt64.true (omega arith)

pub far-requires : goal.far-requires
far-requires c = is_far _ _ _ _ c.requires.0 (omega arith)
