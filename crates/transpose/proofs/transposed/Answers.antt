-- Three stages are the transposition.
use native.Mathlib.Omega.{arith}
use Rattle.transpose.proofs.Exchanges.{mask_right, transposed}
use Rattle.transpose.proofs.transposed.Goals as goal

pub stage-requires : goal.stage-requires
stage-requires c = (mask_right 4 0x0F (omega arith) (omega arith) tt, omega arith, omega arith)

pub stage-requires-2 : goal.stage-requires-2
stage-requires-2 c = (mask_right 2 0x33 (omega arith) (omega arith) tt, omega arith, omega arith)

pub stage-requires-3 : goal.stage-requires-3
stage-requires-3 c = (mask_right 1 0x55 (omega arith) (omega arith) tt, omega arith, omega arith)

pub returns : goal.returns
returns c =
    let third = c in
    let second = c in
    let first = c in
    let s = c in
    transposed _ s.requires.0 _ _ _ _ first.stage.ensures second.stage-2.ensures third.stage-3.ensures (λ k. (c.type_inv.s k).fits)
