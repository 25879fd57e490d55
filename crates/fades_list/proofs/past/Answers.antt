-- At most one fade ends at a symbol, as each has one.
use native.Mathlib.Omega.{arith}
use Rattle.fades_list.proofs.Listed.{more, left_on, left_past}
use Rattle.fades_list.proofs.past.Goals as goal

pub returns-then-i-fades : goal.returns-then-i-fades
returns-then-i-fades c = let s = c in left_on s.args.fades.now s.args.i s.args.s s.requires.0 (λ l. absurd (omega arith))

pub bounds-fades-i-2 : goal.bounds-fades-i-2
bounds-fades-i-2 c = let s = c in more s.args.fades.now s.args.i s.args.s s.requires.0 (omega arith)

pub returns-then-wide-s : goal.returns-then-wide-s
returns-then-wide-s c =
    let s = c in
    let w = c.wide.ensures.0 in
    let v = c.wide-2.ensures.0 in
    left_on s.args.fades.now s.args.i s.args.s s.requires.0 (λ l. omega arith)

pub returns : goal.returns
returns c =
    let s = c in
    let w = c.wide.ensures.0 in
    let v = c.wide-2.ensures.0 in
    left_past s.args.fades.now s.args.i s.args.s s.requires.0 (omega arith) (omega arith)
