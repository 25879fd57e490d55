-- One byte a turn, by the law `added_entry`: the table's rule is a computed test, and `start` is where the sequence comes again.
use mathlib.Core.Path.{refl}
use Prim.Native.Nat.{◌+◌, ◌<◌}
use native.Mathlib.Omega.{arith}
use native.Mathlib.Nat.{add-zero}
use lib.ListN.{get_or}
use borrow.Author.Rules.{rules}
use Rattle.bits.specs.Pack.{val}
use Rattle.randomizer.specs.Randomizer.{next, window}
use Rattle.randomizer.proofs.Period.{added_none, table_right, added_entry}
use Rattle.randomizer.proofs.add_period.Goals as goal

pub loop-i-init : goal.loop-i-init
unfolding next window val
loop-i-init c =
    (table_right _ refl refl, rw (add-zero c.args.start) (added_none c.args.bytes.now c.args.start))

pub loop-i-preserved : goal.loop-i-preserved
loop-i-preserved c =
    let l = c.loop-i in
    let s = c in
    let byte : get_or l.bytes (s.args.start + l.i) 0 < 256 = search rules in (
      l.invariant.0,
      added_entry _ s.args.bytes.now l.bytes s.args.start l.i l.invariant.0 s.requires.0 (omega arith) (omega arith) byte l.invariant.1,
    )
