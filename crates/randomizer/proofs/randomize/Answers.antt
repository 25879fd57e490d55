-- One period a turn, by the law `added_part`, the last up to the end; what was added to every byte is the definition's sum.
use mathlib.Core.Path.{◌≡◌, refl}
use Prim.Native.Nat.{◌+◌, min}
use native.Mathlib.Omega.{arith}
use lib.ListN.{length}
use Rattle.randomizer.proofs.Period.{added_part, added_all}
use Rattle.randomizer.proofs.randomize.Goals as goal

pub loop-start-preserved : goal.loop-start-preserved
loop-start-preserved c =
    let l = c.loop-start in
    let xs = c.args.bytes.now in
    let part = c.add_period in
    let most = c.min.ensures in
    let here : min l.start (length xs) ≡ l.start = omega arith in
    let next : l.start + c.min.result ≡ min (l.start + 255) (length xs) = omega arith in
    (omega arith, rw next at (added_part xs l.bytes part.new.bytes l.start (l.start + c.min.result) (omega arith) (rw here at l.invariant.1) part.ensures))

pub returns : goal.returns
returns c =
    let l = c.loop-start in
    let xs = c.args.bytes.now in
    let done : min l.start (length xs) ≡ length xs = omega arith in
    added_all (length xs) xs l.bytes refl (rw done at l.invariant.1)

pub returns-2 : goal.returns-2
returns-2 c =
    let l = c.loop-start in
    let xs = c.args.bytes.now in
    let part = c.add_period in
    let most = c.min.ensures in
    let here : min l.start (length xs) ≡ l.start = omega arith in
    let done : l.start + c.min.result ≡ length xs = omega arith in
    added_all (length xs) xs part.new.bytes refl
    (rw done at (added_part xs l.bytes part.new.bytes l.start (l.start + c.min.result) (omega arith) (rw here at l.invariant.1) part.ensures))
