-- The last eight bytes are taken as one number, whose first 30 bits stay, and put back.
use Prim.Native.Nat.{ℕ, ◌-◌}
use native.Mathlib.Omega.{arith}
use lib.ListN.{length}
use Rattle.convolution.proofs.Ending.{end_put}
use Rattle.convolution.proofs.ends.put_end.Goals as goal

pub returns : goal.returns
returns c =
    let s = c in
    let p = c.put_eight in
    let e = c.eight-front in
    let at : ℕ = length s.args.input.now - 8 in
    end_put s.args.input.now p.new.out s.args.check at (omega arith) (omega (arith, s.requires)) (rw e.ensures at p.ensures)
