-- The two bytes joined, shifted and masked are the bits: `shifted_out`.
use native.Mathlib.Omega.{arith}
use Rattle.bits.proofs.Fields.{shifted_out}
use Rattle.bits.proofs.packing.field.Goals as goal

pub returns : goal.returns
returns c =
    let s = c in
    shifted_out s.args.packed.now s.args.at s.args.n (λ i. omega (arith, c.type_inv.packed i)) s.requires.2 s.requires.3
