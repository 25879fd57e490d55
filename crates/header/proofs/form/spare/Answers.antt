-- A mask leaves the lowest 26 of the 64 bits.
use mathlib.Core.Path.{ap, ◌∙◌}
use Prim.Native.Nat.{ℕ}
use lib.Bits.{bit_and}
use Rattle.header.proofs.Cuts.{spare_cut}
use Rattle.header.proofs.form.spare.Goals as goal

pub returns : goal.returns
returns c = ap (λ (v : ℕ). bit_and v 67108863) c.eight.ensures ∙ spare_cut c.args.header.now
