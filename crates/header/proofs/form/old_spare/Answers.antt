-- A mask leaves the lowest 16 of the 64 bits.
use mathlib.Core.Path.{ap, ◌∙◌}
use Prim.Native.Nat.{ℕ}
use lib.Bits.{bit_and}
use Rattle.header.proofs.Cuts.{old_spare_cut}
use Rattle.header.proofs.form.old_spare.Goals as goal

pub returns : goal.returns
returns c = ap (λ (v : ℕ). bit_and v 65535) c.eight.ensures ∙ old_spare_cut c.args.header.now
