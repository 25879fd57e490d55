-- `stepped` meets its contract: antt computes both sides for each byte and each bit before it.
use mathlib.Core.Path.{◌≡◌}
use mathlib.Core.Logic.{⊎_elim}
use Prim.Native.Nat.{ℕ, ◌*◌, ◌/◌, ◌%◌, ◌<◌}
use lib.Bits.{bit_xor}
use lib.Dec.{eqb, eqb→eq}
use borrow.Author.Rules.{rules}
use Rattle.bits.proofs.Laws.Choice.{bit_cases}
use Rattle.bits.proofs.Laws.Table.{below_all}
use Rattle.bits.specs.Pack.{val}
use Rattle.accumulator.specs.Inner.{bit_of, behind, differentiate_from}
use Rattle.accumulator.proofs.stepped.Goals as goal

-- what the code computes
abbrev steps : ℕ → ℕ → ℕ
steps b prior = bit_xor (bit_xor b (b / 2)) (prior * 128 % 256)

right : (b prior : ℕ) → b < 256 → prior < 2 → steps b prior ≡ val (differentiate_from prior (bit_of b)) 8
unfolding val differentiate_from behind
right b prior h l =
    ⊎_elim
    (λ (e : prior ≡ 0). rw e (eqb→eq (steps b 0) (val (differentiate_from 0 (bit_of b)) 8) (below_all 256 (λ b. eqb (steps b 0) (val (differentiate_from 0 (bit_of b)) 8)) tt b h)))
    (λ (e : prior ≡ 1). rw e (eqb→eq (steps b 1) (val (differentiate_from 1 (bit_of b)) 8) (below_all 256 (λ b. eqb (steps b 1) (val (differentiate_from 1 (bit_of b)) 8)) tt b h)))
    (bit_cases prior l)

pub returns : goal.returns
returns c = right c.args.b c.args.prior (search rules) c.requires
