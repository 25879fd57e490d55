-- `differentiate` meets its contract: at the loop's head the first i bytes are made, and `prior` is the given bit before bit 8 i.
use mathlib.Core.Path.{◌≡◌, refl, ap, ◌∙◌}
use Prim.Native.Nat.{ℕ, ◌*◌}
use native.Mathlib.Omega.{arith}
use lib.Bits.{and_mask}
use lib.ListN.{length, get_or}
use borrow.Author.Count.{below_none}
use borrow.Author.Rules.{rules}
use Rattle.bits.proofs.Laws.Table.{fill}
use Rattle.bits.specs.Pack.{val, bit_at}
use Rattle.bits.proofs.Laws.Pack.{bit_lt, bytes_by_byte}
use Rattle.accumulator.specs.Accumulator.{differentiate}
use Rattle.accumulator.specs.Inner.{bit_of, behind, differentiate_from}
use Rattle.accumulator.proofs.Places.{behind_bit, differentiated_byte, given_last}
use Rattle.accumulator.proofs.differentiate.Invariants.{made}
use Rattle.accumulator.proofs.differentiate.Goals as goal

pub loop-i-init : goal.loop-i-init
unfolding behind
loop-i-init c = (refl, search rules, below_none _)

pub stepped-requires : goal.stepped-requires
stepped-requires c =
    let l = c.loop-i in
    let xs = c.args.word.now in
    omega (arith, behind_bit (bit_at xs) (bit_lt xs) (8 * l.i))

pub loop-i-preserved : goal.loop-i-preserved
loop-i-preserved c =
    let l = c.loop-i in
    let xs = c.args.word.now in
    let e : c.stepped.result ≡ made xs l.i =
    c.stepped.ensures
    ∙ ap (λ (p : ℕ). val (differentiate_from p (bit_of (get_or xs l.i 0))) 8) l.invariant.0
    ∙ differentiated_byte xs l.i in
    (and_mask (get_or xs l.i 0) 1 ∙ given_last xs l.i, search rules, fill l.inputs (made xs) l.i c.stepped.result (search rules) e l.invariant.2)

pub returns : goal.returns
returns c =
    let l = c.loop-i in
    let xs = c.args.word.now in
    bytes_by_byte (length xs) (differentiate (bit_at xs)) l.inputs l.invariant.1 (λ k h. l.invariant.2 k (omega arith))
