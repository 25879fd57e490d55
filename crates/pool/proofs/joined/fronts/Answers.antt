-- Copy after copy.
use Prim.Native.Nat.{ℕ, ◌+◌, ◌*◌}
use Rattle.bits.specs.Pack.{Bits, cut}
use Rattle.bits.proofs.Laws.Pack.{bit_lt, cut_bits}
use Rattle.bits.specs.Inner.{bits_from}
use Rattle.pool.proofs.Joining.{join_none, join_more}
use Rattle.pool.proofs.joined.fronts.Goals as goal

pub loop-c-init : goal.loop-c-init
loop-c-init c = join_none _

pub loop-c-preserved : goal.loop-c-preserved
loop-c-preserved c =
    let a = c.args in
    let l = c.loop-c in
    let w : ℕ → ℕ → ℕ = λ c. cut a.width (bits_from a.b.now (8 * (a.at + c * a.bytes))) in
    let bits : (c : ℕ) → Bits (w c) = λ c.
    cut_bits a.width (bits_from a.b.now (8 * (a.at + c * a.bytes))) (λ t. bit_lt a.b.now (8 * (a.at + c * a.bytes) + t)) in
    join_more w bits l.c l.any c.front-any.result l.invariant c.front-any.ensures
