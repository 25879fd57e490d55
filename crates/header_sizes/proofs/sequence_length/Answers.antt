-- At most 210 · 7,560 symbols and 4,161,536 places between them.
use mathlib.Core.Path.{◌≡◌, ap₂}
use Prim.Native.Nat.{ℕ, ◌+◌, ◌*◌}
use native.Mathlib.Omega.{arith}
use Rattle.header_sizes.specs.Quantities.{block_count, symbols_per_word, sequence_length}
use Rattle.header_sizes.proofs.Laws.Bounds.{coded_most, sequence_most}
use Rattle.header_sizes.proofs.sequence_length.Goals as goal

pub returns : goal.returns
unfolding sequence_length
returns c =
    ap₂ (λ (a b : ℕ). a + b)
    (ap₂ (λ (a b : ℕ). a * b) c.block_count.ensures c.symbols_per_word.ensures)
    c.interleaver_delay.ensures

pub overflow_mul-result : goal.overflow_mul-result
overflow_mul-result c =
    let f = c.args.f in
    let e : c.block_count.result * c.symbols_per_word.result ≡ block_count f * symbols_per_word f =
    ap₂ (λ (a b : ℕ). a * b) c.block_count.ensures c.symbols_per_word.ensures in
    omega (arith, coded_most f c.requires)

pub overflow_add-result : goal.overflow_add-result
overflow_add-result c =
    let f = c.args.f in
    let e : c.block_count.result * c.symbols_per_word.result + c.interleaver_delay.result ≡ sequence_length f = returns c in
    omega (arith, sequence_most f c.requires)
