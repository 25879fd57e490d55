-- `source_bit` meets its contract by the law `source_squares`: the table's constants are the formula's, and in the first line the sum is below two words.
use mathlib.Core.Path.{◌≡◌, ◌∙◌}
use Prim.Native.Nat.{ℕ, ◌+◌, ◌-◌, ◌*◌, ◌%◌}
use native.Mathlib.Omega.{arith}
use lib.ListN.{get_or}
use Rattle.sizes.specs.Sizes.{word_bits}
use Rattle.interleaver.proofs.Laws.Squares.{constants, source_squares}
use Rattle.interleaver_line.proofs.source_bit.Goals as goal

pub returns-then-p-lt-WORD_BITS : goal.returns-then-p-lt-WORD_BITS
returns-then-p-lt-WORD_BITS c =
    let s = c in
    let j = c.args.j in
    let p : ℕ = 11 * j + get_or s.args.squares.now (j % 36) 0 in
    let e : p ≡ p % word_bits = omega arith in
    e ∙ source_squares s.args.squares.now s.requires.0 j

pub returns-else-p-lt-WORD_BITS : goal.returns-else-p-lt-WORD_BITS
returns-else-p-lt-WORD_BITS c =
    let s = c in
    let j = c.args.j in
    let p : ℕ = 11 * j + get_or s.args.squares.now (j % 36) 0 in
    let e : p - word_bits ≡ p % word_bits = omega (arith, s.requires.1, constants s.args.squares.now s.requires.0 j) in
    e ∙ source_squares s.args.squares.now s.requires.0 j
