use mathlib.Core.Path.{◌≡◌}
use Prim.Native.Nat.{ℕ, ◌*◌, ◌<◌}
use lib.ListN.{length}
use Rattle.bits.specs.Pack.{piece}
use Rattle.sizes.specs.Sizes.{block_bytes, word_bytes}
use Rattle.word.specs.Word.{word_of}
use Rattle.pass_writer.proofs.code_all.Given as goal

abbrev pub invariant-loop-j : goal.invariant-loop-j
invariant-loop-j l =
    (length l.words ≡ l.n * word_bytes) × ((i : ℕ) → i < l.j → piece word_bytes l.words i ≡ word_of l.rate (piece (block_bytes l.rate) l.blocks i))
