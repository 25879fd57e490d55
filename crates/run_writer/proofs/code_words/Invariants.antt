use mathlib.Core.Path.{◌≡◌}
use Prim.Native.Nat.{ℕ, ◌<◌}
use lib.ListN.{length}
use Rattle.run.specs.Run.{word_at}
use Rattle.bits.specs.Pack.{piece}
use Rattle.sizes.specs.Sizes.{word_bytes}
use Rattle.run_writer.proofs.code_words.Given as goal

abbrev pub invariant-loop-j : goal.invariant-loop-j
invariant-loop-j l =
    (length l.space ≡ 1256) × (length l.words ≡ length l.initial.words) × ((i : ℕ) → i < l.j → piece word_bytes l.words i ≡ word_at l.f l.frames i)
