use mathlib.Core.Path.{◌≡◌}
use mathlib.Core.Bool.{Bool}
use mathlib.Core.List.{List}
use Prim.Native.Nat.{ℕ, ◌<◌}
use lib.ListN.{length}
use Rattle.bits.specs.Basics.{up_to}
use Rattle.bits.specs.Pack.{piece}
use Rattle.answers.specs.Answer.{is_done}
use Rattle.sizes.specs.Sizes.{word_bytes}
use Rattle.word.specs.Word.{block_in}
use Rattle.pass.specs.Pass.{pass_word_says}
use Rattle.pass_words.proofs.read_words.Given as goal

-- word j gives a block
abbrev pub gives : ℕ → List ℕ → ℕ → Bool
gives rate words j = is_done (pass_word_says rate words j)

abbrev pub invariant-loop-j : goal.invariant-loop-j
invariant-loop-j l =
    (length l.blocks ≡ length l.initial.blocks) × ((i : ℕ) → i < l.j-counter → piece l.size l.blocks i ≡ block_in l.rate (piece word_bytes l.words i))
    × (up_to (gives l.rate l.words) l.j-counter l.n ≡ up_to (gives l.rate l.words) 0 l.n)
