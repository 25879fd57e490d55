-- What the slice that was lent for a result holds after a call: the result on acceptance, and otherwise what it held. These two are open to all crates,
-- since they only join what a call says with what it makes, and those are shut.
use Rattle.std.specs.Prelude.{List, ℕ, length}
use Rattle.answers.specs.Answer.{after}
use Rattle.word.specs.Word.{word_write_says, word_read_says, word_of, block_in}

abbrev pub word_after : ℕ → List ℕ → List ℕ → List ℕ
word_after rate block old = after (word_write_says rate block (length old)) (word_of rate block) old

abbrev pub block_after : ℕ → List ℕ → List ℕ → List ℕ
block_after rate word old = after (word_read_says rate word (length old)) (block_in rate word) old
