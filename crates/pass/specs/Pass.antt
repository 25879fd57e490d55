-- A pass: 1 to 211 packed blocks of one rate, back to back, and their words, back to back. What is said of each block or word, and what is made of
-- it, are those of crate `word`; its definitions are not opened here.
use Rattle.std.specs.Prelude.{Bool, List, [], ◌++◌, ℕ, zero, suc, ◌*◌, ◌/◌, ltb, leb, eqb, length}
use Rattle.bits.specs.Basics.{both}
use Rattle.bits.specs.Pack.{piece}
use Rattle.answers.specs.Answer.{Answer, after, ask, then, put_in_order}
use Rattle.sizes.specs.Sizes.{block_bytes, word_bytes}
use Rattle.word.specs.Word.{word_of, block_in, word_write_says, word_read_says}

-- the most blocks of a pass, at every rate
abbrev pub pass_most : ℕ
pass_most = 211

-- n pieces back to back
unfoldable pub in_row : ℕ → (ℕ → List ℕ) → List ℕ
in_row zero F = []
in_row (suc n) F = in_row n F ++ F n

-- the length gives the count: of the blocks in writing, of the words in reading
abbrev pub blocks_in : ℕ → List ℕ → ℕ
blocks_in rate blocks = length blocks / block_bytes rate

abbrev pub words_in : List ℕ → ℕ
words_in words = length words / word_bytes

-- ---- what the calls give

unfoldable pub words_of : ℕ → List ℕ → List ℕ
words_of rate blocks = in_row (blocks_in rate blocks) (λ j. word_of rate (piece (block_bytes rate) blocks j))

unfoldable pub blocks_of : ℕ → List ℕ → List ℕ
blocks_of rate words = in_row (words_in words) (λ j. block_in rate (piece word_bytes words j))

-- ---- the questions

-- 8: 1 to 211, whole blocks, and as many whole words
unfoldable pub pass_lengths_right : ℕ → ℕ → ℕ → ℕ → Bool
pass_lengths_right n size blocks_length words_length =
    both (leb 1 n) (both (leb n pass_most) (both (eqb blocks_length (n * size)) (eqb words_length (n * word_bytes))))

-- what the word writer answers to block j, and the word reader to word j
abbrev pub pass_block_says : ℕ → List ℕ → ℕ → Answer
pass_block_says rate blocks j = word_write_says rate (piece (block_bytes rate) blocks j) word_bytes

abbrev pub pass_word_says : ℕ → List ℕ → ℕ → Answer
pass_word_says rate words j = word_read_says rate (piece word_bytes words j) (block_bytes rate)

-- the two calls: 2, 8, and then one block or word after another; the first that is refused gives its number, and its index is the place
unfoldable pub pass_write_says : ℕ → List ℕ → ℕ → Answer
pass_write_says rate blocks words_length =
    then (ask (ltb rate 3) 2 0)
    (then (ask (pass_lengths_right (blocks_in rate blocks) (block_bytes rate) (length blocks) words_length) 8 0)
    (put_in_order (blocks_in rate blocks) (pass_block_says rate blocks)))

unfoldable pub pass_read_says : ℕ → List ℕ → ℕ → Answer
pass_read_says rate words blocks_length =
    then (ask (ltb rate 3) 2 0)
    (then (ask (pass_lengths_right (words_in words) (block_bytes rate) blocks_length (length words)) 8 0)
    (put_in_order (words_in words) (pass_word_says rate words)))

-- what the slice lent for the result holds afterwards: the result on acceptance, otherwise what it held
abbrev pub words_after : ℕ → List ℕ → List ℕ → List ℕ
words_after rate blocks old = after (pass_write_says rate blocks (length old)) (words_of rate blocks) old

abbrev pub blocks_after : ℕ → List ℕ → List ℕ → List ℕ
blocks_after rate words old = after (pass_read_says rate words (length old)) (blocks_of rate words) old
