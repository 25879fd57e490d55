-- A pass is its blocks coded singly, and its words read singly; the two ways undo each other.
use mathlib.Core.Path.{◌≡◌, sym, ap, ◌∙◌}
use mathlib.Core.List.{List}
use Prim.Native.Nat.{ℕ, ◌*◌, ◌<◌}
use native.Mathlib.Omega.{arith}
use lib.ListN.{length}
use Rattle.bits.specs.Pack.{bit_at, Bytes, piece}
use Rattle.bits.proofs.Laws.Pieces.{length_piece}
use Rattle.answers.specs.Answer.{Done}
use Rattle.answers.proofs.Laws.Answer.{done_all}
use Rattle.sizes.specs.Sizes.{block_bytes, word_bytes}
use Rattle.word.specs.Word.{SameBits, SpareZero, word_of, block_in, word_read_says}
use Rattle.word.proofs.Laws.Exports as word_laws
use Rattle.word.proofs.Laws.Return as word_return
use Rattle.pass.specs.Pass.{in_row, blocks_in, words_in, words_of, blocks_of, pass_word_says, pass_write_says, pass_read_says}
use Rattle.pass.proofs.Laws.Row.{inside, row_length, row_piece, row_made, bytes_row, bytes_piece}
use Rattle.pass.proofs.Laws.Answers.{Right, block_pos, blocks_count, words_count, write_accepted, write_all, read_accepted, read_right}

-- ---- a written pass

pub words_length_lem : (rate : ℕ) (blocks : List ℕ) → length (words_of rate blocks) ≡ blocks_in rate blocks * word_bytes
unfolding words_of
words_length_lem rate blocks =
    row_length word_bytes (λ j. word_of rate (piece (block_bytes rate) blocks j)) (blocks_in rate blocks) (λ j l. word_laws.word_length_lem rate (piece (block_bytes rate) blocks j))

-- word j is that of block j
pub words_piece : (rate : ℕ) (blocks : List ℕ) (j : ℕ) → j < blocks_in rate blocks → piece word_bytes (words_of rate blocks) j ≡ word_of rate (piece (block_bytes rate) blocks j)
unfolding words_of
words_piece rate blocks =
    row_piece word_bytes (λ j. word_of rate (piece (block_bytes rate) blocks j)) (blocks_in rate blocks) (λ j l. word_laws.word_length_lem rate (piece (block_bytes rate) blocks j))

-- n words, each that of its block, are the pass
pub words_made : (rate n : ℕ) (blocks words : List ℕ) → rate < 3 → length blocks ≡ n * block_bytes rate → length words ≡ n * word_bytes
    → ((j : ℕ) → j < n → piece word_bytes words j ≡ word_of rate (piece (block_bytes rate) blocks j)) → words ≡ words_of rate blocks
unfolding words_of
words_made rate n blocks words h eb ew each =
    let F : ℕ → List ℕ = λ j. word_of rate (piece (block_bytes rate) blocks j) in
    row_made word_bytes F n (omega arith) (λ j l. word_laws.word_length_lem rate (piece (block_bytes rate) blocks j)) words ew each
    ∙ ap (λ (x : ℕ). in_row x F) (sym (blocks_count rate n blocks h eb))

-- ---- a pass that is read

pub blocks_length_lem : (rate : ℕ) (words : List ℕ) → length (blocks_of rate words) ≡ words_in words * block_bytes rate
unfolding blocks_of
blocks_length_lem rate words =
    row_length (block_bytes rate) (λ j. block_in rate (piece word_bytes words j)) (words_in words) (λ j l. (word_laws.block_packed rate (piece word_bytes words j)).size)

-- block j is that of word j
pub blocks_piece : (rate : ℕ) (words : List ℕ) (j : ℕ) → j < words_in words → piece (block_bytes rate) (blocks_of rate words) j ≡ block_in rate (piece word_bytes words j)
unfolding blocks_of
blocks_piece rate words =
    row_piece (block_bytes rate) (λ j. block_in rate (piece word_bytes words j)) (words_in words) (λ j l. (word_laws.block_packed rate (piece word_bytes words j)).size)

-- both are bytes
pub words_bytes : (rate : ℕ) (blocks : List ℕ) → Bytes (words_of rate blocks)
unfolding words_of
words_bytes rate blocks = bytes_row (λ j. word_of rate (piece (block_bytes rate) blocks j)) (λ j. word_laws.word_bytes_lem rate (piece (block_bytes rate) blocks j)) (blocks_in rate blocks)

pub blocks_bytes : (rate : ℕ) (words : List ℕ) → Bytes (blocks_of rate words)
unfolding blocks_of
blocks_bytes rate words = bytes_row (λ j. block_in rate (piece word_bytes words j)) (λ j. (word_laws.block_packed rate (piece word_bytes words j)).bytes) (words_in words)

-- n blocks, each that of its word, are what is read
pub blocks_made : (rate n : ℕ) (words blocks : List ℕ) → rate < 3 → length words ≡ n * word_bytes → length blocks ≡ n * block_bytes rate
    → ((j : ℕ) → j < n → piece (block_bytes rate) blocks j ≡ block_in rate (piece word_bytes words j)) → blocks ≡ blocks_of rate words
unfolding blocks_of
blocks_made rate n words blocks h ew eb each =
    let F : ℕ → List ℕ = λ j. block_in rate (piece word_bytes words j) in
    row_made (block_bytes rate) F n (block_pos rate h) (λ j l. (word_laws.block_packed rate (piece word_bytes words j)).size) blocks eb each
    ∙ ap (λ (x : ℕ). in_row x F) (sym (words_count n words ew))

-- ---- there and back

module _ (rate : ℕ) (blocks : List ℕ) (m : ℕ) (e : pass_write_says rate blocks m ≡ Done) where
  n : ℕ
  n = blocks_in rate blocks

  words : List ℕ
  words = words_of rate blocks

  block : ℕ → List ℕ
  block j = piece (block_bytes rate) blocks j

  rate_is : rate < 3
  rate_is = (write_accepted rate blocks m e).rate_is

  right_is : Right n (block_bytes rate) (length blocks) m
  unfolding n
  right_is = (write_accepted rate blocks m e).right_is

  block_length_lem : (j : ℕ) → j < n → length (block j) ≡ block_bytes rate
  unfolding block
  block_length_lem j l = length_piece (block_bytes rate) blocks j (omega (arith, inside n (block_bytes rate) j l, right_is.blocks_are))

  back : (j : ℕ) → j < n → (pass_word_says rate words j ≡ Done) × SameBits rate (block_in rate (piece word_bytes words j)) (block j) × SpareZero rate (block_in rate (piece word_bytes words j))
  unfolding n words block
  back j l =
      let w : piece word_bytes words j ≡ word_of rate (block j) = words_piece rate blocks j l in
      let r = word_return.written_read rate (block j) (word_laws.always_written rate (block j) rate_is (block_length_lem j l)) in (
        ap (λ (x : List ℕ). word_read_says rate x (block_bytes rate)) w ∙ ap (word_read_says rate (word_of rate (block j))) (sym (block_length_lem j l)) ∙ r.0,
        λ i k. ap (λ (x : List ℕ). bit_at (block_in rate x) i) w ∙ r.1 i k,
        λ i k u. ap (λ (x : List ℕ). bit_at (block_in rate x) i) w ∙ r.2 i k u,
      )

  -- Reading what was written gives the blocks back, each its k bits with spare bits of 0.
  pub written_read : (pass_read_says rate (words_of rate blocks) (length blocks) ≡ Done)
      × ((j : ℕ) → j < blocks_in rate blocks
      → SameBits rate (piece (block_bytes rate) (blocks_of rate (words_of rate blocks)) j) (piece (block_bytes rate) blocks j)
      × SpareZero rate (piece (block_bytes rate) (blocks_of rate (words_of rate blocks)) j))
  unfolding n words block
  written_read = (
    read_right rate words n (length blocks) rate_is right_is.some right_is.few right_is.blocks_are (words_length_lem rate blocks)
        ∙ done_all n (pass_word_says rate words) (λ j l. (back j l).0),
    λ j l.
        let k : j < words_in words = rw (words_count n words (words_length_lem rate blocks)) l in
        let p : piece (block_bytes rate) (blocks_of rate words) j ≡ block_in rate (piece word_bytes words j) = blocks_piece rate words j k in
        (λ i k. ap (λ (x : List ℕ). bit_at x i) p ∙ (back j l).1 i k, λ i k u. ap (λ (x : List ℕ). bit_at x i) p ∙ (back j l).2 i k u),
  )

  -- Where all spare bits were 0, that is every byte of them.
  pub whole_back : Bytes blocks → ((j : ℕ) → j < blocks_in rate blocks → SpareZero rate (piece (block_bytes rate) blocks j)) → blocks_of rate (words_of rate blocks) ≡ blocks
  unfolding n words block
  whole_back b zero =
      sym (blocks_made rate n words blocks rate_is (words_length_lem rate blocks) right_is.blocks_are (λ j l.
      sym (ap (block_in rate) (words_piece rate blocks j l)
      ∙ word_return.whole_back rate (block j) (bytes_piece (block_bytes rate) blocks j b) (word_laws.always_written rate (block j) rate_is (block_length_lem j l)) (zero j l))))

-- Whatever is accepted was written from the blocks that are returned.
pub read_written : (rate : ℕ) (words : List ℕ) (m : ℕ) → Bytes words → pass_read_says rate words m ≡ Done
    → (pass_write_says rate (blocks_of rate words) (length words) ≡ Done) × (words_of rate (blocks_of rate words) ≡ words)
read_written rate words m b e =
    let a = read_accepted rate words m e in
    let n : ℕ = words_in words in
    let blocks : List ℕ = blocks_of rate words in
    let ew : length words ≡ n * word_bytes = a.right_is.words_are in
    let eb : length blocks ≡ n * block_bytes rate = blocks_length_lem rate words in (
      write_all rate blocks n (length words) a.rate_is a.right_is.some a.right_is.few eb ew,
      sym (words_made rate n blocks words a.rate_is eb ew (λ j l.
          sym (ap (word_of rate) (blocks_piece rate words j l)
          ∙ (word_laws.read_packed rate (piece word_bytes words j) (block_bytes rate) (bytes_piece word_bytes words j b) (a.each j l)).1))),
    )
