-- The two ways undo each other: the reader accepts exactly the written words.
use mathlib.Core.Path.{◌≡◌, ap, ◌∙◌}
use mathlib.Core.List.{List}
use Prim.Native.Nat.{ℕ, ◌<◌}
use lib.ListN.{length}
use Rattle.bits.specs.Pack.{Bytes}
use Rattle.sizes.specs.Sizes.{word_bytes}
use Rattle.answers.specs.Answer.{Done}
use Rattle.word.specs.Word.{SameBits, SpareZero, word_of, block_in, coded_in, input_in, word_write_says, word_read_says}
use Rattle.word.proofs.Laws.Word as Laws
use Rattle.word.proofs.Laws.Answers as Answers

-- Reading what was written gives the block's k bits back, with spare bits of 0.
pub written_read : (rate : ℕ) (block : List ℕ) → word_write_says rate block word_bytes ≡ Done
    → (word_read_says rate (word_of rate block) (length block) ≡ Done)
    × SameBits rate (block_in rate (word_of rate block)) block
    × SpareZero rate (block_in rate (word_of rate block))
written_read rate block e =
    let a = Answers.write_accepted rate block word_bytes e in
    let h : rate < 3 = a.rate_is in
    let word : List ℕ = word_of rate block in (
      Answers.read_judged rate word (length block) h (Laws.word_length_lem rate block) a.block_is
          ∙ Answers.judged_done rate (coded_in word) (input_in rate word) (Laws.passes_13 rate block h) (Laws.passes_14 rate block h) (Laws.passes_15 rate block h),
      Laws.bits_back rate block h,
      (Laws.block_packed rate word).spare,
    )

-- A block whose spare bits are 0 comes back whole.
pub whole_back : (rate : ℕ) (block : List ℕ) → Bytes block → word_write_says rate block word_bytes ≡ Done → SpareZero rate block → block_in rate (word_of rate block) ≡ block
whole_back rate block b e z =
    let a = Answers.write_accepted rate block word_bytes e in
    Laws.block_back rate block a.rate_is (record { size = a.block_is; bytes = b; spare = z })

-- Whatever is accepted was written from the block that is returned.
pub read_written : (rate : ℕ) (word : List ℕ) (n : ℕ) → Bytes word → word_read_says rate word n ≡ Done
    → (word_write_says rate (block_in rate word) (length word) ≡ Done) × (word_of rate (block_in rate word) ≡ word)
read_written rate word n b e =
    let a = Answers.read_accepted rate word n e in
    let h : rate < 3 = a.rate_is in (
      ap (word_write_says rate (block_in rate word)) a.word_is ∙ Answers.always_written rate (block_in rate word) h (Laws.block_packed rate word).size,
      Laws.written_again rate word h a.word_is b a.sound_is,
    )
