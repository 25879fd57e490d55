-- The block is copied and randomized, and its check put after it.
use mathlib.Core.Path.{◌∙◌, sym, ap}
use mathlib.Core.List.{List, ◌++◌}
use Prim.Native.Nat.{ℕ, ◌≤◌}
use native.Mathlib.Omega.{arith}
use lib.ListN.{length, drop}
use lib.Seq.{length-take-le, take-length}
use Rattle.sizes.specs.Inner.{input_bits}
use Rattle.sizes.proofs.Laws.Rate.{block_size}
use Rattle.word.proofs.Laws.Word.{taken_made, input_taken}
use Rattle.word_writer.specs.Inner.{Inputs}
use Rattle.word_writer.proofs.take_in.Goals as goal

-- the block fits the buffer
fits : (rate : ℕ) (block input : List ℕ) → Inputs rate block input → length block ≤ length input
unfolding input_bits
fits rate block input p = omega (arith, block_size rate p.rate_is)

pub slice_bounds-copy_from_slice-end : goal.slice_bounds-copy_from_slice-end
slice_bounds-copy_from_slice-end c = fits _ _ _ c.requires

pub slice_bounds-copy_from_slice-end-2 : goal.slice_bounds-copy_from_slice-end-2
slice_bounds-copy_from_slice-end-2 c = sym (length-take-le _ _ (fits _ _ _ c.requires))

pub copy_from_slice-requires : goal.copy_from_slice-requires
copy_from_slice-requires c = length-take-le _ _ (fits _ _ _ c.requires)

pub returns : goal.returns
returns c =
    let a = c.args in
    let w = c.randomize in
    let front = ap (λ (xs : List ℕ). xs ++ drop (length a.block.now) a.input.now) (c.copy_from_slice.ensures.after ∙ sym (take-length a.block.now)) in
    let taken = taken_made a.rate a.block.now a.input.now _ w.new.bytes c.requires.rate_is c.requires.block_is front w.ensures in
    λ i l. c.add_check.ensures i l ∙ input_taken a.rate a.block.now w.new.bytes taken i
