-- The block of the stream stands at the front of the space, and its word is always written.
use mathlib.Core.Path.{sym, ◌∙◌}
use Prim.Native.Nat.{◌≤◌}
use native.Mathlib.Omega.{arith}
use lib.ListN.{length}
use lib.Seq.{length-take-le}
use Rattle.answers.proofs.Laws.Answer.{ok_of}
use Rattle.sizes.proofs.Laws.Rate.{block_room}
use Rattle.header_sizes.proofs.Laws.Bounds.{blocks_most}
use Rattle.run_writer.proofs.Coding.{written}
use Rattle.run_writer.proofs.code_word.Goals as goal
use Rattle.run_writer.proofs.code_word.Goals.{After-block_bytes}

-- a block fits the space
room : (c : After-block_bytes) → c.block_bytes.result ≤ length c.args.space.now
room c = omega (arith, block_room c.args.f.rate c.requires.valid.rate, c.requires.space_is)

pub slice_bounds-block-end-2 : goal.slice_bounds-block-end-2
slice_bounds-block-end-2 c = sym (length-take-le _ _ (room (goal.at.slice_bounds-block-end-2 c).After-block_bytes))

pub fill_block-requires-clause-rate_bound : goal.fill_block-requires-clause-rate_bound
fill_block-requires-clause-rate_bound c = (
  c.requires.valid.rate,
  omega (arith, blocks_most c.args.f c.requires.valid, c.requires.below),
  length-take-le _ _ (room (goal.at.fill_block-requires-clause-rate_bound c).After-block_bytes) ∙ c.block_bytes.ensures,
)

pub unwrap-requires : goal.unwrap-requires
unwrap-requires c = ok_of _ (c.write.ensures.value ∙ written c.args.f c.requires.valid c.args.frames.now c.args.j _ _ c.fill_block.ensures c.requires.word_is)
