-- The part of the blocks is block j, which has the right length and is therefore written.
use mathlib.Core.Path.{◌≡◌, ap, ◌∙◌}
use mathlib.Core.List.{List}
use Prim.Native.Nat.{ℕ}
use native.Mathlib.Omega.{arith}
use lib.ListN.{length}
use Rattle.bits.specs.Pack.{piece}
use Rattle.bits.proofs.Laws.Pieces.{length_piece}
use Rattle.sizes.specs.Sizes.{block_bytes}
use Rattle.word.specs.Word.{word_write_says}
use Rattle.word.proofs.Laws.Exports.{always_written}
use Rattle.pass.proofs.Laws.Row.{inside}
use Rattle.pass.proofs.Laws.Parts.{part_piece}
use Rattle.pass_writer.proofs.code_block.Goals as goal
use Rattle.pass_writer.proofs.code_block.Goals.{After-write}
use Rattle.answers.proofs.Laws.Answer.{ok_of}

pub unwrap-requires : goal.unwrap-requires
unwrap-requires c =
    let size = c.block_bytes-size in
    let rate : ℕ = c.args.rate in
    let block : List ℕ = piece (block_bytes rate) c.args.blocks.now c.args.j in
    let long : length block ≡ block_bytes rate = length_piece (block_bytes rate) c.args.blocks.now c.args.j (omega (arith, inside c.args.n (block_bytes rate) c.args.j c.requires.below, c.requires.blocks_are)) in
    ok_of _ (c.write.ensures.value
    ∙ ap (λ (x : List ℕ). word_write_says rate x (length c.args.word.now)) (part_piece size.result (block_bytes rate) c.args.blocks.now c.args.j size.ensures)
    ∙ ap (word_write_says rate block) c.requires.word_is
    ∙ always_written rate block c.requires.rate_is long)
