-- The blocks are read aside, and copied once all words have given theirs.
use mathlib.Core.Path.{◌≡◌, refl, ◌∙◌}
use Prim.Native.Nat.{◌*◌}
use native.Mathlib.Omega.{arith}
use lib.ListN.{length}
use Rattle.sizes.specs.Sizes.{block_bytes}
use Rattle.pass.proofs.Laws.Return.{blocks_made}
use Rattle.pass_reader.proofs.read_with.Goals as goal

pub returns-clause-blocks_after : goal.returns-clause-blocks_after
returns-clause-blocks_after g c =
    let l = c.requires.lent in
    let r = c.read_words in
    let size : length r.new.blocks ≡ c.args.n * block_bytes c.args.rate = omega (arith, c.copy_from_slice.ensures.len, l.blocks_are) in
    c.copy_from_slice.ensures.after
    ∙ blocks_made c.args.rate c.args.n c.args.words.now r.new.blocks l.rate_is l.words_are size (c.in_ok-read_words.ensures.j_after refl)
