-- Each room holds as many blocks as it is taken for.
use mathlib.Core.Path.{◌≡◌, sym, ◌∙◌}
use mathlib.Core.Bool.{Bool}
use Prim.Native.Nat.{ℕ, ◌*◌, ◌≤◌, ◌<◌}
use native.Mathlib.Omega.{arith}
use native.Mathlib.Nat.{mul-le-mul, le_refl}
use Rattle.answers.specs.Answer.{Done, ask}
use Rattle.answers.proofs.Laws.Answer.{ask_done}
use Rattle.sizes.specs.Sizes.{block_bytes}
use Rattle.sizes.proofs.Laws.Rate.{block_room}
use Rattle.pass.specs.Pass.{pass_lengths_right}
use Rattle.pass.proofs.Laws.Answers.{right_said}
use Rattle.pass_reader.proofs.read.Goals as goal

-- n blocks of at most 1,256 bytes each, and at most 211
small : (rate n size b w : ℕ) (right : Bool) → rate < 3 → size ≡ block_bytes rate → right ≡ pass_lengths_right n size b w → Done ≡ ask right 8 0 → (b ≤ n * 1256) × (n ≤ 211)
small rate n size b w right h e l d =
    let r = right_said n size b w (sym l ∙ ask_done right 8 0 (sym d)) in
    let most : n * block_bytes rate ≤ n * 1256 = mul-le-mul (le_refl n) (block_room rate h) in
    (rw (r.blocks_are, e) most, r.few)

pub read_with-requires-clause-enough : goal.read_with-requires-clause-enough
read_with-requires-clause-enough c =
    let s = small c.args.rate _ _ _ _ _ (grind (arith)) c.block_bytes-size.ensures c.pass_lengths_right.ensures c.in_ok-ask-2.ensures in
    omega arith

pub read_with-requires-else-n-le16-clause-enough : goal.read_with-requires-else-n-le16-clause-enough
read_with-requires-else-n-le16-clause-enough c =
    let s = small c.args.rate _ _ _ _ _ (grind (arith)) c.block_bytes-size.ensures c.pass_lengths_right.ensures c.in_ok-ask-2.ensures in
    omega arith
