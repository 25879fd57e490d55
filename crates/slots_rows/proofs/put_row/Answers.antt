-- The row begins with zeros.
use mathlib.Core.Path.{sym}
use Prim.Native.Nat.{ℕ}
use lib.ListN.{length-replicate}
use Rattle.bits.specs.Pack.{piece}
use Rattle.bits.proofs.Laws.Buffers.{buffer_empty}
use Rattle.sizes.specs.Sizes.{word_bytes}
use Rattle.slots_rows.proofs.Laws.Rows.{row_begun}
use Rattle.slots_rows.proofs.put_row.Goals as goal

pub put_gathered-requires : goal.put_gathered-requires
put_gathered-requires c =
    let s = c in
    let p = c.args.p in (
      s.requires.0,
      s.requires.1,
      s.requires.2,
      s.requires.3,
      row_begun p s.requires.0.given.fine (piece word_bytes s.args.words.now) s.args.line s.args.from _ (length-replicate {A = ℕ} 7560 0) (λ k. buffer_empty 7560 k) s.requires.4,
      s.requires.5,
      s.requires.6,
    )
