-- All residues that have places in the line are gathered, and then laid.
use Prim.Native.Nat.{◌+◌, ◌*◌, ◌≤◌, ◌<◌}
use native.Mathlib.Omega.{arith}
use Rattle.bits.specs.Pack.{piece}
use Rattle.channel.specs.Channel.{unit, layout_symbols}
use Rattle.sizes.specs.Sizes.{word_bytes}
use Rattle.slots.proofs.Laws.Bounds.{bounds}
use Rattle.slots_moves.proofs.Laws.Moves.{holds_is}
use Rattle.slots_lines.proofs.Laws.Lines as lines
use Rattle.slots_rows.proofs.Laws.Rows.{row_ended, row_is, many}
use Rattle.std.specs.Prelude.{ℕ, ◌%◌}
use Rattle.channel.specs.Inner.{delay}
use Rattle.slots.specs.Inner.{Lent}
use Rattle.slots_units.specs.Inner.{per_forty}
use Rattle.slots_rows.specs.Inner.{RowTo}
use mathlib.Core.List.{List}
use Rattle.plan.specs.declared.Plan.{Plan}
use Rattle.slots_rows.proofs.put_gathered.Goals as goal

-- the line's symbols are among those of the run
few : (p : Plan) (words : List ℕ) (line from to : ℕ) (row slots : List ℕ) → (Lent p words slots × (line < p.layout.lines) × (from ≤ to) × (to ≤ p.layout.rows) × RowTo p (piece word_bytes words) line from row × ((r : ℕ) → to ≤ r → r < p.layout.rows → line * p.layout.symbols + p.layout.symbols ≤ delay p.layout (r % p.layout.rows)) × (1 ≤ per_forty (p.copies * p.group))) → (line * unit p.layout + unit p.layout ≤ layout_symbols p.layout) × (layout_symbols p.layout < 8388608)
few p words line from to row slots asked =
    let f = asked.0.given.fine in
    ((lines.sizes p f line 0 asked.1).symbols, (bounds p f).symbols_bound)

pub lay_row-requires : goal.lay_row-requires
lay_row-requires c =
    let s = c in
    let p = c.args.p in
    let f = c.requires.0.given.fine in
    (row_is p f (piece word_bytes s.args.words.now) s.args.line s.args.to _ s.requires.1 c.row_residues.ensures, many p f, s.requires.6, s.requires.0.room)

pub returns : goal.returns
returns c end h =
    let s = c in
    let p = c.args.p in
    let f = c.requires.0.given.fine in
    let word = piece word_bytes s.args.words.now in
    let o = c.lay_row in
    let same = row_ended p f word s.args.line s.args.to _ s.requires.5 c.row_residues.ensures in
    holds_is p word (s.args.line * unit p.layout + p.layout.markers + p.layout.symbols) ((s.args.line + 1) * unit p.layout) end o.new.slots (omega arith) (o.ensures word end same h)
