-- Each number of the layout is one of the header's quantities.
use mathlib.Core.Path.{refl}
use Rattle.header_sizes.specs.Quantities.{layout_of}
use Rattle.header_sizes.proofs.layout_of.Goals as goal

pub returns : goal.returns
unfolding layout_of
returns c =
    let f = c.args.f in
    let s = c.symbols_per_word in
    let w = c.block_count in
    let n = c.line_count in
    rw (s.ensures, w.ensures, n.ensures) refl
