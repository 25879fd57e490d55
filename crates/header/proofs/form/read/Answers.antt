-- Each field is what a shift and a mask leave of the 64 bits.
use mathlib.Core.Path.{ap, ◌∙◌}
use Rattle.header.proofs.Cuts.{cut_from, whole, fields_cut}
use Rattle.header.proofs.form.read.Goals as goal

pub returns : goal.returns
returns c =
    let header = c.args.header.now in
    ap cut_from (c.eight-h.ensures ∙ whole header) ∙ fields_cut header
