-- The digits that `io::decimal` gives are those of the definition, and they are at most 20.
use mathlib.Core.Path.{◌∙◌}
use native.Mathlib.Omega.{arith}
use lib.ListN.{take}
use Rattle.sheet.specs.Text.{decimal}
use Rattle.sheet.proofs.Decimals.{digits_few, digits_decimal}
use Rattle.sheet.proofs.Pieces.{put_same}
use Rattle.sheet.proofs.text.put_decimal.Goals as goal

pub put-requires : goal.put-requires
put-requires c =
    let s = c in
    let d = c.decimal-k in
    omega (arith, digits_few s.args.n d.result s.ranges.n.fits d.ensures.len, d.ensures.in_bounds.1)

pub returns : goal.returns
returns c =
    let s = c in
    let d = c.decimal-k in
    put_same s.args.out.now _ (take d.result d.new.out) (decimal s.args.n) s.args.at _
    (d.ensures.digits ∙ digits_decimal s.args.n d.result (digits_few s.args.n d.result s.ranges.n.fits d.ensures.len) d.ensures.len)
    c.put.ensures
