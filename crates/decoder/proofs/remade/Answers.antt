-- `remade` meets its contract: `made` holds the input bits' coded bits, and the first place at which it differs from `coded` is the first wrong one.
use mathlib.Core.Path.{◌∙◌}
use Rattle.bits.specs.Pack.{bit_at}
use Rattle.convolution.specs.Code.{encode}
use Rattle.decoder.proofs.Agreeing.{same_made}
use Rattle.decoder.proofs.remade.Goals as goal

pub returns : goal.returns
returns c =
    let made = c in
    let s = c in
    c.first_apart.ensures
    ∙ same_made (encode s.args.rate (bit_at s.args.input.now)) made.encode.new.coded s.args.coded.now made.encode.ensures
