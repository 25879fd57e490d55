-- Sums of columns are columns of sums.
use Rattle.decoder_fast.proofs.Reading.{pairs_held}
use Rattle.decoder_fast.proofs.summed.Goals as goal

pub returns : goal.returns
returns c =
    let s = c in
    let v = c.columns.ensures in
    record { coded_is = s.requires.coded; columns = v; pairs = pairs_held s.args.coded.now _ _ s.requires.coded v c.twos.ensures }
