-- Where all differences are 0, the input bits that were taken make all coded bits.
use Rattle.bits.proofs.Laws.Sum.{or_zero}
use Rattle.decoder_fast.proofs.Reading.{fives_held, two_read}
use Rattle.decoder_fast.proofs.two_thirds.Goals as goal

pub returns : goal.returns
returns c =
    let s = c in
    let f = c.fives in
    let five = fives_held s.args.coded.now s.args.v.now f.new.out s.requires.summed.coded_is s.requires.summed.columns f.ensures in
    λ z.
    let p = or_zero _ _ z in
    two_read s.args.coded.now s.args.v.now s.args.d.now _ s.requires.summed f.new.out five (c.start_apart.ensures p.0) (c.apart.ensures p.1)
    c.take.ensures
