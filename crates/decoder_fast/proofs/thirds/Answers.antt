-- Where all differences are 0, the input bits that were taken make all coded bits.
use Rattle.bits.proofs.Laws.Sum.{or_zero}
use Rattle.decoder_fast.proofs.Reading.{third_read}
use Rattle.decoder_fast.proofs.thirds.Goals as goal

pub returns : goal.returns
returns c =
    let s = c in
    λ z.
    let p = or_zero _ _ z in
    let q = or_zero _ _ p.0 in
    third_read s.args.coded.now s.args.v.now s.args.d.now _ s.requires.summed (c.start_apart.ensures q.0) (c.apart.ensures q.1) (c.apart-2.ensures p.1)
    c.take.ensures
