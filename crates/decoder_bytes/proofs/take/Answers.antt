-- Rows of columns, whose rows and bits change places.
use Rattle.decoder_bytes.proofs.Transposing.{taken_made}
use Rattle.decoder_bytes.proofs.take.Goals as goal

pub returns : goal.returns
returns c =
    let room = c.stack.ensures in
    let turned = c.transposed.ensures in
    taken_made _ _ _ _ _ _ _ _ _ _ room turned c.copy_part.ensures
