-- Proved where its statements are.
use Rattle.promises_fades.proofs.Card8.{card_8}
use Rattle.promises.proofs.card_8.Goals as goal

pub returns : goal.returns
returns c = card_8
