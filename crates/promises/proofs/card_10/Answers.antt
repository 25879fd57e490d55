-- Proved where its statements are.
use Rattle.promises_rack.proofs.Card10.{card_10}
use Rattle.promises.proofs.card_10.Goals as goal

pub returns : goal.returns
returns c = card_10
