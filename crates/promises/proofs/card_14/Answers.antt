-- Proved where its statements are.
use Rattle.promises_uplink.proofs.Card14.{card_14}
use Rattle.promises.proofs.card_14.Goals as goal

pub returns : goal.returns
returns c = card_14
