-- Proved where its statements are.
use Rattle.promises_calls.proofs.Card9.{card_9}
use Rattle.promises.proofs.card_9.Goals as goal

pub returns : goal.returns
returns c = card_9
