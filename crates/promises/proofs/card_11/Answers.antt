-- Proved where its statements are.
use Rattle.promises_calls.proofs.Card11.{card_11}
use Rattle.promises.proofs.card_11.Goals as goal

pub returns : goal.returns
returns c = card_11
