-- Proved where its statements are.
use Rattle.promises_runs.proofs.Card1.{card_1}
use Rattle.promises.proofs.card_1.Goals as goal

pub returns : goal.returns
returns c = card_1
