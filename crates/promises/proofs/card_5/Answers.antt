-- Proved where its statements are.
use Rattle.promises_runs.proofs.Card5.{card_5}
use Rattle.promises.proofs.card_5.Goals as goal

pub returns : goal.returns
returns c = card_5
