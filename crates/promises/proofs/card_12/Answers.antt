-- Proved where its statements are.
use Rattle.promises_words.proofs.Card12.{card_12}
use Rattle.promises.proofs.card_12.Goals as goal

pub returns : goal.returns
returns c = card_12
