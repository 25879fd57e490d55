-- Proved where its statements are.
use Rattle.promises_words.proofs.Card4.{card_4}
use Rattle.promises.proofs.card_4.Goals as goal

pub returns : goal.returns
returns c = card_4
