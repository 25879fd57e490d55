-- Proved where its statements are.
use Rattle.promises_words.proofs.Card3.{card_3}
use Rattle.promises.proofs.card_3.Goals as goal

pub returns : goal.returns
returns c = card_3
