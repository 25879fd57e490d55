-- Proved where its statements are.
use Rattle.promises_words.proofs.Card7.{card_7}
use Rattle.promises.proofs.card_7.Goals as goal

pub returns : goal.returns
returns c = card_7
