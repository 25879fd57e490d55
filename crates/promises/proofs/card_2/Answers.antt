-- Proved where its statements are.
use Rattle.promises_words.proofs.Card2.{card_2}
use Rattle.promises.proofs.card_2.Goals as goal

pub returns : goal.returns
returns c = card_2
