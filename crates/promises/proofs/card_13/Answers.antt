-- Proved where its statements are.
use Rattle.promises_words.proofs.Card13.{card_13}
use Rattle.promises.proofs.card_13.Goals as goal

pub returns : goal.returns
returns c = card_13
