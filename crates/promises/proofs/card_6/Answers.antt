-- Proved where its statements are.
use Rattle.promises_headers.proofs.Card6.{card_6}
use Rattle.promises_calls.proofs.HeaderRefusalsHold.{header_refusals}
use Rattle.promises.proofs.card_6.Goals as goal

pub returns : goal.returns
returns c = (card_6, header_refusals)
