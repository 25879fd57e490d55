-- Proved where its statements are.
use Rattle.promises_words.proofs.Demand3.{demand_3}
use Rattle.promises.proofs.demand_3.Goals as goal

pub returns : goal.returns
returns c = demand_3
