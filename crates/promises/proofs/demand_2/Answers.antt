-- Proved where its statements are.
use Rattle.promises_runs.proofs.Demand2.{demand_2}
use Rattle.promises.proofs.demand_2.Goals as goal

pub returns : goal.returns
returns c = demand_2
