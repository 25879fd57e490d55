-- Proved where its statements are.
use Rattle.promises_runs.proofs.FindFromHolds.{find_from}
use Rattle.promises.proofs.find_from.Goals as goal

pub returns : goal.returns
returns c = find_from
