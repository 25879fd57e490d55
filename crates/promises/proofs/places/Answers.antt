-- Proved where its statements are.
use Rattle.promises_runs.proofs.Places.{places}
use Rattle.promises.proofs.places.Goals as goal

pub returns : goal.returns
returns c = places
