-- Proved where its statements are.
use Rattle.promises_headers.proofs.EdgesHold.{edges}
use Rattle.promises.proofs.edges.Goals as goal

pub returns : goal.returns
returns c = edges
