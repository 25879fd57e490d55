-- Proved where its statements are.
use Rattle.promises_terms.proofs.TermsHold.{terms}
use Rattle.promises.proofs.terms.Goals as goal

pub returns : goal.returns
returns c = terms
