-- Proved where its statements are.
use Rattle.promises_sheet.proofs.RunsheetHolds.{runsheet}
use Rattle.promises.proofs.runsheet_line.Goals as goal

pub returns : goal.returns
returns c = runsheet
