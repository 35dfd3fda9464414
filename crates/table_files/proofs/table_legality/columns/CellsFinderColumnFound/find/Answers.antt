use Rattle.std.proofs.Common.{arith}
use Rattle.std.proofs.lemmas.Grind.{common_steps}
use Rattle.table_files.proofs.table_legality.columns.CellsFinderColumnFound.find.Goals as goal

pub returns : goal.returns
returns c = grind (arith, common_steps)
