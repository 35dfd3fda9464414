use Rattle.std.proofs.Common.{arith}
use Rattle.std.proofs.lemmas.Grind.{common_steps}
use Rattle.query_cases.proofs.case_index.codes.rows_code.Goals as goal

pub loop-placed-preserved : goal.loop-placed-preserved
loop-placed-preserved c = grind (arith, common_steps)

pub returns : goal.returns
returns c = grind (arith, common_steps)
