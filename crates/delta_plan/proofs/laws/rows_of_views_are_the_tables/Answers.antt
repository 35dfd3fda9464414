use Rattle.delta_plan.proofs.laws.Whole.{views_tables}
use Rattle.delta_plan.proofs.laws.rows_of_views_are_the_tables.Goals as goal

pub returns : goal.returns
returns c = record {
  tables = λ basis is local joined fills few cells tells state legal clear. views_tables basis is local joined fills few cells tells state legal clear;
}
