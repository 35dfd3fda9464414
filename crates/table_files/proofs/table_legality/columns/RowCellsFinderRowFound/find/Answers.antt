use Rattle.std.proofs.lemmas.Result.{IfOk-weaker}
use Rattle.entity_state.proofs.breach_order.Finds.{along}
use Rattle.table_files.proofs.table_legality.columns.RowCellsFinderRowFound.find.Goals as goal

pub returns : goal.returns
returns c = IfOk-weaker c.first_among.result _ _ (λ found. along _ _ _ found c.as_slice.ensures.items) c.first_among.ensures
