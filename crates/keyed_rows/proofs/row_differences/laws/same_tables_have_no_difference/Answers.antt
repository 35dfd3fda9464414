use Rattle.keyed_rows.proofs.row_differences.Law.{none_differs}
use Rattle.keyed_rows.proofs.row_differences.laws.same_tables_have_no_difference.Goals as goal

pub returns : goal.returns
returns c store is_free tables fresh kept apart are t key held demanded differ =
    none_differs store is_free tables fresh kept apart are t differ.table differ.is_table key held demanded differ.held_is differ.demanded_is differ.differ
