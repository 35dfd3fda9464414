use Rattle.case_laws.proofs.filled_rows.Tables.{tables_are}
use Rattle.case_laws.proofs.filled_rows.gathered_rows_are_the_tables.Goals as goal

pub returns : goal.returns
returns c = record {
  tables = λ basis is local joined fills few hosted state are_hosted legal no_clash. tables_are basis local joined hosted state
      (record { is = is; fills = fills; few = few; are_hosted = are_hosted; legal = legal; no_clash = no_clash });
}
