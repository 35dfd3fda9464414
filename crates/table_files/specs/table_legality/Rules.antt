-- The numbers of the rules of tables.
-- Source: the rules of `LegalTables` in `round_trip`.
use Rattle.std.specs.Prelude.{ℕ}
use Rattle.table_files.specs.declared.table_legality.rule.TableRule.{TableRule}
use Rattle.table_files.specs.declared.table_legality.rule.TableRule.TheVariants.{NullCell, CellDomain, RowKey, Reference}

-- the number that is printed after B
abbrev pub rule_number : TableRule → ℕ
rule_number NullCell = 1
rule_number CellDomain = 2
rule_number RowKey = 3
rule_number Reference = 4
