-- What is found at one cell and at one row, and the least of it.
use Rattle.std.proofs.Common.{◌≡◌, ⊎_elim, Option, Some, None, true, false}
use Rattle.std.specs.Option.{is_some}
use Rattle.round_trip.specs.Words.{Value, Column}
use Rattle.table_files.specs.declared.table_legality.rule.TableRule.{TableRule}
use Rattle.table_files.specs.declared.table_legality.rule.TableRule.TheVariants.{NullCell, CellDomain, RowKey, Reference}
use Rattle.table_files.specs.table_legality.Cells.{BreaksInColumn, FitsColumn, ValueTold}

module _ (value : Value) (column : Column) where
  -- what may stand there breaks no rule
  pub fits_not : FitsColumn value column → (rule : TableRule) → ¬ BreaksInColumn value column rule
  fits_not fits NullCell breaks = absurd (let may = fits.null breaks.0 in let may_not = breaks.1 in cc)
  fits_not fits CellDomain breaks = ⊎_elim breaks.0 breaks.1 fits.domain
  fits_not fits RowKey breaks = breaks
  fits_not fits Reference breaks = breaks

  -- what a test by the rule says
  pub none_told : (told : Option TableRule) → is_some told ≡ false → ValueTold value column told → FitsColumn value column
  none_told None not tells = tells
  none_told (Some rule) not tells = absurd cc

  pub some_told : (told : Option TableRule) → is_some told ≡ true → ValueTold value column told → ¬ FitsColumn value column
  some_told None is tells fits = absurd cc
  some_told (Some rule) is tells fits = fits_not fits rule tells
