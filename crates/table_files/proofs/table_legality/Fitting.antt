-- Legal rows and legal tables by what each row and each foreign key keeps.
use Rattle.std.proofs.Common.{List, All}
use Rattle.round_trip.specs.Words.{StoreModel, Table, Row, Tables, rows_in, AreTables, AreLegalTables, AreLegalRows, HasAllowedNullCells, HasCellsInDomain, Refers, FindsRow, KeepsForeignKey}
use Rattle.entity_state.proofs.breach_order.Turns.{all_as}
use Rattle.table_files.specs.table_legality.Cells.{FitsColumns}
use Rattle.table_files.specs.table_legality.References.{IsKept, KeepsAmong}
use Rattle.table_files.specs.table_legality.Tells.{HaveLegalRows, RowsApart}

pub rows_fit : (table : Table) (rows : List Row) → All (FitsColumns table) rows → RowsApart table rows → AreLegalRows table rows
rows_fit table rows fit apart = record {
  nulls = all_as (FitsColumns table) (HasAllowedNullCells table) (λ row fits col column here null. (fits.each col.index column here).null null) rows fit;
  domains = all_as (FitsColumns table) (HasCellsInDomain table) (λ row fits col column here. (fits.each col.index column here).domain) rows fit;
  keys = apart;
}

pub fit_rows : (table : Table) (rows : List Row) → AreLegalRows table rows → All (FitsColumns table) rows
fit_rows table rows legal = λ i d within. record {
  each = λ j column here. record {
    null = legal.nulls i d within (record { index = j }) column here;
    domain = legal.domains i d within (record { index = j }) column here;
  };
}

pub all_kept : (store : StoreModel) (tables : Tables) → AreTables store tables → HaveLegalRows store.tables tables → All (IsKept tables) store.keys → AreLegalTables store tables
all_kept store tables shape legal kept = record {
  shape = shape;
  rows = λ t table here. legal t.index table here;
  keys = all_as (IsKept tables) (KeepsForeignKey tables)
      (λ key is. all_as (KeepsAmong (rows_in tables key.to) key) (λ row. Refers key row → FindsRow tables key row) (λ row keeps. keeps.kept) (rows_in tables key.from) is.rows)
      store.keys kept;
}

pub kept_all : (store : StoreModel) (tables : Tables) → AreLegalTables store tables → All (IsKept tables) store.keys
kept_all store tables legal = all_as (KeepsForeignKey tables) (IsKept tables)
    (λ key keeps. record { rows = all_as (λ row. Refers key row → FindsRow tables key row) (KeepsAmong (rows_in tables key.to) key) (λ row kept. record { kept = kept }) (rows_in tables key.from) keeps })
    store.keys legal.keys

pub legal_each : (store : StoreModel) (tables : Tables) → AreLegalTables store tables → HaveLegalRows store.tables tables
legal_each store tables legal = λ t table here. legal.rows (record { index = t }) table here
