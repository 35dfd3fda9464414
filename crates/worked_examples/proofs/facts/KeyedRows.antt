-- Tables in which one row may come of several writings: each key has its row, in which all that is written to the key stands.
use Rattle.std.proofs.Common.{◌≡◌, ◌⊎◌, ℕ, List, [], ◌∷◌, length, sym, ap, subst, ◌∙◌}
use Rattle.std.specs.Prelude.{Any}
use Rattle.std.specs.List.{AllByRecursion}
use Rattle.std.proofs.lemmas.List.Elements.{All-from_recursion, All-weaker}
use Rattle.round_trip.specs.Words.{TableId, ColId, Value, Null, Table, Column, Schema, Row, State, cell_of, row_key, Writing, Writes, written_key, Fills, DemandsRow, DemandsCell, HasNoClash, HasDemandedCells, AreDemandedRows, TablesAre}
use Rattle.worked_examples.specs.Ids.{table_id, col_id}
use Rattle.worked_examples.proofs.facts.Small.{EachAt, each_at, PairsByRecursion, all_pairs}
use Rattle.worked_examples.proofs.facts.LegalRows.{HaveOwnRowKeys}
use Rattle.worked_examples.proofs.facts.States.{IsStoredAt, stored_by_tables}

module _ (schema : Schema) (state : State) (row_for : TableId → List Value → Row) where
  -- what the writing gives stands in the row of its key
  abbrev pub IsInItsRow : Writing → Type 0
  IsInItsRow writing = (col : ColId) (value : Value) → Fills writing col value → value ≡ cell_of (row_for writing.table (written_key schema.store writing)) col

  module _ (each : (writing : Writing) → Writes schema state writing → IsInItsRow writing) where
    value_is : (t : TableId) (key : List Value) (col : ColId) (value : Value) → DemandsCell schema state t key col value → value ≡ cell_of (row_for t key) col
    value_is t key col value demands =
        let in_row : value ≡ cell_of (row_for demands.0.table (written_key schema.store demands.0)) col = each demands.0 demands.1.writes col value demands.2 in
        in_row
        ∙ ap (λ u. cell_of (row_for u (written_key schema.store demands.0)) col) demands.1.to_table
        ∙ ap (λ k. cell_of (row_for t k) col) demands.1.to_key

    pub no_clash_by_keys : HasNoClash schema state
    no_clash_by_keys t key col one two by_one by_two = value_is t key col one by_one ∙ sym (value_is t key col two by_two)

    module _ (t : TableId) (table : Table) where
      -- the row's i-th cell is null or demanded
      abbrev pub NullOrDemanded : Row → ℕ → Column → Type 0
      NullOrDemanded row i column = (cell_of row (col_id i) ≡ Null) ⊎ DemandsCell schema state t (row_key table row) (col_id i) (cell_of row (col_id i))

      -- the row is demanded, the one of its key, and holds nothing else
      pub record IsDemandedRow (row : Row) : Type 0 where
        pub demanded : DemandsRow schema state t (row_key table row)
        pub for_key : row_for t (row_key table row) ≡ row
        pub cells : EachAt (NullOrDemanded row) table.cols

      cells : (row : Row) → IsDemandedRow row → HasDemandedCells schema state t table row
      cells row is = record {
        demanded = λ col value demands. sym (value_is t (row_key table row) col value demands ∙ ap (λ r. cell_of r col) is.for_key);
        only = λ col column at. each_at (NullOrDemanded row) table.cols is.cells col.index column at;
      }

      -- the row of the writing, if it is to this table, is among them
      abbrev pub HasItsRow : List Row → Writing → Type 0
      HasItsRow rows writing = writing.table ≡ t → Any (λ row. row_key table row ≡ written_key schema.store writing) rows

      pub keyed_rows : (rows : List Row) → AllByRecursion IsDemandedRow rows → ((writing : Writing) → Writes schema state writing → HasItsRow rows writing)
          → PairsByRecursion (HaveOwnRowKeys table) rows → AreDemandedRows schema state t table rows
      keyed_rows rows each_row all own = record {
        demanded = All-weaker IsDemandedRow (λ row. DemandsRow schema state t (row_key table row)) (λ row is. is.demanded) rows (All-from_recursion IsDemandedRow rows each_row);
        all = λ key demands. subst (λ k. Any (λ row. row_key table row ≡ k) rows) demands.1.to_key (all demands.0 demands.1.writes demands.1.to_table);
        once = all_pairs (HaveOwnRowKeys table) rows own;
        cells = All-weaker IsDemandedRow (HasDemandedCells schema state t table) cells rows (All-from_recursion IsDemandedRow rows each_row);
      }

  -- a store of one table, in which these are the rows
  module _ (each : (writing : Writing) → Writes schema state writing → IsInItsRow writing) (table : Table) (rows : List Row) where
    abbrev HasAllCells : Row → Type 0
    HasAllCells row = length row.cells ≡ length table.cols

    pub record AreAllRows : Type 0 where
      pub is_table : table ∷ [] ≡ schema.store.tables
      pub made : AllByRecursion (IsDemandedRow each (table_id 0) table) rows
      pub found : (writing : Writing) → Writes schema state writing → HasItsRow each (table_id 0) table rows writing
      pub own : PairsByRecursion (HaveOwnRowKeys table) rows
      pub count : AllByRecursion HasAllCells rows

    pub all_rows_stored : AreAllRows → TablesAre schema state (rows ∷ [])
    all_rows_stored all = stored_by_tables schema state (rows ∷ []) (ap length all.is_table) (no_clash_by_keys each)
        (subst (EachAt (IsStoredAt schema state (rows ∷ []))) all.is_table (
          record { shape = All-from_recursion HasAllCells rows all.count; rows = keyed_rows each (table_id 0) table rows all.made all.found all.own },
          tt,
        ))
