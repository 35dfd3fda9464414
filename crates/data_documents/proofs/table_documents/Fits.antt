-- The tables that a document holds are tables of the store.
use Rattle.std.proofs.Common.{◌≡◌, [], length, All, unwrap_or, sym, ap, subst, ◌∙◌}
use Rattle.std.specs.Option.{option_map}
use Rattle.std.proofs.Math.ListN.{length-map}
use Rattle.std.proofs.lemmas.List.Elements.{All-map}
use Rattle.std.proofs.lemmas.Option.{slice_get-map}
use Rattle.serde_json.specs.Data.{Data}
use Rattle.emc_base.specs.Lists.{At}
use Rattle.json_form.specs.from_nodes.Reading.{items_at}
use Rattle.round_trip.specs.Words.{StoreModel, Table, TableId, Row}
use Rattle.edm_types.specs.Rows.{AreTables, rows_in}
use Rattle.data_documents.specs.table_documents.Tables.{cell_in, row_in, rows_of_table, tables_in}

pub tables_fit : (store : StoreModel) (d : Data) → AreTables store (tables_in store d)
tables_fit store d = record { each = length-map store.tables (rows_of_table d); rows = rows }
  where
    rows : (t : TableId) (table : Table) → At store.tables t.index table
        → All (λ row. length row.cells ≡ length table.cols) (rows_in (tables_in store d) t)
    rows t table here =
        let FitsCols : Row → Type 0 = λ row. length row.cells ≡ length table.cols in
        let fits : (part : Data) → FitsCols (row_in table.cols part) = λ part. length-map table.cols (cell_in part) in
        let is : rows_in (tables_in store d) t ≡ rows_of_table d table =
        ap (λ found. unwrap_or found []) (slice_get-map (rows_of_table d) store.tables t.index ∙ ap (option_map (rows_of_table d)) here) in
        subst (All FitsCols) (sym is)
        (All-map FitsCols (row_in table.cols) (items_at table.name d) (λ k part within. fits _))
