-- Nothing is wrong with the shape of the tree of tables of a store, and each part of it is told.
use Rattle.std.proofs.Common.{◌≡◌, ◌-◌, ◌<◌, inl, inr, ℕ, List, map, All, IsUtf8, Option, Some, sym, subst, ◌∙◌, arith}
use Rattle.std.specs.List.{enumerate_from}
use Rattle.std.proofs.lemmas.Option.{none-some}
use Rattle.std.proofs.lemmas.Simd.{map-map}
use Rattle.serde_json.specs.Data.{Data}
use Rattle.serde_json.specs.Find.{get}
use Rattle.emc_base.specs.Lists.{AreApart, At}
use Rattle.emc_base.proofs.Mapped.{contains_enumerated, contains_map, map-enumerated}
use Rattle.json_form.specs.Trees.{array_of, value_tree}
use Rattle.json_form.proofs.Told.{told}
use Rattle.round_trip.specs.Words.{TableId, ColId, StoreModel, Table, Column, Row, Tables, rows_in, cell_of}
use Rattle.table_files.specs.TablesTree.{cell_member, row_tree, table_member, tables_tree}
use Rattle.table_files.specs.Tells.{HasApartNames, column_names}
use Rattle.data_documents.specs.declared.shape_faults.place.ShapeStep.{ShapeStep}
use Rattle.data_documents.specs.table_documents.Shapes.{IsCellFault, IsDocFault, IsMemberFault, IsRowFaultBy, column_named, table_named}
use Rattle.data_documents.specs.printed.Names.{HasTextNames}
use Rattle.data_documents.proofs.printed.Entries.{IsWholeEntry, array_good, array_whole, object_good, object_whole}
use Rattle.data_documents.proofs.printed.Lists.{all_at, each_numbered, named_at}
use Rattle.data_documents.proofs.printed.Rows.{AreGoodTables, IsGoodRow}
use Rattle.data_documents.proofs.printed.spelled.Whole.{IsWhole}

module _ (table : Table) (row : Row) (good : IsGoodRow table row) where
  abbrev cells : List (List ℕ × Data)
  cells = map (cell_member row) (enumerate_from 0 table.cols)

  -- nothing is wrong with a cell
  abbrev IsGoodCell : List ℕ × Data → Type 0
  IsGoodCell entry = (place : List ShapeStep) → ¬ IsCellFault (column_named table.cols entry.0) entry.1 place

  good_cell : AreApart (column_names table) → (entry : ℕ × Column) → At table.cols entry.0 entry.1 → IsGoodCell (cell_member row entry)
  good_cell apart entry here place fault =
      let col : ColId = record { index = entry.0 } in
      let P : Option Column → Type 0 = λ found. IsCellFault found (value_tree (cell_of row col)) place in
      let wrong = subst P (named_at (λ (column : Column). column.name) table.cols entry.0 entry.1 apart here) fault in
      absurd (none-some (cell_of row col) (sym wrong.0 ∙ (good.cells col entry.1 here).back))

  has_cell : AreApart (column_names table) → (i : ℕ) (column : Column) → At table.cols i column → get column.name (row_tree table row) ≡ Some (value_tree (cell_of row (record { index = i })))
  has_cell apart i column here =
      let names : map (λ (entry : List ℕ × Data). entry.0) cells ≡ column_names table =
      map-map (λ (entry : List ℕ × Data). entry.0) (cell_member row) (enumerate_from 0 table.cols) ∙ map-enumerated (λ (column : Column). column.name) 0 table.cols in
      told cells (column_names table) names apart (cell_member row (i, column))
      (contains_map (cell_member row) (enumerate_from 0 table.cols) (i, column) (contains_enumerated table.cols i column here))

  good_row : AreApart (column_names table) → (place : List ShapeStep) → ¬ IsRowFaultBy (column_named table.cols) table.cols (row_tree table row) place
  good_row apart place (inl inside) =
      object_good (λ name. IsCellFault (column_named table.cols name)) cells (each_numbered IsGoodCell (cell_member row) table.cols (good_cell apart)) place inside
  good_row apart place (inr lack) = absurd (none-some _ (sym lack.holds.absent ∙ has_cell apart lack.i lack.item lack.here))

  row_whole : All (λ column. IsUtf8 column.name) table.cols → (n : ℕ) → 0 < n → IsWhole n (row_tree table row)
  row_whole texts n some = object_whole n cells some
      (each_numbered (IsWholeEntry (n - 1)) (cell_member row) table.cols (λ entry here.
      (all_at (λ (column : Column). IsUtf8 column.name) table.cols entry.0 entry.1 texts here, (good.cells (record { index = entry.0 }) entry.1 here).whole (n - 1))))

module _ (store : StoreModel) (tables : Tables) (good : AreGoodTables store tables) where
  abbrev IsGoodTable : List ℕ × Data → Type 0
  IsGoodTable entry = (place : List ShapeStep) → ¬ IsMemberFault (table_named store.tables entry.0) entry.1 place

  good_table : HasApartNames store → (entry : ℕ × Table) → At store.tables entry.0 entry.1 → IsGoodTable (table_member tables entry)
  good_table apart entry here place fault =
      let t : TableId = record { index = entry.0 } in
      let rows = rows_in tables t in
      let P : Option Table → Type 0 = λ found. IsMemberFault found (array_of (map (row_tree entry.1) rows)) place in
      array_good (row_tree entry.1) rows (IsRowFaultBy (column_named entry.1.cols) entry.1.cols)
      (λ k row within. good_row entry.1 _ (good.rows t entry.1 here k row within) (apart.columns t entry.1 here)) place
      (subst P (named_at (λ (table : Table). table.name) store.tables entry.0 entry.1 apart.tables here) fault)

  -- nothing is wrong with the tree
  pub no_fault : HasApartNames store → (place : List ShapeStep) → ¬ IsDocFault store (tables_tree store tables) place
  no_fault apart =
      object_good (λ name. IsMemberFault (table_named store.tables name)) (map (table_member tables) (enumerate_from 0 store.tables))
      (each_numbered IsGoodTable (table_member tables) store.tables (good_table apart))

  -- each part of the tree is told
  pub tree_whole : HasTextNames store → (n : ℕ) → 2 < n → IsWhole n (tables_tree store tables)
  tree_whole texts n deep = object_whole n (map (table_member tables) (enumerate_from 0 store.tables)) (omega (arith, deep))
      (each_numbered (IsWholeEntry (n - 1)) (table_member tables) store.tables (λ entry here.
      let t : TableId = record { index = entry.0 } in (
        all_at (λ (table : Table). IsUtf8 table.name) store.tables entry.0 entry.1 texts.tables here,
        array_whole (row_tree entry.1) (rows_in tables t) (n - 1) (omega (arith, deep)) (λ k row within. row_whole entry.1 _ (good.rows t entry.1 here k row within)
            (all_at (λ (table : Table). All (λ column. IsUtf8 column.name) table.cols) store.tables entry.0 entry.1 texts.columns here) (n - 1 - 1) (omega (arith, deep))),
      )))
