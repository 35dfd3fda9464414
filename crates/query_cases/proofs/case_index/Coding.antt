-- Rows that may meet a case have its code, where the columns looked at tell the cases apart.
use Rattle.std.proofs.Common.{◌≡◌, ◌++◌, ℕ, List, [], ◌∷◌, slice_get, All, Contains, Option, Some, None, refl, sym, ap, ◌∙◌}
use Rattle.std.specs.BTreeMap.{BTreeMap}
use Rattle.std.specs.Global.{Vec}
use Rattle.std.specs.List.{AllZip, flat_map}
use Rattle.std.proofs.lemmas.List.Elements.{All-contains, All-head, All-tail}
use Rattle.emc_base.proofs.Lists.{all_from_members}
use Rattle.round_trip.specs.Words.{TableId, Row, cell_of}
use Rattle.schema_laws.proofs.state_demand.lists.Places.{map_agree}
use Rattle.regions.specs.declared.region.Region.{Region}
use Rattle.regions.specs.Basis.{Basis}
use Rattle.case_laws.specs.declared.region_cases.case.Case.{Case}
use Rattle.case_laws.specs.declared.region_cases.case.CaseCell.{CaseCell}
use Rattle.case_laws.specs.declared.region_cases.case.CaseRow.{CaseRow}
use Rattle.query_cases.specs.case_cells.Holding.{MayHoldCells, MayMeet}
use Rattle.query_cases.specs.declared.case_index.telling.Column.{Column}
use Rattle.query_cases.specs.case_index.Codes.{case_code, cell_number, columns_in, held_number, row_code, rows_code, told_number}
use Rattle.query_cases.specs.case_index.Telling.{AllTell, CellTells, Tells}

module _ (basis : Basis) (telling : BTreeMap ℕ (Vec Column)) (region : Region) where
  -- the columns of its table tell what a row of a case holds
  abbrev pub AllTellRow : CaseRow → Type 0
  AllTellRow row = (column : Column) → Contains (columns_in telling row.table) column → CellTells basis region column.numbers (slice_get row.cells column.col.index)

  -- what a column tells of a case is what rows hold there
  column_same : (row : CaseRow) (held : Row) → MayHoldCells basis region row.cells held → (column : Column)
      → CellTells basis region column.numbers (slice_get row.cells column.col.index) → told_number row.cells column ≡ held_number held column
  column_same row held may column tells = by (slice_get row.cells column.col.index) refl tells
    where
      by : (found : Option CaseCell) → slice_get row.cells column.col.index ≡ found → CellTells basis region column.numbers found
          → told_number row.cells column ≡ held_number held column
      by None is told = absurd told
      by (Some cell) is told = ap (cell_number column.numbers) is ∙ sym (told (cell_of held column.col) (may column.col cell is))

  -- so a row has the code that is told of it
  row_same : (row : CaseRow) (placed : TableId × Row) → AllTellRow row → row.table ≡ placed.0 → MayHoldCells basis region row.cells placed.1
      → row_code telling row.table (told_number row.cells) ≡ row_code telling placed.0 (held_number placed.1)
  row_same row placed all same may =
      ap (λ numbers. row.table.index ∷ numbers)
      (map_agree (told_number row.cells) (held_number placed.1) (columns_in telling row.table)
      (λ column has. column_same row placed.1 may column (all column has)))
      ∙ ap (λ t. row_code telling t (held_number placed.1)) same

  -- and so do rows
  rows_same : (told : List CaseRow) (rows : List (TableId × Row)) → All AllTellRow told
      → AllZip (λ row placed. (row.table ≡ placed.0) × MayHoldCells basis region row.cells placed.1) told rows
      → flat_map (λ (row : CaseRow). row_code telling row.table (told_number row.cells)) told ≡ rows_code telling rows
  rows_same [] [] all may = refl
  rows_same [] (placed ∷ rows) all may = absurd may
  rows_same (row ∷ told) [] all may = absurd may
  rows_same (row ∷ told) (placed ∷ rows) all may =
      let head = row_same row placed (All-head AllTellRow row told all) may.0.0 may.0.1 in
      let tail = rows_same told rows (All-tail AllTellRow row told all) may.1 in
      λ k. head k ++ tail k

module _ (basis : Basis) (telling : BTreeMap ℕ (Vec Column)) (cases : List Case) (tell : AllTell basis cases telling) where
  -- rows that may meet a case have its code
  pub same_code : (case : Case) → Contains cases case → (rows : List (TableId × Row)) → MayMeet basis case rows → case_code telling case ≡ rows_code telling rows
  same_code case among rows may = rows_same basis telling case.region case.rows rows (all_from_members (AllTellRow basis telling case.region) case.rows each) may
    where
      each : (row : CaseRow) → Contains case.rows row → AllTellRow basis telling case.region row
      each row stands column has =
          All-contains (Tells basis cases row.table.index) (columns_in telling row.table) column (tell row.table) has case row among stands refl
