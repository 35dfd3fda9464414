-- The cells of a case, by the cells of its pattern.
use Rattle.std.proofs.Common.{◌≡◌, ℕ, List, Bool, sym, ap, subst, ◌∙◌}
use Rattle.emc_base.proofs.Mapped.{contains_map}
use Rattle.emc_base.proofs.Numbered.{map_contains}
use Rattle.round_trip.specs.Words.{TableId, ColId, Row, Tables, Value, At}
use Rattle.regions.specs.declared.region.Region.{Region}
use Rattle.regions.specs.declared.pattern.Focus.TheVariants as focus
use Rattle.regions.specs.declared.pattern.PatternRow.{PatternRow}
use Rattle.regions.specs.declared.pattern.Symbol.{Symbol}
use Rattle.regions.specs.Basis.{Basis}
use Rattle.regions.specs.Patterns.{pattern_of}
use Rattle.regions.specs.region_laws.pattern.Listed.{HasCell as IsCellOf}
use Rattle.case_laws.specs.declared.region_cases.case.CaseCell.{CaseCell}
use Rattle.case_laws.specs.declared.region_cases.case.CaseRow.{CaseRow}
use Rattle.case_laws.specs.region_cases.Cases.{case_cell, case_of, case_row}
use Rattle.case_laws.specs.region_cases.Meets.{HasCell, StandsHere}
use Rattle.case_laws.proofs.lists.Placed.{made_at, made_from}

-- the cell of a region's pattern at a column
abbrev pub IsCell : Basis → Region → TableId → ColId → List Symbol → Type 0
IsCell basis region t col symbols = IsCellOf (pattern_of basis (focus.Entity region)) t col symbols

module _ (is_free : TableId → ColId → Bool) (basis : Basis) (region : Region) where
  -- what the case tells of a column in which these symbols are listed
  abbrev pub told_of_cell : TableId → ColId → List Symbol → CaseCell
  told_of_cell t col symbols = case_cell is_free basis.schema.model region.atoms t col symbols

  abbrev row_of : PatternRow → CaseRow
  row_of = case_row is_free basis.schema.model region.atoms

  abbrev rows : List PatternRow
  rows = (pattern_of basis (focus.Entity region)).rows

  cell_of_row : (row : PatternRow) (col : ColId) (symbols : List Symbol) → At row.cells col.index symbols → At (row_of row).cells col.index (told_of_cell row.table col symbols)
  cell_of_row row col symbols here = made_at (λ (placed : ℕ × List Symbol). told_of_cell row.table (record { index = placed.0 }) placed.1) row.cells col.index symbols here

  row_of_cell : (row : PatternRow) (col : ColId) (told : CaseCell) → At (row_of row).cells col.index told
      → (symbols : List Symbol) × At row.cells col.index symbols × (told ≡ told_of_cell row.table col symbols)
  row_of_cell row col told here = made_from (λ (placed : ℕ × List Symbol). told_of_cell row.table (record { index = placed.0 }) placed.1) row.cells col.index told here

  module _ (tables : Tables) (key : List Value) where
    -- a row that stands at the key
    abbrev pub Stands : TableId → Row → Type 0
    Stands = StandsHere basis tables key (case_of is_free basis region)

    abbrev pub Tells : TableId → Row → ColId → CaseCell → Type 0
    Tells = HasCell basis tables key (case_of is_free basis region)

    -- what the case tells of a column is told of the pattern's cell there
    pub cell_of_told : (t : TableId) (held : Row) (col : ColId) (told : CaseCell) → Tells t held col told
        → (symbols : List Symbol) × IsCell basis region t col symbols × (told ≡ told_of_cell t col symbols)
    cell_of_told t held col told has =
        let made = map_contains row_of rows has.row has.of_case in
        let of_table : made.0.table ≡ t = ap (λ (one : CaseRow). one.table) made.2 ∙ has.of_table in
        let P : CaseRow → Type 0 = λ one. At one.cells col.index told in
        let found = row_of_cell made.0 col told (subst P (sym made.2) has.is_cell) in (
          found.0,
          record { row = made.0; is_row = made.1; of_table = of_table; is_cell = found.1 },
          found.2 ∙ ap (λ u. told_of_cell u col found.0) of_table,
        )

    -- and the other way
    pub told_of_row : (t : TableId) (held : Row) → Stands t held → (col : ColId) (symbols : List Symbol) → IsCell basis region t col symbols → Tells t held col (told_of_cell t col symbols)
    told_of_row t held stands col symbols has =
        let P : TableId → Type 0 = λ u. At (row_of has.row).cells col.index (told_of_cell u col symbols) in
        record {
          row = row_of has.row;
          of_case = contains_map row_of rows has.row has.is_row;
          of_table = has.of_table;
          stands = stands;
          is_cell = subst P has.of_table (cell_of_row has.row col symbols has.is_cell);
        }
