-- At the row of an entity each cell of its region's pattern holds one value.
use Rattle.std.proofs.Common.{◌≡◌, ◌⊎◌, inl, inr, ⊎_elim, List, [], ◌∷◌, Contains, refl, sym, ap, subst, ◌∙◌}
use Rattle.emc_base.proofs.Lists.{at_once}
use Rattle.round_trip.specs.Words.{SetId, TableId, ColId, Column, DemandsCell, HasDemandedCells, Null, Row, Table, Value, At, cell_of, row_key}
use Rattle.schema_laws.proofs.state_demand.lists.Lists.{head_stands, none_in_nil}
use Rattle.regions.specs.declared.region.Region.{Region}
use Rattle.regions.specs.declared.pattern.Focus.{Focus}
use Rattle.regions.specs.declared.pattern.Focus.TheVariants as focus
use Rattle.regions.specs.declared.pattern.Symbol.{Symbol}
use Rattle.regions.specs.Basis.{Basis}
use Rattle.regions.specs.Patterns.{Valuation, by_entity, pattern_of, value_under, writings_of}
use Rattle.regions.specs.Regions.{regions_of}
use Rattle.regions.specs.region_laws.IsBasis.{IsBasis}
use Rattle.regions.specs.region_laws.pattern.Allowed.{IsAllowed}
use Rattle.regions.specs.region_laws.pattern.Described.{value_in}
use Rattle.regions.specs.region_laws.pattern.Listed.{HasCell}
use Rattle.regions.specs.region_laws.Held.{IsAtRow, LinkedEntity}
use Rattle.regions.proofs.region_laws.pattern.Cells.{cell_of as made_cell}
use Rattle.regions.proofs.region_laws.pattern.Laws.{cell_one}
use Rattle.region_states.specs.focus.Held.{ListsValue}
use Rattle.region_states.proofs.focus.Demanded.{cells}
use Rattle.region_states.proofs.focus.Partners.{linked_allowed}
use Rattle.conflict_laws.specs.rival.Alike.{IsClear}
use Rattle.conflict_laws.proofs.rival.Clear.{clear_cell}

module _ (basis : Basis) (is : IsBasis basis) where
  -- a pattern has one cell in a column of a table
  pub one_cell : (of : Focus) (t : TableId) (col : ColId) (cell other : List Symbol) → HasCell (pattern_of basis of) t col cell → HasCell (pattern_of basis of) t col other
      → cell ≡ other
  one_cell of t col cell other has too =
      (made_cell basis.schema.store (writings_of basis of) t col cell has).is ∙ sym (made_cell basis.schema.store (writings_of basis of) t col other too).is

  -- the column of a cell is one of the table
  pub column_of : (of : Focus) (t : TableId) (table : Table) → At basis.schema.store.tables t.index table → (col : ColId) (cell : List Symbol)
      → HasCell (pattern_of basis of) t col cell → (column : Column) × At table.cols col.index column
  column_of of t table here col cell has =
      let at = made_cell basis.schema.store (writings_of basis of) t col cell has in
      (at.column, subst (λ (one : Table). At one.cols col.index at.column) (at_once basis.schema.store.tables t.index at.table table at.is_table here) at.is_column)

  -- the value of a cell is that of each symbol that it lists
  pub value_is : (s : SetId) (region : Region) → Contains (regions_of basis s) region → IsClear basis region → (values : Valuation) → IsAllowed basis region values
      → (t : TableId) (col : ColId) (cell : List Symbol) → HasCell (pattern_of basis (focus.Entity region)) t col cell → (one : Symbol) → Contains cell one
      → value_under values one ≡ value_in values cell
  value_is s region listed clear values allowed t col [] has one among = absurd (none_in_nil one among)
  value_is s region listed clear values allowed t col (first ∷ rest) has one among =
      cell_one basis is (record { of = focus.Entity region; is_focus = (s, listed); values = values; allowed = allowed })
      (record { t = t; col = col; cell = first ∷ rest; has = has }) (clear_cell basis region clear t col (first ∷ rest) has) one first among (head_stands first rest)

  module _ (linked : LinkedEntity basis) where
    -- the values of the entity with the keys of its partners
    abbrev pub values_at : Valuation
    values_at = by_entity basis.schema.model linked.entity linked.part

    abbrev region : Region
    region = linked.region

    module _ (clear : IsClear basis region) (t : TableId) (key : List Value) (at : IsAtRow basis linked.state linked.s linked.entity t key) where
      -- the region's pattern has the cell at the column
      abbrev HasCellAt : ColId → List Symbol → Type 0
      HasCellAt col cell = HasCell (pattern_of basis (focus.Entity region)) t col cell

      -- a demanded value is that of a listed symbol
      told : (col : ColId) (value : Value) → DemandsCell basis.schema linked.state t key col value → ListsValue (pattern_of basis (focus.Entity region)) values_at t col value
      told col value demand = (cells basis is linked t key at col value).0 demand

      -- where a value is demanded the pattern has a cell, and the value is the cell's
      pub demanded_cell : (col : ColId) (value : Value) → DemandsCell basis.schema linked.state t key col value → (cell : List Symbol) × HasCellAt col cell × (value_in values_at cell ≡ value)
      demanded_cell col value demand =
          let by = told col value demand in
          (by.1.0, by.1.1, sym (value_is linked.s region linked.held.listed clear values_at (linked_allowed basis is linked) t col by.1.0 by.1.1 by.0 by.1.2) ∙ sym by.2)

      -- the value of a cell is null, or it is demanded
      pub null_or_demanded : (col : ColId) (cell : List Symbol) → HasCellAt col cell
          → (value_in values_at cell ≡ Null) ⊎ DemandsCell basis.schema linked.state t key col (value_in values_at cell)
      null_or_demanded col [] has = inl refl
      null_or_demanded col (first ∷ rest) has =
          inr ((cells basis is linked t key at col (value_under values_at first)).1 (first, (first ∷ rest, has, head_stands first rest), refl))

      -- so a demanded value is that of the cell
      pub demanded_is : (col : ColId) (cell : List Symbol) → HasCellAt col cell → (value : Value) → DemandsCell basis.schema linked.state t key col value → value_in values_at cell ≡ value
      demanded_is col cell has value demand =
          let by = demanded_cell col value demand in
          ap (value_in values_at) (one_cell (focus.Entity region) t col cell by.0 has by.1) ∙ by.2

    -- a row that holds what is demanded holds the cell's value
    pub cell_holds : IsClear basis region → (t : TableId) (table : Table) → At basis.schema.store.tables t.index table → (row : Row)
        → IsAtRow basis linked.state linked.s linked.entity t (row_key table row) → HasDemandedCells basis.schema linked.state t table row → (col : ColId) (cell : List Symbol)
        → HasCell (pattern_of basis (focus.Entity region)) t col cell → cell_of row col ≡ value_in values_at cell
    cell_holds clear t table here row at holds col cell has =
        let column = column_of (focus.Entity region) t table here col cell has in
        ⊎_elim
        (λ (null : cell_of row col ≡ Null). ⊎_elim
        (λ (none : value_in values_at cell ≡ Null). null ∙ sym none)
        (λ demand. holds.demanded col (value_in values_at cell) demand)
        (null_or_demanded clear t (row_key table row) at col cell has))
        (λ (demand : DemandsCell basis.schema linked.state t (row_key table row) col (cell_of row col)).
        sym (demanded_is clear t (row_key table row) at col cell has (cell_of row col) demand))
        (holds.only col column.0 column.1)
