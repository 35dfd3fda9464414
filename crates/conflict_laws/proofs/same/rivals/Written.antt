-- Where entities of two regions are written alike, states that hold them agree at their rows.
use Rattle.std.proofs.Common.{◌≡◌, ◌⊎◌, inl, inr, ⊎_elim, List, sym, subst, ◌∙◌}
use Rattle.round_trip.specs.Words.{TableId, ColId, DemandsCell, DemandsRow, HasDemandedCells, Null, Row, Table, Value, At, cell_of, row_key}
use Rattle.regions.specs.declared.pattern.Focus.TheVariants as focus
use Rattle.regions.specs.Basis.{Basis}
use Rattle.regions.specs.declared.pattern.Symbol.{Symbol}
use Rattle.regions.specs.Patterns.{by_entity, cell_symbols, pattern_of, Valuation}
use Rattle.regions.specs.Symbols.{region_writings}
use Rattle.regions.specs.region_laws.IsBasis.{IsBasis}
use Rattle.regions.specs.region_laws.pattern.Described.{value_in}
use Rattle.regions.specs.region_laws.pattern.Listed.{HasCell}
use Rattle.regions.specs.region_laws.Held.{IsAtRow, LinkedEntity}
use Rattle.region_states.specs.focus.Held.{HasRow}
use Rattle.region_states.proofs.focus.Demanded.{rows}
use Rattle.conflict_laws.specs.rival.Alike.{AreWrittenAlike, IsClear}
use Rattle.conflict_laws.proofs.rival.Rows.{cell_there}
use Rattle.conflict_laws.proofs.same.rows.Cells.{cell_holds, demanded_cell, null_or_demanded}
use Rattle.conflict_laws.proofs.same.states.SameTables.{AgreeAt}

module _ (basis : Basis) (is : IsBasis basis) (mine theirs : LinkedEntity basis) (clear_one : IsClear basis mine.region) (clear_two : IsClear basis theirs.region)
    (alike : AreWrittenAlike basis mine.region theirs.region (by_entity basis.schema.model mine.entity mine.part)
    (by_entity basis.schema.model theirs.entity theirs.part)) where
  abbrev IsAtMine : TableId → List Value → Type 0
  IsAtMine = IsAtRow basis mine.state mine.s mine.entity

  abbrev IsAtTheirs : TableId → List Value → Type 0
  IsAtTheirs = IsAtRow basis theirs.state theirs.s theirs.entity

  abbrev their_values : Valuation
  their_values = by_entity basis.schema.model theirs.entity theirs.part

  module _ (t : TableId) (table : Table) (here : At basis.schema.store.tables t.index table) where
    -- a row that the one state demands the other does
    row_too : (key : List Value) → IsAtMine t key → IsAtTheirs t key → DemandsRow basis.schema mine.state t key → DemandsRow basis.schema theirs.state t key
    row_too key at_x at_y demand =
        (rows basis is theirs t key at_y).1 ((alike.rows t).0 ((rows basis is mine t key at_x).0 demand))

    -- and the other way
    row_back : (key : List Value) → IsAtMine t key → IsAtTheirs t key → DemandsRow basis.schema theirs.state t key → DemandsRow basis.schema mine.state t key
    row_back key at_x at_y demand =
        (rows basis is mine t key at_x).1 ((alike.rows t).1 ((rows basis is theirs t key at_y).0 demand))

    module _ (row : Row) (at_x : IsAtMine t (row_key table row)) (at_y : IsAtTheirs t (row_key table row)) (holds : HasDemandedCells basis.schema mine.state t table row) where
      -- what the other state demands of a cell is what the row holds
      demanded_too : (col : ColId) (value : Value) → DemandsCell basis.schema theirs.state t (row_key table row) col value → cell_of row col ≡ value
      demanded_too col value (writing, writes, fills) =
          let there = demanded_cell basis is theirs clear_two t (row_key table row) at_y col value (writing, writes, fills) in
          let has_row : HasRow (pattern_of basis (focus.Entity theirs.region)) t = (rows basis is theirs t (row_key table row) at_y).0 (writing, writes) in
          let first : List Symbol = cell_symbols (region_writings basis mine.region) t col in
          let has_first : HasCell (pattern_of basis (focus.Entity mine.region)) t col first = cell_there basis mine.region t col is theirs.region there.0 there.1 ((alike.rows t).1 has_row) in
          cell_holds basis is mine clear_one t table here row at_x holds col first has_first
          ∙ alike.cells t col first there.0 has_first there.1
          ∙ there.2

      -- and what the row holds is null, or the other state demands it
      only_too : (col : ColId) (value : Value) → cell_of row col ≡ value → DemandsCell basis.schema mine.state t (row_key table row) col value
          → (cell_of row col ≡ Null) ⊎ DemandsCell basis.schema theirs.state t (row_key table row) col (cell_of row col)
      only_too col value same (writing, writes, fills) =
          let there = demanded_cell basis is mine clear_one t (row_key table row) at_x col value (writing, writes, fills) in
          let has_row : HasRow (pattern_of basis (focus.Entity mine.region)) t = (rows basis is mine t (row_key table row) at_x).0 (writing, writes) in
          let second : List Symbol = cell_symbols (region_writings basis theirs.region) t col in
          let has_second : HasCell (pattern_of basis (focus.Entity theirs.region)) t col second = cell_there basis theirs.region t col is mine.region there.0 there.1 ((alike.rows t).0 has_row) in
          let is_second : cell_of row col ≡ value_in (their_values) second =
          same ∙ sym there.2 ∙ alike.cells t col there.0 second there.1 has_second in
          ⊎_elim
          (λ (null : value_in (their_values) second ≡ Null). inl (is_second ∙ null))
          (λ demand. inr (subst (DemandsCell basis.schema theirs.state t (row_key table row) col) (sym is_second) demand))
          (null_or_demanded basis is theirs clear_two t (row_key table row) at_y col second has_second)

      -- so the row holds what the other state demands
      cells_too : HasDemandedCells basis.schema theirs.state t table row
      cells_too = record {
        demanded = demanded_too;
        only = λ col column at_col. ⊎_elim
            (λ (null : cell_of row col ≡ Null). inl null)
            (λ (demand : DemandsCell basis.schema mine.state t (row_key table row) col (cell_of row col)). only_too col (cell_of row col) (λ k. cell_of row col) demand)
            (holds.only col column at_col);
      }

    -- the states agree at the row of both entities
    pub agree_at : (key : List Value) → IsAtRow basis mine.state mine.s mine.entity t key → IsAtRow basis theirs.state theirs.s theirs.entity t key
        → AgreeAt basis.schema mine.state theirs.state t table key
    agree_at key at_x at_y = record {
      rows = (row_too key at_x at_y, row_back key at_x at_y);
      cells = λ row same holds. cells_too row (subst (IsAtMine t) (sym same) at_x) (subst (IsAtTheirs t) (sym same) at_y) holds;
    }
