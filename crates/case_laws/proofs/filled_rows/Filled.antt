-- The row by a row of a pattern, where the state demands of a key what the pattern lists.
use Rattle.std.proofs.Common.{◌≡◌, ◌↔◌, ◌⊎◌, inl, inr, ⊎_elim, ℕ, ◌<◌, List, [], ◌∷◌, length, get_or, option_map, unwrap_or, Contains, refl, sym, ap, subst, ◌∙◌, arith}
use Rattle.std.specs.List.{enumerate_from}
use Rattle.std.proofs.lemmas.List.{length-map}
use Rattle.std.proofs.lemmas.List.FromFn.{length-enumerate_from}
use Rattle.std.proofs.lemmas.Option.{slice_get-map}
use Rattle.emc_base.proofs.Lists.{at_once}
use Rattle.round_trip.specs.Words.{TableId, ColId, At, Column, DemandsCell, DemandsRow, Row, State, Table, Value, Null, cell_of, row_key, written_to}
use Rattle.round_trip.specs.TablesAre.{HasDemandedCells, HasNoClash}
use Rattle.schema_laws.proofs.state_demand.writings.Fitting.{key_written}
use Rattle.schema_laws.proofs.state_demand.lists.Lists.{head_stands, none_in_nil, same_by_key}
use Rattle.schema_laws.proofs.state_demand.lists.Places.{map_agree}
use Rattle.schema_laws.proofs.state_demand.tables.Tables.{key_demanded}
use Rattle.schema_laws.proofs.sound_demand.Fitting.{well_written}
use Rattle.regions.specs.declared.pattern.Focus.{Focus}
use Rattle.regions.specs.declared.pattern.PatternRow.{PatternRow}
use Rattle.regions.specs.declared.pattern.Symbol.{Symbol}
use Rattle.regions.specs.Basis.{Basis}
use Rattle.regions.specs.Patterns.{Valuation, cell_symbols, pattern_of, pattern_row, value_under, writings_of}
use Rattle.regions.specs.region_laws.IsBasis.{IsBasis}
use Rattle.regions.proofs.region_laws.writings.Rows.{row_cells, rows_only, rows_order}
use Rattle.regions.specs.region_laws.pattern.Described.{row_for, value_in}
use Rattle.regions.specs.region_laws.pattern.Listed.{HasCell}
use Rattle.region_states.specs.focus.Held.{ListsValue}

-- a row of a table that the state demands, with a cell for each column, and the values that are demanded there
pub record IsFilled (basis : Basis) (state : State) (t : TableId) (table : Table) (row : Row) : Type 0 where
  pub demanded : DemandsRow basis.schema state t (row_key table row)
  pub cells : HasDemandedCells basis.schema state t table row
  pub whole : length row.cells ≡ length table.cols

module _ (basis : Basis) (of : Focus) (pattern : PatternRow) (has : Contains (pattern_of basis of).rows pattern) (table : Table)
    (is_table : At basis.schema.store.tables pattern.table.index table) where
  -- the row is made for its table
  is_made : pattern ≡ pattern_row (writings_of basis of) pattern.table table
  is_made =
      let found = rows_only basis.schema.store (writings_of basis of) pattern has in
      let to : pattern.table ≡ found.0 = ap (λ (r : PatternRow). r.table) found.4 in
      let P : TableId → Type 0 = λ u. At basis.schema.store.tables u.index table in
      let same : found.1 ≡ table = at_once basis.schema.store.tables found.0.index found.1 table found.2 (subst P to is_table) in
      found.4 ∙ (λ k. pattern_row (writings_of basis of) (sym to k) (same k))

  -- each column has its cell
  pub cell_there : (col : ColId) (column : Column) → At table.cols col.index column → At pattern.cells col.index (cell_symbols (writings_of basis of) pattern.table col)
  cell_there col column here =
      let P : PatternRow → Type 0 = λ r. At r.cells col.index (cell_symbols (writings_of basis of) pattern.table col) in
      subst P (sym is_made) (row_cells basis.schema.store (writings_of basis of) pattern.table table col column here)

  pub has_cell : (col : ColId) (column : Column) → At table.cols col.index column
      → HasCell (pattern_of basis of) pattern.table col (cell_symbols (writings_of basis of) pattern.table col)
  has_cell col column here = record { row = pattern; is_row = has; of_table = refl; is_cell = cell_there col column here }

  module _ (valuation : Valuation) where
    abbrev pub row : Row
    row = row_for valuation pattern

    -- and no other cell
    pub cells_whole : length row.cells ≡ length table.cols
    cells_whole =
        length-map pattern.cells (value_in valuation)
        ∙ ap (λ (r : PatternRow). length r.cells) is_made
        ∙ length-map (enumerate_from 0 table.cols) (λ (placed : ℕ × Column). cell_symbols (writings_of basis of) pattern.table (record { index = placed.0 }))
        ∙ length-enumerate_from 0 table.cols

    -- a cell holds the value of its first symbol
    pub cell_is : (col : ColId) (cell : List Symbol) → At pattern.cells col.index cell → cell_of row col ≡ value_in valuation cell
    cell_is col cell at = ap (λ found. unwrap_or found Null) (slice_get-map (value_in valuation) pattern.cells col.index ∙ ap (option_map (value_in valuation)) at)

    module _ (is : IsBasis basis) (state : State) (key : List Value)
        (cells : (col : ColId) (value : Value) → DemandsCell basis.schema state pattern.table key col value ↔ ListsValue (pattern_of basis of) valuation pattern.table col value) where
      -- the value of the first symbol is demanded
      first_or_none : (col : ColId) (cell : List Symbol) → HasCell (pattern_of basis of) pattern.table col cell
          → (cell ≡ []) ⊎ DemandsCell basis.schema state pattern.table key col (value_in valuation cell)
      first_or_none col [] at = inl refl
      first_or_none col (one ∷ others) at = inr ((cells col (value_under valuation one)).1 (one, (one ∷ others, at, head_stands one others), refl))

      -- the pattern has one row of the table
      at_row : (col : ColId) (cell : List Symbol) → HasCell (pattern_of basis of) pattern.table col cell → At pattern.cells col.index cell
      at_row col cell at =
          let number : PatternRow → ℕ = λ one. one.table.index in
          let rows : List PatternRow = (pattern_of basis of).rows in
          let same : at.row ≡ pattern = same_by_key number rows at.row pattern (λ i j d below within alike.
          let less : number (get_or rows i d) < number (get_or rows j d) = rows_order basis.schema.store (writings_of basis of) i j d below within in
          absurd (omega (arith, less, alike))) at.is_row has (ap (λ (t : TableId). t.index) at.of_table) in
          let P : PatternRow → Type 0 = λ r. At r.cells col.index cell in
          subst P same at.is_cell

      -- without a clash each demanded value is held
      pub value_held : HasNoClash basis.schema state → (col : ColId) (value : Value) → DemandsCell basis.schema state pattern.table key col value → cell_of row col ≡ value
      value_held no_clash col value demand =
          let listed = (cells col value).0 demand in
          let cell : List Symbol = listed.1.0 in
          cell_is col cell (at_row col cell listed.1.1) ∙ ⊎_elim
          (λ (none : cell ≡ []). absurd (none_in_nil listed.0 (subst (λ list. Contains list listed.0) none listed.1.2)))
          (λ (first : DemandsCell basis.schema state pattern.table key col (value_in valuation cell)).
          no_clash pattern.table key col (value_in valuation cell) value first demand)
          (first_or_none col cell listed.1.1)

      -- and nothing else
      value_only : (col : ColId) (column : Column) → At table.cols col.index column
          → (cell_of row col ≡ Null) ⊎ DemandsCell basis.schema state pattern.table key col (cell_of row col)
      value_only col column here =
          let cell : List Symbol = cell_symbols (writings_of basis of) pattern.table col in
          let holds : cell_of row col ≡ value_in valuation cell = cell_is col cell (cell_there col column here) in
          let Demanded : Value → Type 0 = λ value. DemandsCell basis.schema state pattern.table key col value in
          ⊎_elim
          (λ (none : cell ≡ []). inl (holds ∙ ap (value_in valuation) none))
          (λ (first : Demanded (value_in valuation cell)). inr (subst Demanded (sym holds) first))
          (first_or_none col cell (has_cell col column here))

      -- the key of a demanded row is written, and so it is held
      pub key_held : HasNoClash basis.schema state → DemandsRow basis.schema state pattern.table key → row_key table row ≡ key
      key_held no_clash (writing, to_row) =
          map_agree (cell_of row) (written_to writing.cells) table.key (λ col among. value_held no_clash col (written_to writing.cells col)
          (key_demanded basis.schema (well_written basis.schema is.sound) state pattern.table table is_table key writing to_row col among))
          ∙ sym (key_written basis.schema pattern.table table is_table writing to_row.to_table) ∙ to_row.to_key

      pub filled : HasNoClash basis.schema state → DemandsRow basis.schema state pattern.table key → row_key table row ≡ key → IsFilled basis state pattern.table table row
      filled no_clash demanded kept =
          let Row_at : List Value → Type 0 = λ k. DemandsRow basis.schema state pattern.table k in
          record {
            demanded = subst Row_at (sym kept) demanded;
            cells = record {
              demanded = λ col value cell. (let P : List Value → Type 0 = λ k. DemandsCell basis.schema state pattern.table k col value in
                  value_held no_clash col value (subst P kept cell));
              only = λ col column here. (let P : List Value → Type 0 =
                  λ k. (cell_of row col ≡ Null) ⊎ DemandsCell basis.schema state pattern.table k col (cell_of row col) in
                  subst P (sym kept) (value_only col column here));
            };
            whole = cells_whole;
          }
