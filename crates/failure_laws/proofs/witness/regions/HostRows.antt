-- The row of the usual entity of a region in its small state is the one that the pattern's row describes by the usual values.
use Rattle.std.proofs.Common.{◌≡◌, List, [], ◌∷◌, ◌++◌, map, Contains, refl, sym, ap, subst, ◌∙◌, arith}
use Rattle.std.proofs.lemmas.List.Elements.{All-contains}
use Rattle.round_trip.specs.Words.{At, Assoc, ColId, Entity, IsLegal, LinkFragment, Pair, Row, SetId, State, Table, Tables, TableId, Value, cell_of, cells_of, row_key}
use Rattle.round_trip.specs.FailsAt.{HasColumn, keys_in_tuple}
use Rattle.round_trip.specs.declared.FailKind.TheVariants as kind
use Rattle.schema_laws.specs.state_demand.Owners.{IsOwned}
use Rattle.schema_laws.specs.state_demand.WellWritten.{FitsTable, HasCol, cols_of}
use Rattle.schema_laws.specs.sound_demand.Disagreeing.{keys_in_row}
use Rattle.schema_laws.specs.sound_demand.Fragments.{IsHostedFragment, IsStoredIn}
use Rattle.schema_laws.specs.sound_demand.Made.{tables_for}
use Rattle.schema_laws.proofs.sound_demand.Fitting.{well_written}
use Rattle.schema_laws.proofs.state_demand.lists.Lists.{head_stands, tail_stands}
use Rattle.cells.specs.Limits.{IsWithinLimits}
use Rattle.regions.specs.declared.region.Region.{Region}
use Rattle.regions.specs.declared.pattern.Focus.TheVariants as focus
use Rattle.regions.specs.declared.pattern.PatternRow.{PatternRow}
use Rattle.regions.specs.declared.pattern.Symbol.{Symbol}
use Rattle.regions.specs.Basis.{Basis}
use Rattle.regions.specs.Patterns.{Valuation, by_entity, cell_symbols, pattern_of, value_under, writings_of}
use Rattle.regions.specs.Regions.{regions_of}
use Rattle.regions.specs.region_laws.IsBasis.{IsBasis}
use Rattle.regions.specs.region_laws.Held.{IsHeldAt, LinkedEntity}
use Rattle.regions.specs.region_laws.pattern.Allowed.{AllowedFocus, RegionValues}
use Rattle.regions.specs.region_laws.pattern.Described.{AreDemanded, IsClearRow, IsRowFor, row_for}
use Rattle.regions.specs.region_laws.pattern.Listed.{HasCell, Lists}
use Rattle.regions.proofs.region_laws.pattern.Laws.{described as row_described}
use Rattle.regions.proofs.region_laws.pattern.rows.Agreeing.{is_described}
use Rattle.regions.proofs.region_laws.writings.Owned.{cell_demanded}
use Rattle.region_states.specs.defaults.Admissible.{IsAdmissible}
use Rattle.region_states.specs.defaults.Defaults.{default_valuation}
use Rattle.region_states.proofs.defaults.Defaults.{default_admissible}
use Rattle.region_states.specs.Entities.{focus_entity}
use Rattle.region_states.specs.HoldsFocus.{HoldsFocus}
use Rattle.region_states.specs.conflicts.There.{NoneFailsBy}
use Rattle.region_states.specs.focus.Agreeing.{IsRowOfEntity}
use Rattle.region_states.proofs.Entities.{symbol_value}
use Rattle.region_states.proofs.Held.{focus_held}
use Rattle.host_states.specs.SmallStates.{small_focus}
use Rattle.conflict_laws.specs.States.{ClearStates}
use Rattle.conflict_laws.specs.rival.Alike.{IsClear}
use Rattle.conflict_laws.proofs.clash.Clear.{region_clear}
use Rattle.conflict_laws.proofs.disagreement.Failing.{stored}
use Rattle.conflict_laws.proofs.disagreement.PatternRows.{one_row}
use Rattle.conflict_laws.proofs.null.Listed.{cell_there}
use Rattle.failure_laws.proofs.witness.regions.Cells.{clear_states}

-- what is the same of each item is the same of the list
same_images : {X Y : Type 0} (f g : X → Y) (xs : List X) → ((x : X) → Contains xs x → f x ≡ g x) → map f xs ≡ map g xs
same_images f g [] each = refl
same_images f g (x ∷ xs) each =
    let head = each x (head_stands x xs) in
    let rest = same_images f g xs (λ y has. each y (tail_stands x xs y has)) in
    λ k. head k ∷ rest k

module _ (basis : Basis) (is : IsBasis basis) (limits : IsWithinLimits basis.schema) (none : NoneFailsBy basis.schema kind.Clash) (s : SetId) (region : Region)
    (has : Contains (regions_of basis s) region) where
  abbrev pub states : ClearStates basis
  states = clear_states basis is limits none

  abbrev pub values : Valuation
  values = default_valuation basis 0 region

  abbrev pub state : State
  state = small_focus basis 0 region values

  abbrev pub tables : Tables
  tables = tables_for basis.schema state

  abbrev pub entity : Entity
  entity = focus_entity basis region values

  abbrev at_values : RegionValues basis
  at_values = record { s = s; region = region; listed = has; values = values }

  admissible : IsAdmissible basis 0 region values
  admissible = default_admissible basis is limits s region has 0 (omega arith)

  pub holds : HoldsFocus basis region values state
  holds = states.given.hosts.holds at_values admissible

  pub held : IsHeldAt basis state s entity region values.part
  held = focus_held basis is at_values admissible.allowed state holds

  abbrev pub linked : LinkedEntity basis
  linked = record { state = state; legal = holds.legal; s = s; entity = entity; region = region; part = values.part; held = held }

  pub in_tables : IsStoredIn basis.schema state tables
  in_tables = stored basis states state holds.legal

  pub clear : IsClear basis region
  clear = region_clear basis states s region has

  module _ (pattern : PatternRow) (is_row : Contains (pattern_of basis (focus.Entity region)).rows pattern) where
    clear_row : IsClearRow basis (focus.Entity region) pattern
    clear_row = record { is_row = is_row; clear = clear pattern is_row }

    abbrev usual : AllowedFocus basis
    usual = record { of = focus.Entity region; is_focus = (s, has); values = values; allowed = admissible.allowed }

    by_usual : IsRowFor values pattern (row_for values pattern)
    by_usual = row_described basis is usual pattern clear_row

    module _ (table : Table) (here : At basis.schema.store.tables pattern.table.index table) (pairing : List Pair) (owned : IsOwned basis.schema pattern.table s pairing) (row : Row)
        (of_entity : IsRowOfEntity basis state tables s pairing entity pattern.table table row) where
      demanded : AreDemanded basis state (focus.Entity region) (by_entity basis.schema.model entity values.part) pattern.table (row_key table row)
      demanded = record {
        cells = λ c value. (
            let by = cell_demanded basis is linked pattern.table (row_key table row) (record { pairing = pairing; owned = owned; at = of_entity.at }) c value in
            ((λ demands. let found = by.0 demands in (found.one, found.listed, found.is)), λ found. by.1 (record { one = found.0; listed = found.1; is = found.2 })));
      }

      by_state : IsRowFor (by_entity basis.schema.model entity values.part) pattern row
      by_state = is_described basis state (focus.Entity region) (by_entity basis.schema.model entity values.part) (record {
        tables = tables;
        are = in_tables.are;
        pattern = pattern;
        clear = clear_row;
        table = table;
        is_table = here;
        row = row;
        among = of_entity.among;
        demanded = demanded;
      })

      -- cell by cell
      same_cell : (col : ColId) (cell : List Symbol) → At pattern.cells col.index cell → cell_of row col ≡ cell_of (row_for values pattern) col
      same_cell col [] at = by_state.empty col at ∙ sym (by_usual.empty col at)
      same_cell col (one ∷ rest) at =
          let lists : Lists (pattern_of basis (focus.Entity region)) pattern.table col one = (one ∷ rest, record { row = pattern; is_row = is_row; of_table = refl; is_cell = at }, head_stands one rest) in
          All-contains (λ (other : Symbol). cell_of row col ≡ value_under (by_entity basis.schema.model entity values.part) other) (one ∷ rest) one
          (by_state.listed col (one ∷ rest) at) (head_stands one rest)
          ∙ symbol_value basis is at_values pattern.table col one lists
          ∙ sym (All-contains (λ (other : Symbol). cell_of (row_for values pattern) col ≡ value_under values other) (one ∷ rest) one
          (by_usual.listed col (one ∷ rest) at) (head_stands one rest))

      -- each column of the table has a cell
      same_column : (col : ColId) → HasCol table col → cell_of row col ≡ cell_of (row_for values pattern) col
      same_column col (column, column_here) =
          let cell : List Symbol = cell_symbols (writings_of basis (focus.Entity region)) pattern.table col in
          let there : HasCell (pattern_of basis (focus.Entity region)) pattern.table col cell =
          cell_there basis is (focus.Entity region) pattern.table col table column (record { is_table = here; is_column = column_here }) (pattern, is_row, refl) in
          let one : there.row ≡ pattern = one_row basis (focus.Entity region) there.row pattern there.is_row is_row there.of_table in
          let P : PatternRow → Type 0 = λ it. At it.cells col.index cell in
          same_cell col cell (subst P one there.is_cell)

      -- so the keys are that stand in both rows
      pub same_keys : (fragment : LinkFragment) → Contains basis.schema.mapping.links fragment → fragment.table ≡ pattern.table → (assoc : Assoc)
          → keys_in_row basis.schema assoc fragment row ≡ keys_in_row basis.schema assoc fragment (row_for values pattern)
      same_keys fragment mapped to assoc =
          let cols : List ColId = cols_of (fragment.first ++ fragment.second) in
          let Here : TableId → Type 0 = λ u. At basis.schema.store.tables u.index table in
          let P : LinkFragment → Type 0 = λ f. (it : Table) → At basis.schema.store.tables f.table.index it → FitsTable it (cols_of (f.first ++ f.second)) f.conds in
          let fits : FitsTable table cols fragment.conds =
          All-contains P basis.schema.mapping.links fragment (well_written basis.schema is.sound).links mapped table (subst Here (sym to) here) in
          let cells : cells_of row cols ≡ cells_of (row_for values pattern) cols = same_images (cell_of row) (cell_of (row_for values pattern)) cols
          (λ col among. same_column col (All-contains (HasCol table) cols col fits.has_cols among)) in
          ap (keys_in_tuple basis.schema.model assoc fragment) cells
