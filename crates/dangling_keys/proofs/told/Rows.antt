-- What the cells of a focus's row hold in a state's tables, and what the row shows for the columns to which a foreign key points.
use Rattle.std.proofs.Common.{◌≡◌, ◌≢◌, ◌↔◌, ⊎_elim, List, [], ◌∷◌, length, Contains, IsTrue, Option, Some, true, false, refl, sym, ap, subst, ◌∙◌, ◌<◌}
use Rattle.std.specs.Option.{option_map_or}
use Rattle.std.proofs.lemmas.List.Elements.{All-contains}
use Rattle.emc_base.proofs.Joined.{in_flat_map}
use Rattle.emc_base.proofs.Lists.{all_from_members, item_at}
use Rattle.emc_base.proofs.Mapped.{contains_map}
use Rattle.emc_base.proofs.Members.{contains_cons_cases, contains_head, contains_nil}
use Rattle.round_trip.specs.Words.{ColId, Column, DemandsCell, ForeignKey, HasDemandedCells, Null, Pair, PropId, Refers, Row, State, Table, TableId, Value, At, cell_of, cells_of, key_columns, row_key}
use Rattle.round_trip.specs.soundness.Stores.{HasForeignIds, IsColId, IsSoundForeignKey}
use Rattle.schema_laws.specs.state_demand.WellWritten.{cols_of}
use Rattle.schema_laws.proofs.sound_demand.Fitting.{columns_are}
use Rattle.regions.specs.Basis.{Basis}
use Rattle.regions.specs.Patterns.{Valuation, cell_symbols, pattern_of, value_under, writings_of}
use Rattle.regions.specs.Settled.{Possible, Settled, free, known, multi, possible, settle, settled_by, single}
use Rattle.regions.specs.declared.pattern.Symbol.{Symbol}
use Rattle.regions.specs.declared.pattern.Symbol.TheVariants as symbol
use Rattle.regions.specs.region_laws.IsBasis.{IsBasis}
use Rattle.regions.specs.region_laws.pattern.Allowed.{AllowedFocus, CanBe, told_of}
use Rattle.regions.specs.region_laws.pattern.Listed.{HasCell, Lists}
use Rattle.regions.proofs.region_laws.pattern.Laws.{symbol_possible}
use Rattle.region_states.specs.focus.Held.{HasRow, ListsValue}
use Rattle.conflict_laws.proofs.clash.Listed.{cell_is}
use Rattle.conflict_laws.proofs.null.Listed.{cell_there}
use Rattle.conflict_laws.proofs.same.rows.Cells.{column_of, one_cell}
use Rattle.dangling_keys.specs.Showing.{IsShownPart, MayRefer, cell_at, col_beside, not_null_for, nullable_in, shown_at}
use Rattle.dangling_keys.proofs.told.Matching.{HasBeside, from_there}

-- what a cell holds, where this is known of it
abbrev pub HoldsSettled : Valuation → Settled → Value → Type 0
HoldsSettled values (known value) held = held ≡ value
HoldsSettled values (free one nullable) held = (held ≡ value_under values one) × (held ≡ Null → IsTrue nullable)

-- a property of a cell that may be null
pub nullable_is : (cell : Settled) (p : PropId) → Contains (nullable_in cell) p → cell ≡ free (symbol.Prop p) true
nullable_is (known value) p has = absurd (contains_nil p has)
nullable_is (free symbol.Null nullable) p has = absurd (contains_nil p has)
nullable_is (free (symbol.Const value) nullable) p has = absurd (contains_nil p has)
nullable_is (free (symbol.End a first q) nullable) p has = absurd (contains_nil p has)
nullable_is (free (symbol.Prop q) false) p has = absurd (contains_nil p has)
nullable_is (free (symbol.Prop q) true) p has = ⊎_elim
    (λ (here : p ≡ q). ap (λ (one : PropId). free (symbol.Prop one) true) (sym here))
    (λ (later : Contains [] p). absurd (contains_nil p later))
    (contains_cons_cases q [] p has)

-- a part of a key that is shown
pub shown_is : (cell : Settled) (part : Option Symbol) → IsShownPart cell part → (one : Symbol) × (nullable : _) × (cell ≡ free one nullable) × (part ≡ Some one)
shown_is (known value) part shown = absurd shown
shown_is (free one nullable) part shown = (one, nullable, refl, shown)

module _ (basis : Basis) (is : IsBasis basis) (told : AllowedFocus basis) (state : State) (t : TableId) (table : Table) (here : At basis.schema.store.tables t.index table) (row : Row)
    (cells : (col : ColId) (value : Value) → DemandsCell basis.schema state t (row_key table row) col value ↔ ListsValue (pattern_of basis told.of) told.values t col value)
    (holds : HasDemandedCells basis.schema state t table row) where
  abbrev can : Symbol → Possible
  can = possible basis.schema.model (told_of told.of)

  -- a cell holds what is told of it
  cell_holds : (col : ColId) (cell : List Symbol) → HasCell (pattern_of basis told.of) t col cell → HoldsSettled told.values (settle basis.schema.model (told_of told.of) cell) (cell_of row col)
  cell_holds col [] has =
      let column = column_of basis is told.of t table here col [] has in
      ⊎_elim
      (λ (null : cell_of row col ≡ Null). null)
      (λ (demand : DemandsCell basis.schema state t (row_key table row) col (cell_of row col)). none ((cells col (cell_of row col)).0 demand))
      (holds.only col column.0 column.1)
    where
      none : ListsValue (pattern_of basis told.of) told.values t col (cell_of row col) → cell_of row col ≡ Null
      none (one, (other, there, listed), is_value) = absurd (contains_nil one (subst (λ list. Contains list one) (one_cell basis is told.of t col other [] there has) listed))
  cell_holds col (one ∷ others) has = by (can one) (symbol_possible basis is told t col one lists)
    where
      lists : Lists (pattern_of basis told.of) t col one
      lists = (one ∷ others, has, contains_head one others)

      value : cell_of row col ≡ value_under told.values one
      value = holds.demanded col (value_under told.values one) ((cells col (value_under told.values one)).1 (one, lists, refl))

      by : (possibly : Possible) → CanBe possibly (value_under told.values one) → HoldsSettled told.values (settled_by one possibly) (cell_of row col)
      by (single only) is_one = value ∙ is_one
      by (multi nullable) may = (value, λ null. may (sym value ∙ null))

  pub held_at : (col : ColId) (cell : List Symbol) → HasCell (pattern_of basis told.of) t col cell → HoldsSettled told.values (cell_at basis told.of t col) (cell_of row col)
  held_at col cell has = subst (λ (list : List Symbol). HoldsSettled told.values (settle basis.schema.model (told_of told.of) list) (cell_of row col)) (sym (cell_is basis told.of t col cell has)) (cell_holds col cell has)

  -- the row of a table from which a foreign key points
  module _ (key : ForeignKey) (is_key : Contains basis.schema.store.keys key) (from_here : key.from ≡ t) (of_row : HasRow (pattern_of basis told.of) t) where
    ids : HasForeignIds basis.schema.store key
    ids = All-contains (HasForeignIds basis.schema.store) basis.schema.store.keys key is.sound.store.ids.foreign is_key

    pub key_sound : IsSoundForeignKey basis.schema.store key
    key_sound = All-contains (IsSoundForeignKey basis.schema.store) basis.schema.store.keys key is.sound.store.keys is_key

    cell_from : (col : ColId) → Contains key.from_cols col → HasCell (pattern_of basis told.of) t col (cell_symbols (writings_of basis told.of) t col)
    cell_from col has =
        let within : IsColId basis.schema.store t col = subst (λ (u : TableId). IsColId basis.schema.store u col) from_here (All-contains (IsColId basis.schema.store key.from) key.from_cols col ids.from_cols has) in
        let inside = subst (λ (cols : List Column). col.index < length cols) (columns_are basis.schema.store t table here) within in
        let column = item_at table.cols col.index inside in
        cell_there basis is told.of t col table column.0 (record { is_table = here; is_column = column.1 }) of_row

    pub from_holds : (col : ColId) → Contains key.from_cols col → HoldsSettled told.values (cell_at basis told.of key.from col) (cell_of row col)
    from_holds col has = subst (λ (u : TableId). HoldsSettled told.values (cell_at basis told.of u col) (cell_of row col)) (sym from_here) (held_at col (cell_symbols (writings_of basis told.of) t col) (cell_from col has))

    -- it shows for a column of the primary key to which the key points what it holds beside
    pub shown_from : (col : ColId) → Contains (key_columns basis.schema.store key.to) col → (from : ColId) × (col_beside col key.to_cols key.from_cols ≡ Some from)
        × HoldsSettled told.values (shown_at basis told.of key col) (cell_of row from)
    shown_from col has =
        let beside : HasBeside key.to_cols key.from_cols col = from_there basis.schema.store key key_sound col has in
        let P : Option ColId → Type 0 = λ found. HoldsSettled told.values (option_map_or (cell_at basis told.of key.from) found (known Null)) (cell_of row beside.from) in
        (beside.from, beside.is, subst P (sym beside.is) (from_holds beside.from beside.among))

    -- where the row refers, no column of the key holds null for certain, and no property that it shows is null
    module _ (refers : Refers key row) where
      some_value : (col : ColId) → Contains key.from_cols col → cell_of row col ≢ Null
      some_value col has = All-contains (λ (value : Value). value ≢ Null) (cells_of row key.from_cols) (cell_of row col) refers (contains_map (cell_of row) key.from_cols col has)

      pub may_refer_to : MayRefer basis told.of key
      may_refer_to = record {
        row = subst (HasRow (pattern_of basis told.of)) (sym from_here) of_row;
        some = all_from_members (λ (col : ColId). ¬ (cell_at basis told.of key.from col ≡ known Null)) key.from_cols (λ col has null.
            some_value col has (subst (λ (cell : Settled). HoldsSettled told.values cell (cell_of row col)) null (from_holds col has)));
      }

      pub not_null_there : (p : PropId) → Contains (not_null_for basis told.of key) p → told.values.prop p ≢ Null
      not_null_there p has null =
          let found = in_flat_map (λ (col : ColId). nullable_in (cell_at basis told.of key.from col)) key.from_cols p has in
          let held = subst (λ (cell : Settled). HoldsSettled told.values cell (cell_of row found.0)) (nullable_is (cell_at basis told.of key.from found.0) p found.2) (from_holds found.0 found.1) in
          some_value found.0 found.1 (held.0 ∙ null)

    -- an entity that is forced and has the key that is shown: its key is what the row holds
    module _ (pairing : List Pair) (cols : cols_of pairing ≡ key_columns basis.schema.store key.to) where
      pair_col : (pair : Pair) → Contains pairing pair → Contains (key_columns basis.schema.store key.to) pair.col
      pair_col pair has = subst (λ list. Contains list pair.col) cols (contains_map (λ (one : Pair). one.col) pairing pair has)

      -- what it shows pair by pair
      pub pair_shown : (pair : Pair) → Contains pairing pair → (from : ColId) × (col_beside pair.col key.to_cols key.from_cols ≡ Some from)
          × HoldsSettled told.values (shown_at basis told.of key pair.col) (cell_of row from)
      pair_shown pair has = shown_from pair.col (pair_col pair has)
