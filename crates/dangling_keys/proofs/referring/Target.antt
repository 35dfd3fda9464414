-- The row of a focus that refers by a foreign key, and the row to which it would refer.
use Rattle.std.proofs.Common.{◌≡◌, ◌≢◌, ◌↔◌, inl, inr, List, [], map, Some, Contains, IsTrue, Bool, true, false, refl, sym, ap, subst, ◌∙◌}
use Rattle.std.proofs.lemmas.List.Elements.{All-contains}
use Rattle.emc_base.proofs.Lists.{all_from_members, item_at}
use Rattle.emc_base.proofs.FoundItems.{contains_flat_map}
use Rattle.emc_base.proofs.Members.{contains_head, in_map}
use Rattle.round_trip.specs.Words.{ColId, DemandsCell, DemandsRow, Entity, ForeignKey, Fragment, HasDemandedCells, IsLegal, IsWritten, LinkFragment, Null, Pair, PropId, Refers, Row, SetId, State, Table, TableId, Tables, TablesAre, Value, Writes, Writing, At, cell_of, cells_of, place_at, row_key, rows_in, value_of}
use Rattle.round_trip.specs.soundness.Stores.{HasForeignIds}
use Rattle.round_trip.proofs.Lookups.{key_columns_at}
use Rattle.schema_laws.specs.state_demand.WellWritten.{cols_of}
use Rattle.schema_laws.proofs.state_demand.lists.Lists.{any_of, of_any}
use Rattle.schema_laws.proofs.state_demand.tables.ReadBack.{cells_demanded, row_demanded}
use Rattle.regions.specs.Basis.{Basis}
use Rattle.regions.specs.Patterns.{pattern_of, value_under}
use Rattle.regions.specs.Settled.{Settled, free, known, multi, possible, single}
use Rattle.regions.specs.declared.pattern.Symbol.{Symbol}
use Rattle.regions.specs.declared.pattern.Symbol.TheVariants as symbol
use Rattle.regions.specs.region_laws.IsBasis.{IsBasis}
use Rattle.regions.specs.region_laws.Held.{IsAtRow}
use Rattle.regions.specs.region_laws.pattern.Allowed.{AllowedFocus, told_of}
use Rattle.region_states.specs.focus.Held.{IsRowOfOne, ListsValue}
use Rattle.region_states.proofs.focus.Demanded.{row_of_one}
use Rattle.dangling_keys.specs.Dangling.{OwnsTable}
use Rattle.dangling_keys.specs.Failing.{FailsAtKey}
use Rattle.dangling_keys.specs.Showing.{MayRefer, cell_at, col_beside, not_null_for, nullable_in, shown_at}
use Rattle.dangling_keys.proofs.referring.Listing.{free_listed, key_is_sound}
use Rattle.dangling_keys.proofs.told.Matching.{found_alike, pair_alike}
use Rattle.dangling_keys.proofs.told.Rows.{HoldsSettled, from_holds, pair_shown}

-- what is written to a table writes it
pub row_written : (basis : Basis) (c : State) (t : TableId) (key : List Value) → DemandsRow basis.schema c t key → IsWritten basis.schema.mapping t
row_written basis c t key (writing, writes) = by writes.writes
  where
    by : Writes basis.schema c writing → IsWritten basis.schema.mapping t
    by (inl (fragment, entity, wrote, same)) = inl (any_of (λ (one : Fragment). one.table ≡ t) basis.schema.mapping.fragments fragment wrote.mapped
        (sym (ap (λ (one : Writing). one.table) same) ∙ writes.to_table))
    by (inr (fragment, assoc, link, wrote, same)) = inr (any_of (λ (one : LinkFragment). one.table ≡ t) basis.schema.mapping.links fragment wrote.mapped
        (sym (ap (λ (one : Writing). one.table) same) ∙ writes.to_table))

-- a state with its tables, in which the row of a focus shows what the pattern says
pub record IsShown (basis : Basis) (told : AllowedFocus basis) (key : ForeignKey) (c : State) : Type 0 where
  pub legal : IsLegal basis.schema.model c
  pub tables : Tables
  pub are : TablesAre basis.schema c tables
  pub is_key : Contains basis.schema.store.keys key
  pub may : MayRefer basis told.of key
  pub there : (p : PropId) → Contains (not_null_for basis told.of key) p → told.values.prop p ≢ Null
  pub table : Table
  pub is_table : At basis.schema.store.tables key.from.index table
  pub row : Row
  pub among : Contains (rows_in tables key.from) row
  pub cells : (col : ColId) (value : Value) → DemandsCell basis.schema c key.from (row_key table row) col value ↔ ListsValue (pattern_of basis told.of) told.values key.from col value

module _ (basis : Basis) (is : IsBasis basis) (told : AllowedFocus basis) (key : ForeignKey) (c : State) (shown : IsShown basis told key c) where
  pub demanded : HasDemandedCells basis.schema c key.from shown.table shown.row
  demanded = cells_demanded basis.schema c shown.tables shown.are key.from shown.table shown.is_table shown.row shown.among

  pub holds : (col : ColId) → Contains key.from_cols col → HoldsSettled told.values (cell_at basis told.of key.from col) (cell_of shown.row col)
  holds col has = from_holds basis is told c key.from shown.table shown.is_table shown.row shown.cells demanded key shown.is_key refl shown.may.row col has

  -- the row refers: none of its cells in the key is null
  some_value : (col : ColId) → Contains key.from_cols col → cell_of shown.row col ≢ Null
  some_value col has null = by (cell_at basis told.of key.from col) refl (holds col has)
    where
      by : (cell : Settled) → cell_at basis told.of key.from col ≡ cell → HoldsSettled told.values cell (cell_of shown.row col) → ⊥
      by (known value) settled held = All-contains (λ (one : ColId). ¬ (cell_at basis told.of key.from one ≡ known Null)) key.from_cols col shown.may.some has (settled ∙ ap known (sym held ∙ null))
      by (free one nullable) settled held = by_symbol one nullable settled (held.1 null) (sym held.0 ∙ null) (free_listed basis is key shown.is_key told.of shown.may.row col has one nullable settled).1
        where
          by_symbol : (it : Symbol) (maybe : Bool) → cell_at basis told.of key.from col ≡ free it maybe → IsTrue maybe → value_under told.values it ≡ Null
              → possible basis.schema.model (told_of told.of) it ≡ multi maybe → ⊥
          by_symbol symbol.Null maybe is_it so value several = absurd (let never : single Null ≡ multi maybe = several in cc)
          by_symbol (symbol.Const constant) maybe is_it so value several = absurd (let never : single constant ≡ multi maybe = several in cc)
          by_symbol (symbol.End a first p) maybe is_it so value several = absurd (let never : multi false ≡ multi true = several ∙ ap multi so in cc)
          by_symbol (symbol.Prop p) maybe is_it so value several =
              let nullable_cell : cell_at basis told.of key.from col ≡ free (symbol.Prop p) true = is_it ∙ ap (free (symbol.Prop p)) so in
              let among : Contains (nullable_in (cell_at basis told.of key.from col)) p = subst (λ (cell : Settled). Contains (nullable_in cell) p) (sym nullable_cell) (contains_head p []) in
              shown.there p (contains_flat_map (λ (one : ColId). nullable_in (cell_at basis told.of key.from one)) key.from_cols col p has among) value

  refers : Refers key shown.row
  refers = all_from_members (λ (value : Value). value ≢ Null) (cells_of shown.row key.from_cols) (λ value has.
      (let found = in_map (cell_of shown.row) key.from_cols value has in subst (λ (one : Value). one ≢ Null) found.2 (some_value found.0 found.1)))

  -- a row to which it refers
  module _ (target : Row) (at_target : Contains (rows_in shown.tables key.to) target) (alike : cells_of target key.to_cols ≡ cells_of shown.row key.from_cols) where
    ids : HasForeignIds basis.schema.store key
    ids = All-contains (HasForeignIds basis.schema.store) basis.schema.store.keys key is.sound.store.ids.foreign shown.is_key

    pub to_table : (table : Table) × At basis.schema.store.tables key.to.index table
    to_table = item_at basis.schema.store.tables key.to.index ids.to

    abbrev pub target_key : List Value
    target_key = row_key to_table.0 target

    pub target_demand : DemandsRow basis.schema c key.to target_key
    target_demand = row_demanded basis.schema c shown.tables shown.are key.to to_table.0 to_table.1 target at_target

    pub target_of : IsRowOfOne basis c key.to target_key
    target_of = row_of_one basis is c shown.legal key.to target_key target_demand

    pub target_written : IsWritten basis.schema.mapping key.to
    target_written = row_written basis c key.to target_key target_demand

    pub cell_alike : (col from : ColId) → col_beside col key.to_cols key.from_cols ≡ Some from → cell_of target col ≡ cell_of shown.row from
    cell_alike = found_alike basis.schema.store key (key_is_sound basis is key shown.is_key) target shown.row alike

    -- an entity whose row this is has the key that is shown
    pub target_shows : (u : SetId) (entity : Entity) (at : IsAtRow basis c u entity key.to target_key) (pair : Pair) → Contains at.pairing pair
        → HoldsSettled told.values (shown_at basis told.of key pair.col) (value_of basis.schema.model entity pair.prop)
    target_shows u entity at pair has =
        let value : Pair → Value = λ one. value_of basis.schema.model entity one.prop in
        let by_pairs : map (cell_of target) (cols_of at.pairing) ≡ map value at.pairing =
        ap (map (cell_of target)) (at.owned.cols ∙ key_columns_at basis.schema.store key.to to_table.0 to_table.1) ∙ sym at.at.at_key in
        let seen = pair_shown basis is told c key.from shown.table shown.is_table shown.row shown.cells demanded key shown.is_key refl shown.may.row at.pairing at.owned.cols pair has in
        let same_value : value pair ≡ cell_of shown.row seen.0 = sym (pair_alike (cell_of target) value at.pairing by_pairs pair has) ∙ cell_alike pair.col seen.0 seen.1 in
        subst (HoldsSettled told.values (shown_at basis told.of key pair.col)) (sym same_value) seen.2

    pub target_owned : (u : SetId) (entity : Entity) (at : IsAtRow basis c u entity key.to target_key) → OwnsTable basis key.to u at.pairing
    target_owned u entity at = record { owned = at.owned; written = target_written }

  -- where there is no such row, the state fails
  pub shown_fails : ((target : Row) → Contains (rows_in shown.tables key.to) target → cells_of target key.to_cols ≡ cells_of shown.row key.from_cols → ⊥)
      → FailsAtKey basis key (place_at shown.table.name (row_key shown.table shown.row) key.name) c
  shown_fails none = record {
    fails = record {
      legal = shown.legal;
      fails = record {
        tables = shown.tables;
        defined = shown.are;
        key = key;
        table = shown.table;
        row = shown.row;
        is_key = shown.is_key;
        is_table = shown.is_table;
        is_row = shown.among;
        refers = refers;
        no_row = λ some.
            (let found = of_any (λ (target : Row). cells_of target key.to_cols ≡ cells_of shown.row key.from_cols) (rows_in shown.tables key.to) some in
            none found.0 found.1 found.2);
        place_is = refl;
      };
    };
    of_key = refl;
  }
