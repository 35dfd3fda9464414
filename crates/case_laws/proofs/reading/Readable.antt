-- In a region that can be read each property has one value alone, or the rows at the key show it.
use Rattle.std.proofs.Common.{◌≡◌, ◌⊎◌, inl, inr, ◌&&◌, List, [], ◌∷◌, Bool, true, false, true≢false, not, Contains, refl, sym, ap, subst, ◌∙◌}
use Rattle.std.specs.List.{list_any}
use Rattle.std.proofs.lemmas.Bool.{and_from, not_from_false}
use Rattle.std.proofs.lemmas.List.Elements.{All-contains}
use Rattle.emc_base.proofs.Mapped.{contains_at, contains_map}
use Rattle.emc_base.proofs.Numbered.{map_contains}
use Rattle.round_trip.specs.Words.{SetId, TableId, ColId, PropId, Pair, Row, Table, Tables, Value, At, cell_of, key_props, props_of, value_beside}
use Rattle.round_trip.specs.soundness.Lookups.{set_key}
use Rattle.round_trip.specs.soundness.Stores.{IsKeyColumn, IsSoundTable}
use Rattle.round_trip.proofs.Lookups.{key_columns_at}
use Rattle.schema_laws.specs.state_demand.Owners.{props_in}
use Rattle.schema_laws.specs.state_demand.WellWritten.{cols_of}
use Rattle.schema_laws.proofs.state_demand.lists.Lists.{head_stands}
use Rattle.regions.specs.declared.region.Region.{Region}
use Rattle.regions.specs.declared.pattern.Focus.TheVariants as focus
use Rattle.regions.specs.declared.pattern.PatternRow.{PatternRow}
use Rattle.regions.specs.declared.pattern.Symbol.{Symbol}
use Rattle.regions.specs.declared.pattern.Symbol.TheVariants as symbol
use Rattle.regions.specs.Basis.{Basis}
use Rattle.regions.specs.Patterns.{cell_symbols, pattern_of, writings_of}
use Rattle.regions.specs.Settled.{Possible, multi, possible, single}
use Rattle.regions.specs.region_laws.IsBasis.{IsBasis}
use Rattle.regions.proofs.region_laws.listing.Listed.{set_is}
use Rattle.regions.proofs.region_laws.pattern.Keys.{key_cell}
use Rattle.regions.proofs.region_laws.pattern.types.Regions.{key_is as type_key_is}
use Rattle.case_laws.proofs.filled_rows.Filled.{has_cell}
use Rattle.schema_laws.proofs.short_values.Places.{Decides-among}
use Rattle.region_states.specs.conflicts.SameFacts.{is_lost, is_multi, is_one_of, lists_anywhere}
use Rattle.conflict_laws.proofs.rival.Reading.{somewhere}
use Rattle.case_laws.specs.region_cases.Meets.{StandsAtKey}
use Rattle.case_laws.specs.Reading.{DecidesFree}
use Rattle.case_laws.specs.Told.{IsMet, IsReadable}
use Rattle.case_laws.proofs.shown.Cases.{IsCell, Stands}
use Rattle.case_laws.proofs.Keys.{key_cells, set_key_is}
use Rattle.case_laws.proofs.shown.Present.{present_cell, present_row}
use Rattle.case_laws.proofs.shown.Shown.{ShowsSymbol, shows}

-- a pattern that isn't absent has a row
pub some_row : (rows : List PatternRow) → not (list_any (λ (row : PatternRow). true) rows) ≡ false → (row : PatternRow) × Contains rows row
some_row [] present = absurd (true≢false present)
some_row (row ∷ rest) present = (row, head_stands row rest)

module _ (is_free : TableId → ColId → Bool) (basis : Basis) (is : IsBasis basis) (decides : DecidesFree basis.schema is_free) (s : SetId) (region : Region)
    (readable : IsReadable basis s region) (tables : Tables) (key : List Value) (met : IsMet basis is_free s region tables key) where
  abbrev rows : List PatternRow
  rows = (pattern_of basis (focus.Entity region)).rows

  abbrev StandsOf : SetId → TableId → Row → Type 0
  StandsOf u = StandsAtKey basis.schema tables u key

  -- a part of the key stands alone in its column of a row at the key
  pub record IsKeyCell (p : PropId) : Type 0 where
    pub t : TableId
    pub held : Row
    pub stands : Stands is_free basis region tables key t held
    pub col : ColId
    pub has : IsCell basis region t col (symbol.Prop p ∷ [])
    pub is_part : cell_of held col ≡ value_beside p (set_key basis.schema.model s) key

  key_column : (table : Table) (t : TableId) → At basis.schema.store.tables t.index table → (col : ColId) → Contains table.key col → IsKeyColumn table col
  key_column table t here col among =
      let sound : IsSoundTable table = All-contains IsSoundTable basis.schema.store.tables table is.sound.store.tables (contains_at basis.schema.store.tables t.index table here) in
      All-contains (IsKeyColumn table) table.key col sound.key.columns among

  pub key_cell_there : (p : PropId) → Contains (key_props basis.schema.model region.ty) p → IsKeyCell p
  key_cell_there p among =
      let row = some_row rows readable.present in
      let t : TableId = row.0.table in
      let held = present_row is_free basis region tables key met.meets row.0 row.1 in
      let at : StandsOf s t held.0 = subst (λ u. StandsOf u t held.0) (set_is basis s region readable.listed) held.1 in
      let in_key : Contains (key_props basis.schema.model at.owned.set.element) p = subst (λ list. Contains list p)
      (type_key_is basis is s region readable.listed ∙ ap (set_key basis.schema.model) (set_is basis s region readable.listed)
      ∙ set_key_is basis.schema is.sound s at.owned.set at.owned.is_set) among in
      let pair = map_contains (λ (one : Pair). one.prop) at.pairing p
      (All-contains (Contains (props_in at.pairing)) (key_props basis.schema.model at.owned.set.element) p at.owned.paired in_key) in
      let col : ColId = pair.0.col in
      let cols : cols_of at.pairing ≡ at.table.key = at.owned.cols ∙ key_columns_at basis.schema.store t at.table at.is_table in
      let of_key : Contains at.table.key col = subst (λ list. Contains list col) cols (contains_map (λ (one : Pair). one.col) at.pairing pair.0 pair.1) in
      let column = key_column at.table t at.is_table col of_key in
      let symbols : List Symbol = cell_symbols (writings_of basis (focus.Entity region)) t col in
      let cell : IsCell basis region t col symbols = has_cell basis (focus.Entity region) row.0 row.1 at.table at.is_table col column.column column.is_column in
      let alone : symbols ≡ symbol.Prop pair.0.prop ∷ [] = key_cell basis is s region readable.listed
      (record { t = t; col = col; cell = symbols; has = cell }) pair.0 (record { pairing = at.pairing; owned = at.owned; paired = pair.1; at_col = refl }) in
      let P : PropId → Type 0 = λ q. IsCell basis region t col (symbol.Prop q ∷ []) in
      record {
        t = t;
        held = held.0;
        stands = held.1;
        col = col;
        has = subst P pair.2 (subst (IsCell basis region t col) alone cell);
        is_part = key_cells basis.schema is.sound s tables key t held.0 at pair.0 pair.1
            ∙ ap (λ q. value_beside q (set_key basis.schema.model s) key) pair.2;
      }

  -- a property has one value alone, or it is shown
  abbrev pub IsValue : PropId → Value → Type 0
  IsValue p value = (possible basis.schema.model region.atoms (symbol.Prop p) ≡ single value)
      ⊎ ShowsSymbol is_free basis is decides s region readable.listed readable.clear tables key (symbol.Prop p) value

  module _ (p : PropId) (among : Contains (props_of basis.schema.model region.ty) p) (n : Bool)
      (several : possible basis.schema.model region.atoms (symbol.Prop p) ≡ multi n) where
    abbrev is_key : Bool
    is_key = is_one_of p (key_props basis.schema.model region.ty)

    abbrev is_listed : Bool
    is_listed = lists_anywhere (pattern_of basis (focus.Entity region)) (symbol.Prop p)

    shown_there : (t : TableId) (col : ColId) (symbols : List Symbol) → IsCell basis region t col symbols → Contains symbols (symbol.Prop p)
        → (value : Value) × ShowsSymbol is_free basis is decides s region readable.listed readable.clear tables key (symbol.Prop p) value
    shown_there t col symbols has lists =
        let held = present_cell is_free basis region tables key met.meets t col symbols has in
        (cell_of held.0 col, shows is_free basis is decides s region readable.listed readable.clear tables key t held.0 held.1 col symbols has (symbol.Prop p) lists n several)

    never_lost : is_key ≡ false → is_listed ≡ false → is_lost basis region p ≡ true
    never_lost no_key unlisted =
        let is_prop : Bool = is_one_of p (props_of basis.schema.model region.ty) in
        let has_several : Bool = is_multi (possible basis.schema.model region.atoms (symbol.Prop p)) in
        and_from ((is_prop && not is_key) && has_several) (not is_listed)
        (and_from (is_prop && not is_key) has_several
        (and_from is_prop (not is_key) ((Decides-among (props_of basis.schema.model region.ty) p).1 among) (not_from_false is_key no_key)) (ap is_multi several))
        (not_from_false is_listed unlisted)

    pub several_shown : (value : Value) × ShowsSymbol is_free basis is decides s region readable.listed readable.clear tables key (symbol.Prop p) value
    several_shown = by is_key is_listed refl refl
      where
        by : (b c : Bool) → is_key ≡ b → is_listed ≡ c
            → (value : Value) × ShowsSymbol is_free basis is decides s region readable.listed readable.clear tables key (symbol.Prop p) value
        by true c told listed = let cell = key_cell_there p ((Decides-among (key_props basis.schema.model region.ty) p).0 told) in
            shown_there cell.t cell.col (symbol.Prop p ∷ []) cell.has (head_stands (symbol.Prop p) [])
        by false true told listed = let found = somewhere (pattern_of basis (focus.Entity region)) (symbol.Prop p) listed in
            shown_there found.0 found.1 found.2.0 found.2.1 found.2.2
        by false false told listed = absurd (true≢false (sym (never_lost told listed) ∙ readable.kept p))

  pub some_value : (p : PropId) → Contains (props_of basis.schema.model region.ty) p → (value : Value) × IsValue p value
  some_value p among = by (possible basis.schema.model region.atoms (symbol.Prop p)) refl
    where
      by : (can : Possible) → possible basis.schema.model region.atoms (symbol.Prop p) ≡ can → (value : Value) × IsValue p value
      by (single value) one = (value, inl one)
      by (multi n) several = let found = several_shown p among n several in (found.0, inr found.1)
