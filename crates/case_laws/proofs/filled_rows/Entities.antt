-- The rows of an entity by the pattern of its region are those that the state demands of it.
use Rattle.std.proofs.Common.{◌≡◌, List, [], ◌∷◌, map, All, Contains, refl, sym, ap, subst, ◌∙◌}
use Rattle.std.proofs.lemmas.List.Elements.{All-contains}
use Rattle.std.proofs.lemmas.Simd.{map-map}
use Rattle.emc_base.proofs.Lists.{all_from_members}
use Rattle.emc_base.proofs.Mapped.{contains_at, contains_map}
use Rattle.emc_base.proofs.Numbered.{map_contains}
use Rattle.round_trip.specs.Words.{SetId, TableId, At, ColId, DemandsRow, Entity, Hosted, IsLegal, Pair, State, Table, Value, cell_of, row_key, value_of}
use Rattle.round_trip.specs.TablesAre.{HasNoClash}
use Rattle.table_files.specs.declared.tables.TableRow.{TableRow}
use Rattle.round_trip.specs.soundness.Stores.{IsKeyColumn, IsSoundTable}
use Rattle.round_trip.proofs.Lookups.{key_columns_at}
use Rattle.schema_laws.specs.state_demand.Owners.{IsOwned, StandsAt, paired_key}
use Rattle.schema_laws.specs.state_demand.WellWritten.{cols_of}
use Rattle.schema_laws.proofs.state_demand.lists.Lists.{any_of}
use Rattle.schema_laws.proofs.state_demand.lists.Places.{map_agree}
use Rattle.regions.specs.declared.region.Region.{Region}
use Rattle.regions.specs.declared.pattern.Focus.TheVariants as focus
use Rattle.regions.specs.declared.pattern.PatternRow.{PatternRow}
use Rattle.regions.specs.declared.pattern.Symbol.{Symbol}
use Rattle.regions.specs.declared.pattern.Symbol.TheVariants as symbol
use Rattle.regions.specs.Basis.{Basis}
use Rattle.regions.specs.Patterns.{Valuation, by_entity, cell_symbols, pattern_of, writings_of}
use Rattle.regions.specs.region_laws.IsBasis.{IsBasis}
use Rattle.regions.specs.region_laws.Partners.{HasFewPartners}
use Rattle.regions.specs.region_laws.pattern.Allowed.{partner_parts}
use Rattle.regions.specs.region_laws.pattern.Described.{row_for, value_in}
use Rattle.regions.specs.region_laws.Held.{IsAtRow, IsHeldAt, LinkedEntity}
use Rattle.regions.proofs.region_laws.pattern.Keys.{key_cell}
use Rattle.region_states.proofs.focus.Demanded.{cells, rows}
use Rattle.region_states.proofs.focus.Listed.{row_owned}
use Rattle.case_laws.specs.filled_rows.Demanded.{AreAllDemanded, IsDemandedRow, IsHeldWith}
use Rattle.case_laws.specs.filled_rows.Filled.{entity_rows, table_row}
use Rattle.case_laws.proofs.filled_rows.Filled.{IsFilled, cell_is, cell_there, filled, has_cell}
use Rattle.case_laws.proofs.filled_rows.Partners.{held_with_partners, parts}

-- a filled row of the entity, in a table that its set owns
pub record IsEntityRow (basis : Basis) (state : State) (s : SetId) (entity : Entity) (placed : TableRow) : Type 0 where
  pub table : Table
  pub pairing : List Pair
  pub is_table : At basis.schema.store.tables placed.table.index table
  pub owned : IsOwned basis.schema placed.table s pairing
  pub of_entity : StandsAt basis.schema state s pairing (row_key table placed.row) entity
  pub is_filled : IsFilled basis state placed.table table placed.row

module _ (basis : Basis) (is : IsBasis basis) (state : State) (legal : IsLegal basis.schema.model state) (s : SetId) (few : HasFewPartners basis s) (entity : Entity)
    (links : List Hosted) (region : Region) (held : IsHeldWith basis state s entity links region) where
  abbrev valuation : Valuation
  valuation = by_entity basis.schema.model entity (partner_parts basis.schema.model links)

  abbrev held_at : IsHeldAt basis state s entity region (parts basis is state s entity links region held)
  held_at = held_with_partners basis is state s entity links region held legal few

  abbrev linked : LinkedEntity basis
  linked = record {
    state = state;
    legal = legal;
    s = s;
    entity = entity;
    region = region;
    part = parts basis is state s entity links region held;
    held = held_at;
  }

  -- a row of the pattern, of a table that the set owns
  module _ (pattern : PatternRow) (has : Contains (pattern_of basis (focus.Entity region)).rows pattern) (table : Table)
      (is_table : At basis.schema.store.tables pattern.table.index table) (pairing : List Pair) (owned : IsOwned basis.schema pattern.table s pairing) where
    abbrev key : List Value
    key = paired_key basis.schema.model pairing entity

    abbrev at : IsAtRow basis state s entity pattern.table key
    at = record { pairing = pairing; owned = owned; at = record { stands = held.stands; at_key = refl } }

    cols_are : cols_of pairing ≡ table.key
    cols_are = owned.cols ∙ key_columns_at basis.schema.store pattern.table table is_table

    key_column : (col : ColId) → Contains table.key col → IsKeyColumn table col
    key_column col among =
        let sound : IsSoundTable table = All-contains IsSoundTable basis.schema.store.tables table is.sound.store.tables
        (contains_at basis.schema.store.tables pattern.table.index table is_table) in
        All-contains (IsKeyColumn table) table.key col sound.key.columns among

    -- a cell of the primary key holds the entity's value of the paired property
    key_value : (pair : Pair) → Contains pairing pair → cell_of (row_for valuation pattern) pair.col ≡ value_of basis.schema.model entity pair.prop
    key_value pair paired =
        let of_key : Contains table.key pair.col = subst (λ cols. Contains cols pair.col) cols_are (contains_map (λ (one : Pair). one.col) pairing pair paired) in
        let column = key_column pair.col of_key in
        let cell : List Symbol = cell_symbols (writings_of basis (focus.Entity region)) pattern.table pair.col in
        let alone : cell ≡ symbol.Prop pair.prop ∷ [] = key_cell basis is s region held.listed (record {
          t = pattern.table;
          col = pair.col;
          cell = cell;
          has = has_cell basis (focus.Entity region) pattern has table is_table pair.col column.column column.is_column;
        }) pair (record { pairing = pairing; owned = owned; paired = paired; at_col = refl }) in
        cell_is basis (focus.Entity region) pattern has table is_table valuation pair.col cell
        (cell_there basis (focus.Entity region) pattern has table is_table pair.col column.column column.is_column)
        ∙ ap (value_in valuation) alone

    pub key_kept : row_key table (row_for valuation pattern) ≡ paired_key basis.schema.model pairing entity
    key_kept =
        ap (map (cell_of (row_for valuation pattern))) (sym cols_are)
        ∙ map-map (cell_of (row_for valuation pattern)) (λ (pair : Pair). pair.col) pairing
        ∙ map_agree (λ (pair : Pair). cell_of (row_for valuation pattern) pair.col) (λ (pair : Pair). value_of basis.schema.model entity pair.prop) pairing key_value

    pub entity_row : HasNoClash basis.schema state → IsEntityRow basis state s entity (table_row valuation pattern)
    entity_row no_clash =
        let demanded : DemandsRow basis.schema state pattern.table key = (rows basis is linked pattern.table key at).1 (pattern, has, refl) in
        record {
          table = table;
          pairing = pairing;
          is_table = is_table;
          owned = owned;
          of_entity = record { stands = held.stands; at_key = sym key_kept };
          is_filled = filled basis (focus.Entity region) pattern has table is_table valuation is state key
              (cells basis is linked pattern.table key at) no_clash demanded key_kept;
        }

  -- each row is one of the entity
  pub row_of_entity : HasNoClash basis.schema state → (placed : TableRow) → Contains (entity_rows basis region entity links) placed → IsEntityRow basis state s entity placed
  row_of_entity no_clash placed among =
      let found = map_contains (table_row valuation) (pattern_of basis (focus.Entity region)).rows placed among in
      let owner = row_owned basis is s region held.listed found.0 found.1 in
      subst (IsEntityRow basis state s entity) found.2 (entity_row found.0 found.1 owner.0 owner.2 owner.1 owner.3 no_clash)

  pub each : HasNoClash basis.schema state → All (IsDemandedRow basis state s entity) (entity_rows basis region entity links)
  each no_clash = all_from_members (IsDemandedRow basis state s entity) (entity_rows basis region entity links) (λ placed among.
      let by = row_of_entity no_clash placed among in
      record {
        table = by.table;
        pairing = by.pairing;
        is_table = by.is_table;
        owned = by.owned;
        of_entity = by.of_entity;
        demanded = by.is_filled.demanded;
        cells = by.is_filled.cells;
      })

  -- and each that is demanded is among them
  pub whole : AreAllDemanded basis state s entity (entity_rows basis region entity links)
  whole t table key is_table at_row demand =
      let Here : TableRow → Type 0 = λ placed. (placed.table ≡ t) × (row_key table placed.row ≡ key) in
      let there = (rows basis is linked t key at_row).0 demand in
      let pattern : PatternRow = there.0 in
      let same : pattern.table ≡ t = there.2 in
      let At_table : TableId → Type 0 = λ u. At basis.schema.store.tables u.index table in
      let Owned : TableId → Type 0 = λ u. IsOwned basis.schema u s at_row.pairing in
      let kept = key_kept pattern there.1 table (subst At_table (sym same) is_table) at_row.pairing (subst Owned (sym same) at_row.owned) in
      any_of Here (entity_rows basis region entity links) (table_row valuation pattern)
      (contains_map (table_row valuation) (pattern_of basis (focus.Entity region)).rows pattern there.1) (same, kept ∙ at_row.at.at_key)
