-- Rows that stand at a key of a set.
use Rattle.std.proofs.Common.{◌≡◌, List, [], map, Contains, sym, ap, ◌∙◌}
use Rattle.std.specs.Option.{option_map_or}
use Rattle.std.proofs.lemmas.List.Elements.{All-contains}
use Rattle.std.proofs.lemmas.Simd.{map-map}
use Rattle.emc_base.proofs.Lists.{at_once}
use Rattle.round_trip.specs.Words.{SetId, TableId, PropId, Entity, EntitySet, IsLegal, Pair, Row, Schema, State, Table, Tables, Value, At, cell_of, entities_in, key_of, key_props, row_key, value_beside, value_of}
use Rattle.round_trip.specs.soundness.Lookups.{set_key}
use Rattle.round_trip.specs.soundness.mappings.Mappings.{IsSoundSchema}
use Rattle.round_trip.proofs.Lookups.{key_columns_at}
use Rattle.schema_laws.specs.state_demand.Owners.{IsOwned, paired_key}
use Rattle.schema_laws.specs.state_demand.WellWritten.{cols_of}
use Rattle.schema_laws.proofs.state_demand.owners.Owners.{beside_map}
use Rattle.schema_laws.proofs.state_demand.lists.Places.{agree_by_map, map_agree}
use Rattle.schema_laws.proofs.sound_demand.owners.OneOwner.{one_owner}
use Rattle.conflict_laws.proofs.same.states.Legal.{key_parts}
use Rattle.case_laws.specs.region_cases.Meets.{StandsAtKey}

module _ (schema : Schema) (sound : IsSoundSchema schema) (s : SetId) where
  -- the key of a set is that of its element type
  pub set_key_is : (set : EntitySet) → At schema.model.sets s.index set → set_key schema.model s ≡ key_props schema.model set.element
  set_key_is set here = ap (λ found. option_map_or (λ (one : EntitySet). key_props schema.model one.element) found []) here

  -- the key of a row of an entity is by the pairing
  module _ (state : State) (legal : IsLegal schema.model state) (entity : Entity) (stands : Contains (entities_in state s) entity) where
    pub part_of_key : (set : EntitySet) → At schema.model.sets s.index set → (p : PropId) → Contains (key_props schema.model set.element) p
        → value_beside p (set_key schema.model s) (key_of schema.model entity) ≡ value_of schema.model entity p
    part_of_key set here p among =
        let keys : List PropId = key_props schema.model set.element in
        ap (λ props. value_beside p props (key_of schema.model entity)) (set_key_is set here)
        ∙ ap (λ props. value_beside p keys (map (value_of schema.model entity) props)) (key_parts schema sound s set here state legal entity stands)
        ∙ beside_map (value_of schema.model entity) keys p among

    pub key_by_pairing : (t : TableId) (pairing : List Pair) → IsOwned schema t s pairing
        → map (λ pair. value_beside pair.prop (set_key schema.model s) (key_of schema.model entity)) pairing ≡ paired_key schema.model pairing entity
    key_by_pairing t pairing owned =
        map_agree (λ (pair : Pair). value_beside pair.prop (set_key schema.model s) (key_of schema.model entity)) (λ (pair : Pair). value_of schema.model entity pair.prop) pairing
        (λ pair has.
        let Keyed : Pair → Type 0 = λ one. Contains (key_props schema.model owned.set.element) one.prop in
        part_of_key owned.set owned.is_set pair.prop (All-contains Keyed pairing pair owned.keyed has))

  module _ (tables : Tables) (key : List Value) (t : TableId) (held : Row) (at : StandsAtKey schema tables s key t held) where
    -- its columns of the primary key hold the parts of the key
    pub key_cells : (pair : Pair) → Contains at.pairing pair → cell_of held pair.col ≡ value_beside pair.prop (set_key schema.model s) key
    key_cells pair has =
        let cols : cols_of at.pairing ≡ at.table.key = at.owned.cols ∙ key_columns_at schema.store t at.table at.is_table in
        agree_by_map (λ (one : Pair). cell_of held one.col) (λ (one : Pair). value_beside one.prop (set_key schema.model s) key) at.pairing
        (sym (map-map (cell_of held) (λ (one : Pair). one.col) at.pairing) ∙ ap (map (cell_of held)) cols ∙ at.at_key) pair has

    -- and so do those of another row that stands there
    pub one_key : (other : Row) → (too : StandsAtKey schema tables s key t other) → row_key at.table held ≡ row_key at.table other
    one_key other too =
        let same : too.table ≡ at.table = at_once schema.store.tables t.index too.table at.table too.is_table at.is_table in
        let alike : at.pairing ≡ too.pairing = (one_owner schema sound t s s at.pairing too.pairing at.owned too.owned at.written).1 in
        at.at_key ∙ ap (map (λ (pair : Pair). value_beside pair.prop (set_key schema.model s) key)) alike ∙ sym too.at_key
        ∙ ap (λ (table : Table). row_key table other) same
