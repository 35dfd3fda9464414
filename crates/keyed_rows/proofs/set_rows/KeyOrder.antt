-- A row's cells in the order of the set's key are the key at which it stands.
use Rattle.std.proofs.Common.{◌≡◌, ◌≢◌, ◌<◌, ℕ, zero, suc, List, [], ◌∷◌, length, map, All, Contains, refl, sym, ap, subst, ◌∙◌}
use Rattle.std.specs.List.{AllZip}
use Rattle.std.proofs.lemmas.List.{length-map}
use Rattle.std.proofs.lemmas.List.Elements.{All-contains}
use Rattle.std.proofs.lemmas.Option.{same_Some}
use Rattle.std.proofs.lemmas.Simd.{map-map}
use Rattle.std.proofs.lemmas.Slice.Zip.{AllZip-long}
use Rattle.emc_base.specs.Lists.{AreApart, HoldsEachOnce}
use Rattle.emc_base.proofs.Lists.{all_from_members}
use Rattle.emc_base.proofs.Mapped.{contains_at, contains_map}
use Rattle.emc_base.proofs.Numbered.{map_contains}
use Rattle.round_trip.specs.Words.{SetId, TableId, ColId, PropId, Value, Pair, Row, Schema, Table, Tables, At, cell_of, cells_of, row_key, rows_in, value_beside, key_columns}
use Rattle.round_trip.specs.soundness.Lookups.{set_key}
use Rattle.round_trip.specs.soundness.mappings.Mappings.{IsSoundSchema}
use Rattle.round_trip.proofs.Lookups.{key_columns_at}
use Rattle.case_laws.specs.region_cases.Meets.{StandsAtKey}
use Rattle.schema_laws.specs.state_demand.Owners.{props_in}
use Rattle.schema_laws.specs.state_demand.WellWritten.{cols_of}
use Rattle.schema_laws.proofs.state_demand.lists.Lists.{head_stands, same_by_key, tail_stands}
use Rattle.schema_laws.proofs.state_demand.owners.Owners.{pairs_from_map}
use Rattle.schema_laws.proofs.state_demand.lists.Places.{map_agree}
use Rattle.schema_laws.proofs.sound_demand.Keys.{keys_apart}
use Rattle.schema_laws.proofs.sound_demand.owners.OneOwner.{one_owner, whole_key}
use Rattle.schema_laws.proofs.sound_demand.owners.Pairing.{key_of_set}
use Rattle.case_laws.proofs.lists.Beside.{same_beside}
use Rattle.case_laws.proofs.Keys.{key_cells}
use Rattle.keyed_rows.specs.set_rows.Owning.{IsBeside, IsKeyOrder, IsTableKey, Owning}
use Rattle.keyed_rows.proofs.set_rows.Zips.{beside_zip, zip_first, zip_second, zip_turned}

-- a property and a column of a pairing at one place are one of its pairs
paired_at : (pairing : List Pair) (i : ℕ) (prop : PropId) (col : ColId) → At (props_in pairing) i prop → At (cols_of pairing) i col
    → Contains pairing (record { prop = prop; col = col })
paired_at [] i prop col at_prop at_col = absurd (let never : ⊥ = cc in never)
paired_at (p ∷ pairing) zero prop col at_prop at_col =
    let one : p.prop ≡ prop = same_Some p.prop prop at_prop in
    let two : p.col ≡ col = same_Some p.col col at_col in
    let same : p ≡ record { prop = prop; col = col } = λ k. record { prop = one k; col = two k } in
    subst (Contains (p ∷ pairing)) same (head_stands p pairing)
paired_at (p ∷ pairing) (suc i) prop col at_prop at_col = tail_stands p pairing (record { prop = prop; col = col }) (paired_at pairing i prop col at_prop at_col)

module _ (schema : Schema) (sound : IsSoundSchema schema) (t : TableId) (s : SetId) (own : Owning schema t s) where
  -- the pairing holds each property of the set's key once
  pub whole : HoldsEachOnce (set_key schema.model s) (props_in own.pairing)
  whole = whole_key schema sound t s own.pairing own.owned own.written

  -- and no property stands twice in the set's key
  key_apart : AreApart (set_key schema.model s)
  key_apart = subst AreApart (sym (key_of_set schema sound s own.owned.set own.owned.is_set)) (keys_apart schema.model sound.model own.owned.set.element)

  -- its columns are those of the table's primary key
  pub cols_are : (table : Table) → At schema.store.tables t.index table → cols_of own.pairing ≡ table.key
  cols_are table here = own.owned.cols ∙ key_columns_at schema.store t table here

  -- any other pairing is the same
  pub alike : (tables : Tables) (key : List Value) (row : Row) (at : StandsAtKey schema tables s key t row) → own.pairing ≡ at.pairing
  alike tables key row at = (one_owner schema sound t s s own.pairing at.pairing own.owned at.owned own.written).1

  abbrev Paired : PropId → ColId → Type 0
  Paired prop col = Contains own.pairing (record { prop = prop; col = col })

  -- the columns that stand beside the properties of the key are in its order
  pub in_order : (props : List PropId) (cols order : List ColId) → props ≡ props_in own.pairing → cols ≡ key_columns schema.store t
      → AllZip (IsBeside props cols) (set_key schema.model s) order
      → IsKeyOrder schema t s order
  in_order props cols order props_are keys_are zip = (
    own,
    zip_turned (IsBeside props cols) Paired (λ prop col beside.
        paired_at own.pairing beside.0 prop col (subst (λ list. At list beside.0 prop) props_are beside.1)
        (subst (λ list. At list beside.0 col) (keys_are ∙ sym own.owned.cols) beside.2)) (set_key schema.model s) order zip,
  )

  -- the values beside the paired properties are the primary key
  pub table_key : (props : List PropId) (key parts : List Value) → props ≡ props_in own.pairing → parts ≡ map (λ prop. value_beside prop (set_key schema.model s) key) props
      → IsTableKey schema t s key parts
  table_key props key parts props_are is = (
    own,
    is ∙ ap (map (λ prop. value_beside prop (set_key schema.model s) key)) props_are
        ∙ map-map (λ prop. value_beside prop (set_key schema.model s) key) (λ (pair : Pair). pair.prop) own.pairing,
  )

  module _ (order : List ColId) (zip : AllZip Paired (set_key schema.model s) order) where
    pub long : (row : Row) → length (cells_of row order) ≡ length (set_key schema.model s)
    long row = length-map order (cell_of row) ∙ AllZip-long Paired (set_key schema.model s) order zip

    -- its columns are some of the table
    pub within : (table : Table) → At schema.store.tables t.index table → All (λ col. col.index < length table.cols) order
    within table here =
        let In : Table → Type 0 = λ one. All (λ (col : ColId). col.index < length one.cols) one.key in
        let inside : In table = All-contains In schema.store.tables table sound.store.ids.keys (contains_at schema.store.tables t.index table here) in
        all_from_members (λ (col : ColId). col.index < length table.cols) order (λ col has.
        let found = zip_second Paired (set_key schema.model s) order col zip has in
        let pair : Pair = record { prop = found.0; col = col } in
        All-contains (λ (one : ColId). one.index < length table.cols) table.key col inside
        (subst (λ cols. Contains cols col) (cols_are table here) (contains_map (λ (one : Pair). one.col) own.pairing pair found.1)))

    -- each column of the primary key is among them
    pub names : All (Contains order) (key_columns schema.store t)
    names = all_from_members (Contains order) (key_columns schema.store t) (λ col has.
        let prop : Pair → PropId = λ one. one.prop in
        let found = map_contains (λ (one : Pair). one.col) own.pairing col (subst (λ cols. Contains cols col) (sym own.owned.cols) has) in
        let pair : Pair = found.0 in
        let among : Contains (set_key schema.model s) pair.prop = All-contains (Contains (set_key schema.model s)) (props_in own.pairing) pair.prop whole.only
        (contains_map prop own.pairing pair found.1) in
        let beside = zip_first Paired (set_key schema.model s) order pair.prop zip among in
        let other : Pair = record { prop = pair.prop; col = beside.0 } in
        let same : other ≡ pair = same_by_key prop own.pairing other pair (pairs_from_map (λ (a b : PropId). a ≢ b) prop own.pairing whole.once) beside.2 found.1 refl in
        subst (Contains order) (ap (λ (one : Pair). one.col) same ∙ found.2) beside.1)

    -- the primary key of a row is by its cells in this order
    pub key_by_order : (table : Table) → At schema.store.tables t.index table → (row : Row)
        → row_key table row ≡ map (λ pair. value_beside pair.prop (set_key schema.model s) (cells_of row order)) own.pairing
    key_by_order table here row =
        ap (map (cell_of row)) (sym (cols_are table here)) ∙ map-map (cell_of row) (λ (pair : Pair). pair.col) own.pairing
        ∙ map_agree (λ (pair : Pair). cell_of row pair.col) (λ (pair : Pair). value_beside pair.prop (set_key schema.model s) (cells_of row order)) own.pairing (λ pair has.
        let prop : Pair → PropId = λ one. one.prop in
        let among : Contains (set_key schema.model s) pair.prop = All-contains (Contains (set_key schema.model s)) (props_in own.pairing) pair.prop whole.only
        (contains_map prop own.pairing pair has) in
        let found = beside_zip Paired (cell_of row) (set_key schema.model s) order zip pair.prop among in
        let other : Pair = record { prop = pair.prop; col = found.0 } in
        let same : other ≡ pair = same_by_key prop own.pairing other pair (pairs_from_map (λ (a b : PropId). a ≢ b) prop own.pairing whole.once) found.1 has refl in
        sym (ap (λ (one : Pair). cell_of row one.col) same) ∙ sym found.2)

    -- so it stands at them
    pub by_order : (tables : Tables) (table : Table) → At schema.store.tables t.index table → (row : Row) → Contains (rows_in tables t) row
        → StandsAtKey schema tables s (cells_of row order) t row
    by_order tables table here row stands =
        record {
          pairing = own.pairing;
          table = table;
          written = own.written;
          owned = own.owned;
          is_table = here;
          stands = stands;
          at_key = key_by_order table here row;
        }

    -- and at no other key of the set
    pub order_of : (tables : Tables) (key : List Value) → length key ≡ length (set_key schema.model s) → (row : Row) (at : StandsAtKey schema tables s key t row)
        → cells_of row order ≡ key
    order_of tables key is_whole row at = same_beside (set_key schema.model s) (cells_of row order) key key_apart (long row) is_whole (λ prop among.
        let found = beside_zip Paired (cell_of row) (set_key schema.model s) order zip prop among in
        let pair : Pair = record { prop = prop; col = found.0 } in
        found.2 ∙ key_cells schema sound s tables key t row at pair (subst (λ (ps : List Pair). Contains ps pair) (alike tables key row at) found.1))
