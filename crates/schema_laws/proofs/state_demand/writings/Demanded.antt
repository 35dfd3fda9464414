-- What a list of writings demands of rows and cells.
use Rattle.std.proofs.Common.{◌≡◌, ◌⊎◌, inl, inr, ⊎_elim, List, [], ◌∷◌, map, filter, Decides, Contains, refl, ap, subst}
use Rattle.std.proofs.lemmas.Bool.Decides.{Decides-and, Decides-eqb, Decides-like}
use Rattle.emc_base.proofs.Mapped.{contains_filter, contains_map}
use Rattle.emc_base.proofs.Numbered.{filter_contains, map_contains}
use Rattle.round_trip.specs.Words.{TableId, ColId, Value, Null, StoreModel, Schema, State, Writing, written_key, DemandsRow, DemandsCell, HasNoClash}
use Rattle.schema_laws.specs.state_demand.Selecting.{same_key}
use Rattle.schema_laws.specs.state_demand.Writings.{AreWritings}
use Rattle.schema_laws.specs.state_demand.MadeTables.{first_or_null, given_by, is_to_row, is_to_table, made_keys, values_at}
use Rattle.schema_laws.proofs.state_demand.lists.Distinct.{contains_distinct, member_of_distinct}
use Rattle.schema_laws.proofs.state_demand.writings.Given.{given, gives}
use Rattle.schema_laws.proofs.state_demand.lists.Lists.{contains_flat_map, head_stands, member_of_flat_map, none_in_nil}
use Rattle.schema_laws.proofs.state_demand.writings.Selecting.{Decides-key}

pub Decides-table : (t : TableId) (writing : Writing) → Decides (is_to_table t writing) (writing.table ≡ t)
Decides-table t writing =
    Decides-like (is_to_table t writing) (λ same k. record { index = same k }) (λ same. ap (λ (u : TableId). u.index) same) (Decides-eqb writing.table.index t.index)

pub Decides-row : (store : StoreModel) (t : TableId) (key : List Value) (writing : Writing)
    → Decides (is_to_row store t key writing) ((writing.table ≡ t) × (written_key store writing ≡ key))
Decides-row store t key writing =
    Decides-and (is_to_table t writing) (same_key (written_key store writing) key) (Decides-table t writing) (Decides-key (written_key store writing) key)

-- the first value stands in the list, where there is any
pub first_stands : (values : List Value) → (first_or_null values ≡ Null) ⊎ Contains values (first_or_null values)
first_stands [] = inl refl
first_stands (value ∷ values) = inr (head_stands value values)

first_of : (values : List Value) (value : Value) → Contains values value → Contains values (first_or_null values)
first_of [] value has = absurd (none_in_nil value has)
first_of (first ∷ values) value has = head_stands first values

module _ (schema : Schema) (state : State) (writings : List Writing) (are : AreWritings schema state writings) where
  pub cell_demanded : (t : TableId) (key : List Value) (col : ColId) (value : Value) → DemandsCell schema state t key col value
      → Contains (values_at schema.store writings t key col) value
  cell_demanded t key col value (writing, to_row, fills) =
      contains_flat_map (given_by col) (filter (is_to_row schema.store t key) writings) writing value
      (contains_filter (is_to_row schema.store t key) writings writing ((are.tells writing).0 to_row.writes)
      ((Decides-row schema.store t key writing).1 (to_row.to_table, to_row.to_key)))
      (gives writing col value fills)

  pub demanded_cell : (t : TableId) (key : List Value) (col : ColId) (value : Value) → Contains (values_at schema.store writings t key col) value
      → DemandsCell schema state t key col value
  demanded_cell t key col value has =
      let found = member_of_flat_map (given_by col) (filter (is_to_row schema.store t key) writings) value has in
      let kept = filter_contains (is_to_row schema.store t key) writings found.0 found.1 in
      let told = (Decides-row schema.store t key found.0).0 kept.1 in
      (found.0, record { writes = (are.tells found.0).1 kept.0; to_table = told.0; to_key = told.1 }, given found.0 col value found.2)

  pub row_demanded : (t : TableId) (key : List Value) → DemandsRow schema state t key → Contains (made_keys schema.store writings t) key
  row_demanded t key (writing, to_row) =
      let kept = contains_filter (is_to_table t) writings writing ((are.tells writing).0 to_row.writes) ((Decides-table t writing).1 to_row.to_table) in
      contains_distinct same_key Decides-key (map (written_key schema.store) (filter (is_to_table t) writings)) key
      (subst (Contains (map (written_key schema.store) (filter (is_to_table t) writings))) to_row.to_key
      (contains_map (written_key schema.store) (filter (is_to_table t) writings) writing kept))

  pub demanded_row : (t : TableId) (key : List Value) → Contains (made_keys schema.store writings t) key → DemandsRow schema state t key
  demanded_row t key has =
      let image = map_contains (written_key schema.store) (filter (is_to_table t) writings) key
      (member_of_distinct same_key Decides-key (map (written_key schema.store) (filter (is_to_table t) writings)) key has) in
      let kept = filter_contains (is_to_table t) writings image.0 image.1 in
      (image.0, record { writes = (are.tells image.0).1 kept.0; to_table = (Decides-table t image.0).0 kept.1; to_key = image.2 })

  -- without a clash the first value is the one demanded
  pub first_demanded : HasNoClash schema state → (t : TableId) (key : List Value) (col : ColId) (value : Value) → DemandsCell schema state t key col value
      → first_or_null (values_at schema.store writings t key col) ≡ value
  first_demanded no_clash t key col value demand =
      let values = values_at schema.store writings t key col in
      no_clash t key col (first_or_null values) value
      (demanded_cell t key col (first_or_null values) (first_of values value (cell_demanded t key col value demand))) demand

  pub first_is_demanded : (t : TableId) (key : List Value) (col : ColId)
      → (first_or_null (values_at schema.store writings t key col) ≡ Null) ⊎ DemandsCell schema state t key col (first_or_null (values_at schema.store writings t key col))
  first_is_demanded t key col =
      let values = values_at schema.store writings t key col in
      ⊎_elim (λ null. inl null) (λ (has : Contains values (first_or_null values)). inr (demanded_cell t key col (first_or_null values) has)) (first_stands values)
