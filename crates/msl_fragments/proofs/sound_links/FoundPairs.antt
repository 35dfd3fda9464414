-- What the pairs of a document mean, by what a name of a property stands for and in the table at a place.
use Rattle.std.proofs.Common.{◌≡◌, ◌≢◌, ℕ, ◌<◌, List, [], length, map, All, AllPairs, Option, Some, option_map, ap, subst, sym, ◌∙◌}
use Rattle.std.specs.Option.{option_map_or}
use Rattle.std.proofs.lemmas.Option.{slice_get_within}
use Rattle.emc_base.specs.Lists.{AreApart}
use Rattle.emc_base.proofs.Lists.{all_from_members}
use Rattle.emc_base.proofs.Numbered.{all_pairs_map}
use Rattle.round_trip.specs.Words.{ColId, Column, Pair, PropId, Schema, StoreModel, Table}
use Rattle.round_trip.specs.soundness.Lookups.{columns_of}
use Rattle.round_trip.specs.soundness.mappings.Mappings.{HasPairIds}
use Rattle.round_trip.specs.soundness.models.ModelIds.{IsPropId}
use Rattle.groupings.proofs.name_places.FirstPlaces.{first_has}
use Rattle.schema_names.specs.SchemaNames.{column_named}
use Rattle.emc_base.proofs.FoundItems.{and_then_some, pairs_found, map_some}
use Rattle.emc_base.proofs.Joined.{in_found}
use Rattle.schema_names.proofs.Places.{same_column_name}
use Rattle.msl_rules.specs.declared.msl_lists.raw.RawPair.{RawPair}
use Rattle.msl_rules.specs.Found.{col_numbered, pair_in, pairs_in, table_numbered}
use Rattle.msl_fragments.proofs.sound_links.OneName.{named_column}

-- a column that is found stands in its table
pub column_inside : (store : StoreModel) (t : ℕ) (name : List ℕ) (c : ℕ) → column_named store t name ≡ Some c → c < length (columns_of store (table_numbered t))
column_inside store t name c is =
    let found = named_column store t name c is in
    let item = first_has (λ col. col.name) found.0.cols name c found.2 in
    let P : List Column → Type 0 = λ cols. c < length cols in
    subst P (sym (ap (λ (entry : Option Table). option_map_or (λ entry. entry.cols) entry []) found.1)) (slice_get_within found.0.cols c item.0 item.1)

module _ (schema : Schema) (named : List ℕ → Option PropId) (t : ℕ) where
  -- the property and the column of a pair, by their names
  pub pair_parts : (raw : RawPair) (pair : Pair) → pair_in schema.model schema.store named t raw ≡ Some pair
      → (named raw.prop ≡ Some pair.prop) × (column_named schema.store t raw.col ≡ Some pair.col.index)
  pair_parts raw pair is =
      let prop = and_then_some (λ p. option_map (λ c. record { prop = p; col = col_numbered c }) (column_named schema.store t raw.col)) (named raw.prop) pair is in
      let pair_of : ℕ → Pair = λ c. record { prop = prop.0; col = col_numbered c } in
      let col = map_some pair_of (column_named schema.store t raw.col) pair prop.2 in
      (prop.1 ∙ ap (λ (pair : Pair). Some pair.prop) col.2, col.1 ∙ ap (λ (pair : Pair). Some pair.col.index) col.2)

  -- they are in range
  pub pairs_inside : ((name : List ℕ) (prop : PropId) → named name ≡ Some prop → IsPropId schema.model prop) → (raws : List RawPair)
      → All (HasPairIds schema (table_numbered t)) (pairs_in schema.model schema.store named t raws)
  pairs_inside inside raws = all_from_members (HasPairIds schema (table_numbered t)) (pairs_in schema.model schema.store named t raws) (λ pair has.
      let raw = in_found (pair_in schema.model schema.store named t) raws pair has in
      let parts = pair_parts raw.0 pair raw.2 in
      (inside raw.0.prop pair.prop parts.0, column_inside schema.store t raw.0.col pair.col.index parts.1))

  -- where no property is named twice, none is written twice, as far as no property has two names
  pub props_apart : ((one other : List ℕ) (prop : PropId) → named one ≡ Some prop → named other ≡ Some prop → one ≡ other) → (raws : List RawPair)
      → AllPairs (λ one other. one.prop ≢ other.prop) raws → AreApart (map (λ pair. pair.prop) (pairs_in schema.model schema.store named t raws))
  props_apart one_name raws apart = all_pairs_map (λ one other. one ≢ other) (λ (pair : Pair). pair.prop) (pairs_in schema.model schema.store named t raws)
      (pairs_found (pair_in schema.model schema.store named t) (λ one other. one.prop ≢ other.prop) (λ one other. one.prop ≢ other.prop) differ raws apart)
    where
      differ : (one other : RawPair) (pair next : Pair) → pair_in schema.model schema.store named t one ≡ Some pair → pair_in schema.model schema.store named t other ≡ Some next
          → one.prop ≢ other.prop → pair.prop ≢ next.prop
      differ one other pair next first second names same =
          names (one_name one.prop other.prop next.prop ((pair_parts one pair first).0 ∙ ap Some same) (pair_parts other next second).0)

  -- pairs that write one column name one column
  pub one_col : (one other : RawPair) (pair next : Pair) → pair_in schema.model schema.store named t one ≡ Some pair
      → column_named schema.store t other.col ≡ Some next.col.index → pair.col ≡ next.col → one.col ≡ other.col
  one_col one other pair next first second same =
      same_column_name schema.store t one.col other.col next.col.index ((pair_parts one pair first).1 ∙ ap (λ (col : ColId). Some col.index) same) second

  -- and so it is of columns
  pub cols_apart : (raws : List RawPair) → AllPairs (λ one other. one.col ≢ other.col) raws → AreApart (map (λ pair. pair.col) (pairs_in schema.model schema.store named t raws))
  cols_apart raws apart = all_pairs_map (λ one other. one ≢ other) (λ (pair : Pair). pair.col) (pairs_in schema.model schema.store named t raws)
      (pairs_found (pair_in schema.model schema.store named t) (λ one other. one.col ≢ other.col) (λ one other. one.col ≢ other.col)
      (λ one other pair next first second names same. names (one_col one other pair next first (pair_parts other next second).1 same)) raws apart)
