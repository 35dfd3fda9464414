-- V29, V30, V33 to V35, V38 and V39 of the fragments of entities: what a fragment writes, and its conditions.
-- Source: MSL version 3, MappingFragment, ScalarProperty and Condition. That the primary key is written whole, what a Value may be, and that no
-- condition is on a key, is the profile's choice.
use Rattle.std.specs.Prelude.{◌≡◌, ◌⊎◌, ℕ, List, [], ◌∷◌, codes, Contains, Option, Some, MatchOption}
use Rattle.std.specs.Option.{is_some}
use Rattle.json_form.specs.declared.pointer.Step.TheVariants.{Member}
use Rattle.layouts.specs.declared.fault.Fault.{Fault}
use Rattle.layouts.specs.declared.rule.Rule.TheVariants as rule
use Rattle.layouts.specs.rule_places.Places.{IsAt, InList}
use Rattle.groupings.specs.name_places.GivenNames.{IsGivenBefore}
use Rattle.round_trip.specs.Words.{PropId, Value, Kind, CondOn, Schema, key_columns}
use Rattle.edm_types.specs.declared.mapping.CondOn.TheVariants as on
use Rattle.round_trip.specs.soundness.Lookups.{set_key}
use Rattle.round_trip.specs.soundness.mappings.Fragments.{WritesToFitting}
use Rattle.round_trip.specs.soundness.mappings.Joined.{ComparesNoBarred, WritesNoBarredEnum}
use Rattle.schema_names.specs.SchemaNames.{set_named, table_named}
use Rattle.msl_rules.specs.condition_values.Spelled.{IsSpelled}
use Rattle.table_owners.specs.key_matching.Matchings.{Matches}
use Rattle.msl_rules.specs.declared.msl_lists.raw.RawPair.{RawPair}
use Rattle.msl_rules.specs.declared.msl_lists.raw.RawCond.{RawCond}
use Rattle.msl_rules.specs.declared.msl_lists.raw.RawFragment.{RawFragment}
use Rattle.msl_rules.specs.declared.msl_lists.raw.RawTypeMapping.{RawTypeMapping}
use Rattle.msl_rules.specs.declared.msl_lists.raw.RawSetMapping.{RawSetMapping}
use Rattle.msl_rules.specs.declared.msl_lists.raw.RawMapping.{RawMapping}
use Rattle.msl_rules.specs.Found.{set_numbered, table_numbered, prop_of_picks, pair_in, pairs_in, on_in, kind_on, cond_in}
use Rattle.msl_rules.specs.NameRules.{InContainer}

-- V33: a condition names not just one of a property and a column, or asks not just one of a value and of null
abbrev pub IsIllFormed : RawCond → Type 0
IsIllFormed cond = (is_some cond.prop ≡ is_some cond.col) ⊎ (is_some cond.value ≡ is_some cond.is_null)

-- V39: the property of a pair, or its column, was written before in the list
abbrev pub IsWrittenBefore : List RawPair → ℕ → RawPair → Type 0
IsWrittenBefore pairs k pair = IsGivenBefore (λ other. other.prop) pairs k pair ⊎ IsGivenBefore (λ other. other.col) pairs k pair

-- in a schema, by what a name of a property stands for, and in the table at this place
module _ (schema : Schema) (named : List ℕ → Option PropId) (t : ℕ) where
  -- V29: the column that a pair names doesn't hold what its property does
  abbrev pub IsUnfitFault : ℕ → RawPair → Fault → Type 0
  IsUnfitFault k pair fault =
      MatchOption (pair_in schema.model schema.store named t pair) ⊥ (λ found. ¬ WritesToFitting schema (table_numbered t) found) × IsAt rule.Corresponds [] fault

  -- V34: the text gives no value in the domain of what the condition is on
  abbrev pub IsNoValue : RawCond → List ℕ → Type 0
  IsNoValue cond text = MatchOption (on_in schema.model schema.store named t cond) ⊥
      (λ what. (kind : Kind) × (kind_on schema.model schema.store named t what ≡ Some kind) × ((value : Value) → ¬ IsSpelled kind text value))

  abbrev pub IsValueFault : RawCond → Fault → Type 0
  IsValueFault cond fault = MatchOption cond.value ⊥ (IsNoValue cond) × IsAt rule.ConditionValue (Member (codes "Value") ∷ []) fault

  -- V35: the condition is on one of these properties, or on a column of the primary key
  abbrev pub IsOfKey : List PropId → CondOn → Type 0
  IsOfKey key (on.Prop p) = Contains key p
  IsOfKey key (on.Col c) = Contains (key_columns schema.store (table_numbered t)) c

  abbrev pub IsKeyFault : List PropId → RawCond → Fault → Type 0
  IsKeyFault key cond fault = MatchOption (on_in schema.model schema.store named t cond) ⊥ (IsOfKey key) × IsAt rule.KeyCondition [] fault

  -- V38: a value is compared with what tells another entity
  abbrev pub IsForeignFault : RawCond → Fault → Type 0
  IsForeignFault cond fault =
      MatchOption (cond_in schema.model schema.store named t cond) ⊥ (λ meant. ¬ ComparesNoBarred schema (table_numbered t) meant) × IsAt rule.ForeignValue [] fault

  -- V33 to V35 and V38 of a condition, where these are the properties of the key
  abbrev pub IsCondFault : List PropId → ℕ → RawCond → Fault → Type 0
  IsCondFault key k cond fault =
      (IsIllFormed cond × IsAt rule.ConditionForm [] fault)
      ⊎ IsValueFault cond fault
      ⊎ IsKeyFault key cond fault
      ⊎ IsForeignFault cond fault

  -- V38: an enumeration is written that tells another entity
  abbrev pub IsEnumFault : ℕ → RawPair → Fault → Type 0
  IsEnumFault k pair fault = MatchOption (pair_in schema.model schema.store named t pair) ⊥ (λ found. ¬ WritesNoBarredEnum schema found) × IsAt rule.ForeignValue [] fault

module _ (schema : Schema) where
  -- V30 of a fragment, of the set and to the table at these places: no pairs match the set's key with the primary key
  abbrev pub IsKeyUnwritten : RawTypeMapping → RawFragment → ℕ → ℕ → Type 0
  IsKeyUnwritten types fragment s t =
      ¬ Matches (set_key schema.model (set_numbered s)) (key_columns schema.store (table_numbered t))
      (pairs_in schema.model schema.store (prop_of_picks schema.model types.picks) t fragment.pairs)

  -- all these rules of a fragment, of the set and to the table at these places
  abbrev pub BreaksFragmentRules : RawTypeMapping → RawFragment → ℕ → ℕ → Fault → Type 0
  BreaksFragmentRules types fragment s t fault =
      let named : List ℕ → Option PropId = prop_of_picks schema.model types.picks in
      InList (codes "ScalarProperty") (IsUnfitFault schema named t) fragment.pairs fault
      ⊎ (IsKeyUnwritten types fragment s t × IsAt rule.WritesKey [] fault)
      ⊎ InList (codes "Condition") (IsCondFault schema named t (set_key schema.model (set_numbered s))) fragment.conds fault
      ⊎ InList (codes "ScalarProperty") (IsEnumFault schema named t) fragment.pairs fault
      ⊎ InList (codes "ScalarProperty") (λ k pair inside. IsWrittenBefore fragment.pairs k pair × IsAt rule.WrittenOnce [] inside) fragment.pairs fault

  -- of a fragment of the set at a place, where the table is found
  abbrev pub IsFragmentFault : RawTypeMapping → ℕ → ℕ → RawFragment → Fault → Type 0
  IsFragmentFault types s k fragment fault = MatchOption (table_named schema.store fragment.table) ⊥ (λ t. BreaksFragmentRules types fragment s t fault)

  abbrev pub IsTypesFault : ℕ → ℕ → RawTypeMapping → Fault → Type 0
  IsTypesFault s j types = InList (codes "MappingFragment") (IsFragmentFault types s) types.fragments

  -- of a set's mapping, where the set is found
  abbrev pub IsSetFault : ℕ → RawSetMapping → Fault → Type 0
  IsSetFault i set fault = MatchOption (set_named schema.model set.name) ⊥ (λ s. InList (codes "EntityTypeMapping") (IsTypesFault s) set.types fault)

  -- of all sets
  abbrev pub IsInFragments : RawMapping → Fault → Type 0
  IsInFragments raw = InContainer (InList (codes "EntitySetMapping") IsSetFault raw.sets)
