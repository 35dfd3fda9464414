-- When a mapping is sound, with its model and its store. What three documents that break no rule mean is sound.
-- Source: the rules of MSL documents, read over the lists.
use Rattle.std.specs.Prelude.{◌++◌, ◌<◌, map, length, All}
use Rattle.round_trip.specs.Words.{TableId, Assoc, Fragment, Pair, LinkFragment, CondOn, Schema, At, IsIndependent}
use Rattle.edm_types.specs.declared.mapping.CondOn.TheVariants as on
use Rattle.emc_base.specs.Lists.{AreApart}
use Rattle.round_trip.specs.soundness.Lookups.{set_key}
use Rattle.round_trip.specs.soundness.models.ModelIds.{IsTypeId, IsPropId, IsSetId}
use Rattle.round_trip.specs.soundness.models.Models.{IsSoundModel}
use Rattle.round_trip.specs.soundness.Stores.{IsTableId, IsColId, IsSoundStore}
use Rattle.round_trip.specs.soundness.mappings.Fragments.{PicksOfSet, NamesSharedProps, WritesToFitting, WritesKey, WritesOnce, WritesEndKey, WritesLinkOnce}
use Rattle.round_trip.specs.soundness.mappings.Conditions.{AskOfNoProp, ComparesInDomain, AskOfNoKeyProp, AskOfNoKeyColumn}
use Rattle.round_trip.specs.soundness.mappings.Owners.{IsPlaced, PairsKeysAlike, HasOneOwner}
use Rattle.round_trip.specs.soundness.mappings.Joined.{ComparesNoBarred, WritesNoBarredEnum}

-- the property and the column of a pair that writes to the table
abbrev pub HasPairIds : Schema → TableId → Pair → Type 0
HasPairIds schema table pair = IsPropId schema.model pair.prop × IsColId schema.store table pair.col

-- what a condition is on
abbrev pub IsCondId : Schema → TableId → CondOn → Type 0
IsCondId schema table (on.Prop prop) = IsPropId schema.model prop
IsCondId schema table (on.Col col) = IsColId schema.store table col

-- every id of a fragment is in range
pub record HasFragmentIds (schema : Schema) (fragment : Fragment) : Type 0 where
  pub set : IsSetId schema.model fragment.set
  pub picks : All (λ pick. IsTypeId schema.model pick.ty) fragment.picks
  pub table : IsTableId schema.store fragment.table
  pub pairs : All (HasPairIds schema fragment.table) fragment.pairs
  pub conds : All (λ cond. IsCondId schema fragment.table cond.on) fragment.conds

-- every id of a link fragment is in range
pub record HasLinkFragmentIds (schema : Schema) (fragment : LinkFragment) : Type 0 where
  pub assoc : fragment.assoc.index < length schema.model.assocs
  pub table : IsTableId schema.store fragment.table
  pub pairs : All (HasPairIds schema fragment.table) (fragment.first ++ fragment.second)
  pub conds : All (λ cond. IsCondId schema fragment.table cond.on) fragment.conds

-- a fragment of entities is sound
pub record IsSoundFragment (schema : Schema) (fragment : Fragment) : Type 0 where
  pub ids : HasFragmentIds schema fragment
  -- V27
  pub picks : PicksOfSet schema fragment
  -- V28
  pub props : NamesSharedProps schema fragment
  -- V29
  pub kinds : All (WritesToFitting schema fragment.table) fragment.pairs
  -- V30
  pub key : WritesKey schema fragment
  -- V34
  pub constants : All (ComparesInDomain schema fragment.table) fragment.conds
  -- V35
  pub no_key_prop : AskOfNoKeyProp (set_key schema.model fragment.set) fragment.conds
  pub no_key_column : AskOfNoKeyColumn schema.store fragment.table fragment.conds
  -- V38
  pub barred : All (ComparesNoBarred schema fragment.table) fragment.conds
  pub enums : All (WritesNoBarredEnum schema) fragment.pairs
  -- V39
  pub once : WritesOnce fragment.pairs

-- a fragment of links of this association is sound
pub record IsSoundLinkFragment (schema : Schema) (fragment : LinkFragment) (assoc : Assoc) : Type 0 where
  -- V29
  pub kinds : All (WritesToFitting schema fragment.table) (fragment.first ++ fragment.second)
  -- V30
  pub first : WritesEndKey schema.model assoc.first.ty fragment.first
  pub second : WritesEndKey schema.model assoc.second.ty fragment.second
  -- V33
  pub no_prop : AskOfNoProp fragment.conds
  -- V34
  pub constants : All (ComparesInDomain schema fragment.table) fragment.conds
  -- V35
  pub no_key_column : AskOfNoKeyColumn schema.store fragment.table fragment.conds
  -- V36
  pub placed : IsPlaced schema fragment assoc
  -- V37
  pub independent : IsIndependent assoc
  -- V38
  pub barred : All (ComparesNoBarred schema fragment.table) fragment.conds
  -- V39
  pub once : WritesLinkOnce fragment

-- a mapping is sound between its model and its store
pub record IsSoundMapping (schema : Schema) : Type 0 where
  pub fragments : All (IsSoundFragment schema) schema.mapping.fragments
  pub link_ids : All (HasLinkFragmentIds schema) schema.mapping.links
  pub links : All (λ fragment. (assoc : Assoc) → At schema.model.assocs fragment.assoc.index assoc → IsSoundLinkFragment schema fragment assoc) schema.mapping.links
  -- each fragment has a place of its own
  pub places : AreApart (map (λ fragment. fragment.place) schema.mapping.fragments ++ map (λ fragment. fragment.place) schema.mapping.links)
  -- V6: an association set is mapped once
  pub assocs : AreApart (map (λ fragment. fragment.assoc) schema.mapping.links)
  -- V31
  pub pairings : PairsKeysAlike schema
  -- V32
  pub owners : HasOneOwner schema

-- a model with a store and a mapping is sound
pub record IsSoundSchema (schema : Schema) : Type 0 where
  pub model : IsSoundModel schema.model
  pub store : IsSoundStore schema.store
  pub mapping : IsSoundMapping schema
