-- Properties: those that a type declares, those that it inherits, and their ids.
use Rattle.std.proofs.Common.{◌≡◌, ◌==◌, ℕ, ◌+◌, ◌<◌, List, [], ◌∷◌, ◌++◌, length, map, filter, slice_get, All, Contains, Option, Some, None, option_map, refl, sym, ap, subst, ◌∙◌, zero-add}
use Rattle.std.specs.List.{enumerate_from, flat_map, range_with_len}
use Rattle.std.specs.Option.{option_map_or}
use Rattle.std.proofs.lemmas.List.{length-map}
use Rattle.std.proofs.lemmas.Option.{slice_get_within}
use Rattle.std.proofs.lemmas.Simd.{map-map}
use Rattle.emc_base.specs.Lists.{At, places_of}
use Rattle.emc_base.proofs.Lists.{all_from_members, item_at}
use Rattle.emc_base.proofs.Mapped.{map-enumerated, map-filter_enumerated}
use Rattle.round_trip.specs.Words.{EntityModel, EntityType, Prop, TypeId, props_of}
use Rattle.edm_types.specs.Forest.{type_numbered}
use Rattle.round_trip.specs.soundness.models.Inheritance.{HasInheritedProps, declared_props, prop_numbered}
use Rattle.graphs.specs.base_chains.Chains.{IsAncestor}
use Rattle.emc_base.proofs.Members.{in_map}
use Rattle.csdl_names.specs.declared.csdl_lists.raw.RawModel.{RawModel}
use Rattle.csdl_names.specs.declared.csdl_lists.raw.RawProp.{RawProp}
use Rattle.csdl_names.specs.declared.csdl_lists.raw.RawType.{RawType}
use Rattle.csdl_meaning.specs.Meaning.{IsMeant, base_in, chain_in, declared_before, declared_by, own_props, prop_of, props_in, type_of}
use Rattle.csdl_meaning.proofs.types.Bases.{along_chain, base_inside, raw_at, type_at}
use Rattle.csdl_meaning.proofs.types.Declared.{declared_place, is_owned, owned}
use Rattle.emc_base.proofs.Joined.{in_enumerated, in_flat_map}

-- the numbers of numbered items
numbers-enumerated : {X : Type 0} (n : ℕ) (xs : List X) → map (λ (entry : ℕ × X). entry.0) (enumerate_from n xs) ≡ range_with_len n (length xs)
numbers-enumerated n [] = refl
numbers-enumerated n (x ∷ xs) = ap (λ numbers. n ∷ numbers) (numbers-enumerated (n + 1) xs)

module _ (raw : RawModel) where
  -- the properties that a type declares, with their places among those of all types
  owned_by : (i : ℕ) → filter (is_owned raw i) (enumerate_from 0 (props_in raw)) ≡ enumerate_from (declared_before raw i) (map (prop_of raw i) (declared_by raw i))
  owned_by i = owned raw 0 0 i i (declared_before raw i) raw.types (zero-add i) (zero-add (declared_before raw i))

  -- their ids
  own_places : (i : ℕ) → map prop_numbered (places_of (λ prop. prop.owner.index == i) (props_in raw)) ≡ own_props raw i
  own_places i = ap (map prop_numbered) (ap (map (λ (entry : ℕ × Prop). entry.0)) (owned_by i)
      ∙ numbers-enumerated (declared_before raw i) (map (prop_of raw i) (declared_by raw i))
      ∙ ap (range_with_len (declared_before raw i)) (length-map (declared_by raw i) (prop_of raw i)))

  -- and their names
  pub own_prop_names : (i : ℕ) → map (λ prop. prop.name) (filter (λ prop. prop.owner.index == i) (props_in raw)) ≡ map (λ prop. prop.name) (declared_by raw i)
  own_prop_names i =
      sym (map-filter_enumerated (λ (prop : Prop). prop.name) (λ prop. prop.owner.index == i) 0 (props_in raw))
      ∙ ap (map (λ (entry : ℕ × Prop). entry.1.name)) (owned_by i)
      ∙ map-enumerated (λ (prop : Prop). prop.name) (declared_before raw i) (map (prop_of raw i) (declared_by raw i))
      ∙ map-map (λ (prop : Prop). prop.name) (prop_of raw i) (declared_by raw i)

  -- a declared property stands at its place
  pub prop_at : (i k : ℕ) (prop : RawProp) → At (declared_by raw i) k prop → At (props_in raw) (declared_before raw i + k) (prop_of raw i prop)
  prop_at i k prop here = declared_place raw 0 i i (declared_before raw i) k (declared_before raw i + k) raw.types prop (zero-add i) refl refl here

  module _ (model : EntityModel) (meant : IsMeant raw model) where
    -- the properties that a type declares, in the model
    pub declared_in : (t : TypeId) → declared_props model t ≡ own_props raw t.index
    declared_in t = ap (λ (props : List Prop). map prop_numbered (places_of (λ prop. prop.owner.index == t.index) props)) meant.props ∙ own_places t.index

    -- what holds of each property that a type declares holds of each of the model
    pub of_each_prop : (P : Prop → Type 0)
        → ((i : ℕ) (type : RawType) (declared : RawProp) → At raw.types i type → Contains type.props declared → P (prop_of raw i declared)) → All P model.props
    of_each_prop P holds = subst (λ props. All P props) (sym meant.props) (all_from_members P (props_in raw) (λ prop has.
        let entry = in_flat_map (λ (place : ℕ × RawType). map (prop_of raw place.0) place.1.props) (enumerate_from 0 raw.types) prop has in
        let declared = in_map (prop_of raw entry.0.0) entry.0.1.props prop entry.2 in
        let place = in_enumerated 0 raw.types entry.0 entry.1 in
        let here : At raw.types entry.0.0 entry.0.1 = ap (slice_get raw.types) (sym place.1 ∙ zero-add place.0) ∙ place.2 in
        subst P declared.2 (holds entry.0.0 entry.0.1 declared.0 here declared.1)))

    -- what a type of the model has, by the document's
    pub has_at : {X : Type 0} (part : EntityType → List X) (j : ℕ) → j < length raw.types
        → (from : RawType) × At raw.types j from × (option_map_or part (slice_get model.types j) [] ≡ part (type_of raw j from))
    has_at part j inside =
        let from = item_at raw.types j inside in
        (from.0, from.1, ap (λ found. option_map_or part found []) (type_at raw model meant j from.0 from.1))

    -- the properties that a base type gives
    props_above : (i : ℕ) → option_map_or (λ j. flat_map (own_props raw) (chain_in raw j)) (base_in raw i) [] ≡ option_map_or (props_of model) (option_map type_numbered (base_in raw i)) []
    props_above i = by (base_in raw i) refl
      where
        by : (o : Option ℕ) → base_in raw i ≡ o → option_map_or (λ j. flat_map (own_props raw) (chain_in raw j)) o [] ≡ option_map_or (props_of model) (option_map type_numbered o) []
        by None is = refl
        by (Some j) is = sym (has_at (λ type. type.props) j (base_inside raw i j is)).2

    -- V8: a type's properties are those of its base type and its own
    pub inherited_props : ((i : ℕ) → ¬ IsAncestor (base_in raw) i i) → (t : TypeId) (type : EntityType) → At model.types t.index type → HasInheritedProps model t type
    inherited_props never t type here =
        let from = raw_at raw model meant t.index type here in
        let P : EntityType → Type 0 = λ type. HasInheritedProps model t type in
        subst P (sym from.2) (along_chain raw (own_props raw) never t.index (slice_get_within raw.types t.index from.0 from.1)
        ∙ (λ k. props_above t.index k ++ sym (declared_in t) k))
