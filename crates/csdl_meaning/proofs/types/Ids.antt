-- Ids: base types, keys and properties of types, and owners of properties, are in range. No rule is needed.
use Rattle.std.proofs.Common.{◌≡◌, ℕ, ◌+◌, ◌<◌, length, All, Contains, Option, Some, None, option_map, refl, sym, ap, subst, ◌∙◌, arith}
use Rattle.std.specs.Bool.{⊤}
use Rattle.std.specs.List.{flat_map, range_with_len}
use Rattle.std.specs.Option.{MatchOption}
use Rattle.std.proofs.lemmas.List.FromFn.{get_or-range_with_len, length-range_with_len}
use Rattle.std.proofs.lemmas.Option.{slice_get_within}
use Rattle.emc_base.specs.Lists.{At}
use Rattle.emc_base.proofs.Lists.{all_from_members, item_at}
use Rattle.round_trip.specs.Words.{EntityModel, EntityType, PropId}
use Rattle.edm_types.specs.Forest.{type_numbered}
use Rattle.round_trip.specs.soundness.models.Inheritance.{prop_numbered}
use Rattle.round_trip.specs.soundness.models.ModelIds.{IsPropId, IsTypeId}
use Rattle.emc_base.proofs.Members.{in_map}
use Rattle.csdl_names.specs.declared.csdl_lists.raw.RawModel.{RawModel}
use Rattle.csdl_names.specs.declared.csdl_lists.raw.RawType.{RawType}
use Rattle.csdl_meaning.specs.Meaning.{IsMeant, base_in, chain_in, declared_before, declared_by, own_key, own_props, prop_of, props_in, type_of}
use Rattle.csdl_meaning.proofs.types.Bases.{base_inside, raw_at, type_at}
use Rattle.csdl_meaning.proofs.types.Keys.{key_named, named_own}
use Rattle.emc_base.proofs.Joined.{all_from_places, in_flat_map}
use Rattle.csdl_meaning.proofs.types.Props.{of_each_prop, prop_at}

-- a number of a range
in_range : (a n x : ℕ) → Contains (range_with_len a n) x → (k : ℕ) × (k < n) × (a + k ≡ x)
in_range a n x has =
    let inside : has.0 < n = subst (λ count. has.0 < count) (length-range_with_len a n) has.1 in
    (has.0, inside, sym (get_or-range_with_len a n has.0 x inside) ∙ has.2)

-- less by equal numbers
less_same : (a b m n : ℕ) → a ≡ b → m ≡ n → a < m → b < n
less_same a b m n one two less = omega arith

module _ (raw : RawModel) (model : EntityModel) (meant : IsMeant raw model) where
  -- a property that a type declares is one of all
  own_inside : (i : ℕ) (prop : PropId) → Contains (own_props raw i) prop → IsPropId model prop
  own_inside i prop has =
      let number = in_map prop_numbered (range_with_len (declared_before raw i) (length (declared_by raw i))) prop has in
      let place = in_range (declared_before raw i) (length (declared_by raw i)) number.0 number.1 in
      let declared = item_at (declared_by raw i) place.0 place.1 in
      let inside = slice_get_within (props_in raw) (declared_before raw i + place.0) (prop_of raw i declared.0) (prop_at raw i place.0 declared.0 declared.1) in
      let same : declared_before raw i + place.0 ≡ prop.index = place.2 ∙ ap (λ (prop : PropId). prop.index) number.2 in
      less_same (declared_before raw i + place.0) prop.index (length (props_in raw)) (length model.props) same (sym (ap length meant.props)) inside

  -- and so is one of its key
  key_inside : (i : ℕ) (prop : PropId) → Contains (own_key raw i) prop → IsPropId model prop
  key_inside i prop has = let name = key_named raw i prop has in own_inside i prop (named_own raw i name.0 prop name.1)

  -- what holds of each type that the document means
  of_each : (P : EntityType → Type 0) → ((i : ℕ) (from : RawType) → At raw.types i from → P (type_of raw i from)) → All P model.types
  of_each P holds = all_from_places P model.types (λ i type here. let from = raw_at raw model meant i type here in subst P (sym from.2) (holds i from.0 from.1))

  -- the model has as many types as the document
  types_inside : (i : ℕ) → i < length raw.types → i < length model.types
  types_inside i inside = let from = item_at raw.types i inside in slice_get_within model.types i (type_of raw i from.0) (type_at raw model meant i from.0 from.1)

  -- base types
  pub bases_inside : All (λ type. MatchOption type.base ⊤ (IsTypeId model)) model.types
  bases_inside = of_each (λ type. MatchOption type.base ⊤ (IsTypeId model)) (λ i from here. by i (base_in raw i) refl)
    where
      by : (i : ℕ) (found : Option ℕ) → base_in raw i ≡ found → MatchOption (option_map type_numbered found) ⊤ (IsTypeId model)
      by i None is = tt
      by i (Some j) is = types_inside j (base_inside raw i j is)

  -- properties of keys
  pub keys_inside : All (λ type. All (IsPropId model) type.key) model.types
  keys_inside = of_each (λ type. All (IsPropId model) type.key) (λ i from here. all_from_members (IsPropId model) (flat_map (own_key raw) (chain_in raw i)) (λ prop has.
      let of_one = in_flat_map (own_key raw) (chain_in raw i) prop has in key_inside of_one.0 prop of_one.2))

  -- properties of types
  pub props_inside : All (λ type. All (IsPropId model) type.props) model.types
  props_inside = of_each (λ type. All (IsPropId model) type.props) (λ i from here. all_from_members (IsPropId model) (flat_map (own_props raw) (chain_in raw i)) (λ prop has.
      let of_one = in_flat_map (own_props raw) (chain_in raw i) prop has in own_inside of_one.0 prop of_one.2))

  -- the types that declare properties
  pub owners_inside : All (λ prop. IsTypeId model prop.owner) model.props
  owners_inside = of_each_prop raw model meant (λ prop. IsTypeId model prop.owner) (λ i type declared here has. types_inside i (slice_get_within raw.types i type here))
