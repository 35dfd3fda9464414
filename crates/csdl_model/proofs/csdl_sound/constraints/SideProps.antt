-- The properties that a side of a constraint names: their ids stand in its type, and have the kinds and the nullability of the properties. V16, V17.
use Rattle.std.proofs.Common.{◌≡◌, ◌⊎◌, ⊎_elim, ℕ, ◌+◌, ◌<◌, Bool, true, false, List, length, map, All, Any, Contains, Option, Some, None, option_map, refl, sym, ap, subst, ◌∙◌}
use Rattle.std.specs.List.{filter_map}
use Rattle.std.specs.Option.{MatchOption, option_and_then}
use Rattle.std.proofs.lemmas.Bool.{both_ways}
use Rattle.std.proofs.lemmas.Option.{slice_get_within}
use Rattle.std.proofs.lemmas.List.Elements.{All-contains}
use Rattle.emc_base.proofs.Lists.{all_from_members, at_once}
use Rattle.graphs.specs.base_chains.Chains.{IsAncestor}
use Rattle.graphs.proofs.base_chains.Chains.{ancestor_in, ends, itself_in}
use Rattle.edm_types.specs.Forest.{type_numbered}
use Rattle.round_trip.specs.Words.{Prop, PropId, props_of}
use Rattle.round_trip.specs.soundness.models.Inheritance.{prop_numbered}
use Rattle.round_trip.specs.soundness.Kinds.{without_bound}
use Rattle.round_trip.specs.soundness.Lookups.{IsNeeded, prop_kind}
use Rattle.round_trip.specs.soundness.models.ModelIds.{IsPropId}
use Rattle.csdl_names.specs.declared.csdl_lists.raw.RawModel.{RawModel}
use Rattle.csdl_names.specs.declared.csdl_lists.raw.RawProp.{RawProp}
use Rattle.csdl_names.specs.csdl_lists.References.{names_in}
use Rattle.csdl_names.specs.declared.lookups.PropPlace.{PropPlace}
use Rattle.csdl_names.specs.PropPlaces.{prop_at, prop_of_type}
use Rattle.csdl_types.specs.Simple.{types_by}
use Rattle.csdl_associations.specs.csdl_constraints.Sides.{IsNullable, type_of_prop}
use Rattle.csdl_meaning.specs.Meaning.{base_in, chain_in, declared_before, own_props, prop_of, props_in}
use Rattle.csdl_meaning.specs.ModelMeaning.{meaning, prop_id}
use Rattle.csdl_meaning.proofs.types.Bases.{base_inside}
use Rattle.csdl_meaning.proofs.types.Keys.{named_own}
use Rattle.emc_base.proofs.Joined.{in_found}
use Rattle.csdl_meaning.proofs.types.Props.{has_at}
use Rattle.emc_base.proofs.FoundItems.{contains_flat_map, contains_found, map_found, member_of, some_member}
use Rattle.csdl_model.proofs.csdl_sound.types.MeantTypes.{meant}
use Rattle.csdl_model.proofs.csdl_sound.types.PropIds.{IsIdOf, named_there, of_id, raw_prop_is, stands}
use Rattle.csdl_meaning.proofs.types.PropKinds.{kind_by_type, kind_named}

module _ (raw : RawModel) (t : ℕ) where
  -- ids of names are in range
  pub ids_inside : (names : List (List ℕ)) → All (IsPropId (meaning raw)) (filter_map (prop_id raw t) names)
  ids_inside names = all_from_members (IsPropId (meaning raw)) (filter_map (prop_id raw t) names) (λ id has.
      let found = in_found (prop_id raw t) names id has in
      let it = of_id raw t found.0 id found.2 in
      slice_get_within (props_in raw) id.index (prop_of raw it.place.owner it.here.prop) (stands raw t found.0 id it))

  -- they are ids of properties that the type has
  pub ids_of_type : ((i : ℕ) → ¬ IsAncestor (base_in raw) i i) → t < length raw.types → (names : List (List ℕ)) → All (Contains (props_of (meaning raw) (type_numbered t))) (filter_map (prop_id raw t) names)
  ids_of_type never inside names = all_from_members (Contains (props_of (meaning raw) (type_numbered t))) (filter_map (prop_id raw t) names) (λ id has.
      let found = in_found (prop_id raw t) names id has in
      let it = of_id raw t found.0 id found.2 in
      let P : List PropId → Type 0 = λ ids. Contains ids id in
      subst P (sym (has_at raw (meaning raw) (meant raw) (λ type. type.props) t inside).2)
      (contains_flat_map (own_props raw) (chain_in raw t) it.place.owner id
      (in_its_chain it.place.owner it.here.up)
      (named_own raw it.place.owner found.0 id (named_there raw t found.0 id it))))
    where
      in_its_chain : (owner : ℕ) → (t ≡ owner) ⊎ IsAncestor (base_in raw) t owner → Contains (chain_in raw t) owner
      in_its_chain owner up = ⊎_elim
          (λ (same : t ≡ owner). let P : ℕ → Type 0 = λ k. Contains (chain_in raw t) k in subst P same (itself_in (base_in raw) (length raw.types) t (ends (base_in raw) never (length raw.types) (base_inside raw) t inside)))
          (λ (above : IsAncestor (base_in raw) t owner). ancestor_in (base_in raw) (length raw.types) t owner (ends (base_in raw) never (length raw.types) (base_inside raw) t inside) above)
          up

  -- the kind of a property, its bound aside
  kind_at : (name : List ℕ) (id : PropId) → IsIdOf raw t name id
      → option_map without_bound (prop_kind (meaning raw) id) ≡ Some (kind_named raw (type_of_prop (names_in raw) raw (types_by (names_in raw)) t name))
  kind_at name id it =
      ap (λ (found : Option Prop). option_map without_bound (option_map (λ declared. declared.kind) found)) (stands raw t name id it)
      ∙ ap Some (kind_by_type raw it.here.prop)
      ∙ ap (λ (found : Option RawProp). Some (kind_named raw (option_and_then (λ prop. types_by (names_in raw) prop.kind) found))) (sym (raw_prop_is raw t name id it))

  -- V17: the kinds of a side are what the Types of its properties name
  pub kinds_are : (names : List (List ℕ)) → ((name : List ℕ) → Contains names name → (id : PropId) × (prop_id raw t name ≡ Some id))
      → map (λ prop. option_map without_bound (prop_kind (meaning raw) prop)) (filter_map (prop_id raw t) names)
      ≡ map (λ name. Some (kind_named raw (type_of_prop (names_in raw) raw (types_by (names_in raw)) t name))) names
  kinds_are names all = map_found (prop_id raw t) (λ prop. option_map without_bound (prop_kind (meaning raw) prop)) (λ name. Some (kind_named raw (type_of_prop (names_in raw) raw (types_by (names_in raw)) t name))) names
      (λ name has. let id = all name has in (id.0, id.1, kind_at name id.0 (of_id raw t name id.0 id.1)))

  -- V16, V19: none of them may be null where the document says so of none
  pub all_needed : (names : List (List ℕ)) → ¬ Any (IsNullable (names_in raw) raw t) names → All (IsNeeded (meaning raw)) (filter_map (prop_id raw t) names)
  all_needed names none = all_from_members (IsNeeded (meaning raw)) (filter_map (prop_id raw t) names) (λ id has.
      let found = in_found (prop_id raw t) names id has in
      let it = of_id raw t found.0 id found.2 in
      (prop_of raw it.place.owner it.here.prop, stands raw t found.0 id it, by found.0 found.1 id it it.here.prop.nullable refl))
    where
      by : (name : List ℕ) → Contains names name → (id : PropId) (it : IsIdOf raw t name id) (nullable : Bool) → it.here.prop.nullable ≡ nullable → it.here.prop.nullable ≡ false
      by name has id it false is = is
      by name has id it true is = absurd (none (some_member (IsNullable (names_in raw) raw t) names name has
          (let P : Option RawProp → Type 0 = λ found. MatchOption found ⊥ (λ prop. prop.nullable ≡ true) in subst P (sym (raw_prop_is raw t name id it)) is)))

  -- and back
  pub none_nullable : (names : List (List ℕ)) → All (IsNeeded (meaning raw)) (filter_map (prop_id raw t) names) → ¬ Any (IsNullable (names_in raw) raw t) names
  none_nullable names all some =
      let null = member_of (IsNullable (names_in raw) raw t) names some in
      by null.0 null.1 (prop_id raw t null.0) refl null.2
    where
      by : (name : List ℕ) → Contains names name → (found : Option PropId) → prop_id raw t name ≡ found → IsNullable (names_in raw) raw t name → ⊥
      by name has None none null = lacks (prop_of_type (names_in raw) raw t name) none null
        where
          lacks : (found : Option PropPlace) → option_map (λ found. prop_numbered (declared_before raw found.owner + found.place)) found ≡ None
              → MatchOption (option_and_then (prop_at raw) found) ⊥ (λ prop. prop.nullable ≡ true) → ⊥
          lacks None none null = null
          lacks (Some place) none null = absurd cc
      by name has (Some id) is null =
          let it = of_id raw t name id is in
          let P : Option RawProp → Type 0 = λ found. MatchOption found ⊥ (λ prop. prop.nullable ≡ true) in
          let needed = All-contains (IsNeeded (meaning raw)) (filter_map (prop_id raw t) names) id all (contains_found (prop_id raw t) names name id has is) in
          let same = at_once (props_in raw) id.index needed.0 (prop_of raw it.place.owner it.here.prop) needed.1 (stands raw t name id it) in
          both_ways it.here.prop.nullable (ap (λ (prop : Prop). prop.nullable) (sym same) ∙ needed.2) (subst P (raw_prop_is raw t name id it) null)
