-- What is known of a side of a constraint: the type, the set and the multiplicity at its end, and the kinds of its properties. V16, V17.
use Rattle.std.proofs.Common.{◌≡◌, ℕ, List, map, Contains, Option, Some, option_map, refl, sym, ap, subst, ◌∙◌}
use Rattle.std.specs.List.{filter_map}
use Rattle.std.specs.Option.{MatchOption, option_and_then}
use Rattle.std.proofs.lemmas.Option.{same_Some}
use Rattle.std.proofs.lemmas.Simd.{map-map}
use Rattle.edm_types.specs.Forest.{type_numbered}
use Rattle.round_trip.specs.Words.{End, PropId, SetId, TypeId}
use Rattle.round_trip.specs.soundness.Kinds.{without_bound}
use Rattle.round_trip.specs.soundness.Lookups.{IsElement, prop_kind}
use Rattle.csdl_names.specs.declared.csdl_lists.raw.RawAssociation.{RawAssociation}
use Rattle.csdl_names.specs.declared.csdl_lists.raw.RawAssociationSet.{RawAssociationSet}
use Rattle.csdl_names.specs.declared.csdl_lists.raw.RawEnd.{RawEnd}
use Rattle.csdl_names.specs.declared.csdl_lists.raw.RawModel.{RawModel}
use Rattle.csdl_names.specs.declared.csdl_lists.raw.RawRole.{RawRole}
use Rattle.csdl_names.specs.csdl_lists.References.{names_in}
use Rattle.csdl_names.specs.SetRoles.{element_of_role}
use Rattle.csdl_names.specs.Unresolved.{end_of_role, type_of_role}
use Rattle.csdl_types.specs.declared.simple.PropType.{PropType}
use Rattle.csdl_types.specs.Simple.{types_by}
use Rattle.csdl_associations.specs.csdl_constraints.Multiplicities.{HasMult}
use Rattle.csdl_associations.specs.csdl_constraints.Sides.{type_of_prop, types_of_side}
use Rattle.csdl_meaning.specs.ModelMeaning.{meaning, mult_of, prop_id, set_numbered}
use Rattle.csdl_model.proofs.csdl_sound.constraints.ConstraintSides.{IsSideAt}
use Rattle.csdl_model.proofs.csdl_sound.associations.MeantEnds.{is_element_of, set_is, type_is}
use Rattle.csdl_meaning.proofs.types.PropKinds.{kind_named}
use Rattle.csdl_model.proofs.csdl_sound.constraints.SideProps.{kinds_are}

module _ {raw : RawModel} {set : RawAssociationSet} {association : RawAssociation} {side : RawRole} {end : End} {props : List PropId} (it : IsSideAt raw set association side end props) where
  -- the type, the set and the multiplicity of the end at which a side stands
  pub side_type : end.ty ≡ type_numbered it.there.type
  side_type = ap (λ (end : End). end.ty) it.is_end ∙ type_is raw set association it.raw_end it.there

  pub side_set : end.set ≡ set_numbered it.there.place
  side_set = ap (λ (end : End). end.set) it.is_end ∙ set_is raw set association it.raw_end it.there

  pub side_mult : end.mult ≡ mult_of it.raw_end.multiplicity
  side_mult = ap (λ (end : End). end.mult) it.is_end

  -- the multiplicity is that of its role
  pub has_mult : (text : List ℕ) → it.raw_end.multiplicity ≡ text → HasMult association side.role text
  has_mult text is = ap (option_map (λ (end : RawEnd). end.multiplicity)) (ap (end_of_role association) it.same_role ∙ it.there.of_role) ∙ ap Some is

  pub mult_has : (text : List ℕ) → HasMult association side.role text → it.raw_end.multiplicity ≡ text
  mult_has text has = same_Some it.raw_end.multiplicity text (sym (has_mult it.raw_end.multiplicity refl) ∙ has)

  -- what is said of the type at the role is said of the type
  pub of_type : (P : ℕ → Type 0) → MatchOption (type_of_role (names_in raw) raw association side.role) ⊥ P → P it.there.type
  of_type P holds = let Q : Option ℕ → Type 0 = λ found. MatchOption found ⊥ P in subst Q it.of_role holds

  pub to_type : (P : ℕ → Type 0) → P it.there.type → MatchOption (type_of_role (names_in raw) raw association side.role) ⊥ P
  to_type P holds = let Q : Option ℕ → Type 0 = λ found. MatchOption found ⊥ P in subst Q (sym it.of_role) holds

  -- what holds of the type and the ids holds of the end's and of the side's
  pub of_side : (P : TypeId → List PropId → Type 0) → P (type_numbered it.there.type) (filter_map (prop_id raw it.there.type) side.props) → P end.ty props
  of_side P holds = subst (λ t. P t props) (sym side_type) (subst (P (type_numbered it.there.type)) (sym it.are_props) holds)

  -- where the document has the set's element type at the role, the model has it at the end
  pub side_element : element_of_role (names_in raw) raw set side.role ≡ type_of_role (names_in raw) raw association side.role → IsElement (meaning raw) end.set end.ty
  side_element same =
      let P : SetId → TypeId → Type 0 = λ s t. IsElement (meaning raw) s t in
      subst (λ s. P s end.ty) (sym side_set) (subst (P (set_numbered it.there.place)) (sym side_type) (is_element_of raw set association it.raw_end it.there
      (ap (element_of_role (names_in raw) raw set) (sym it.same_role) ∙ same ∙ ap (type_of_role (names_in raw) raw association) it.same_role)))

  -- the kinds of the properties, by the Types that they name
  pub side_kinds : ((name : List ℕ) → Contains side.props name → (id : PropId) × (prop_id raw it.there.type name ≡ Some id))
      → map (λ prop. option_map without_bound (prop_kind (meaning raw) prop)) props ≡ map (λ type. Some (kind_named raw type)) (types_of_side (names_in raw) raw (types_by (names_in raw)) association side)
  side_kinds all =
      ap (map (λ (prop : PropId). option_map without_bound (prop_kind (meaning raw) prop))) it.are_props
      ∙ kinds_are raw it.there.type side.props all
      ∙ sym (map-map (λ (type : Option PropType). Some (kind_named raw type)) (λ (name : List ℕ). type_of_prop (names_in raw) raw (types_by (names_in raw)) it.there.type name) side.props)
      ∙ ap (λ (found : Option ℕ). map (λ (type : Option PropType). Some (kind_named raw type)) (map (λ name. option_and_then (λ i. type_of_prop (names_in raw) raw (types_by (names_in raw)) i name) found) side.props)) (sym it.of_role)
