-- Ids of sets, ends and constraints in the model that a document means, and the element types of its sets. V7, V14.
use Rattle.std.proofs.Common.{◌≡◌, ℕ, List, ◌++◌, All, Option, Some, None, refl, sym, ap, subst, ◌∙◌}
use Rattle.std.specs.Bool.{⊤}
use Rattle.std.specs.Option.{MatchOption, unwrap_or}
use Rattle.std.proofs.lemmas.List.Elements.{All-append}
use Rattle.emc_base.specs.Lists.{At}
use Rattle.emc_base.proofs.Lists.{all_from_members}
use Rattle.emc_base.proofs.Members.{in_map}
use Rattle.graphs.proofs.base_chains.orders.Orders.{place_of_member}
use Rattle.edm_types.specs.Forest.{type_numbered}
use Rattle.round_trip.specs.Words.{Assoc, Constraint, End, EntitySet, PropId, SetId, TypeId}
use Rattle.round_trip.specs.soundness.Lookups.{HasConcrete}
use Rattle.round_trip.specs.soundness.models.ModelIds.{HasEndIds, IsPropId, IsSetId, IsTypeId}
use Rattle.csdl_names.specs.declared.csdl_lists.raw.RawEnd.{RawEnd}
use Rattle.csdl_names.specs.declared.csdl_lists.raw.RawModel.{RawModel}
use Rattle.csdl_names.specs.declared.csdl_lists.raw.RawSet.{RawSet}
use Rattle.csdl_names.specs.csdl_lists.References.{names_in}
use Rattle.csdl_meaning.specs.ModelMeaning.{end_of, meaning, set_of}
use Rattle.csdl_model.specs.csdl_sound.SoundMeaning.{KeepsRules}
use Rattle.csdl_model.proofs.csdl_sound.constraints.ConstraintSides.{constrained}
use Rattle.csdl_model.proofs.csdl_sound.associations.KeptSets.{element_concrete}
use Rattle.csdl_model.proofs.csdl_sound.types.KeyIds.{never}
use Rattle.csdl_model.proofs.csdl_sound.associations.MeantAssocs.{IsMeantBy, first_at, meant_by, second_at}
use Rattle.csdl_model.proofs.csdl_sound.associations.MeantEnds.{end_at, named_type_id, set_id, set_is, type_is}
use Rattle.csdl_model.proofs.csdl_sound.types.MeantTypes.{has_concrete}
use Rattle.csdl_meaning.proofs.kept.Resolved.{element_found}
use Rattle.csdl_model.proofs.csdl_sound.constraints.SideProps.{ids_inside}

module _ (raw : RawModel) (keeps : KeepsRules raw) where
  -- what holds of the element type of each set of the document
  of_elements : (P : TypeId → Type 0) → ((i : ℕ) (set : RawSet) → At raw.container.sets i set → (t : ℕ) → (names_in raw).type_named set.element ≡ Some t → P (type_numbered t))
      → All (λ set. P set.element) (meaning raw).sets
  of_elements P holds = all_from_members (λ set. P set.element) (meaning raw).sets (λ set has.
      let from = in_map (set_of raw) raw.container.sets set has in
      let here = place_of_member raw.container.sets from.0 from.1 in
      let t = element_found raw keeps.types.resolves_all from.1.0 from.0 here in
      subst P (sym (ap (λ (found : Option ℕ). type_numbered (unwrap_or found 0)) t.1) ∙ ap (λ (set : EntitySet). set.element) from.2) (holds from.1.0 from.0 here t.0 t.1))

  -- element types are types
  pub elements_inside : All (λ set. IsTypeId (meaning raw) set.element) (meaning raw).sets
  elements_inside = of_elements (λ t. IsTypeId (meaning raw) t) (λ i set here t is. named_type_id raw set.element t is)

  -- V14
  pub elements_concrete : All (λ set. HasConcrete (meaning raw) set.element) (meaning raw).sets
  elements_concrete = of_elements (λ t. HasConcrete (meaning raw) t) (λ i set here t is. has_concrete raw (never raw keeps.types) t (element_concrete raw keeps.sets i set here t is))

  -- an end's set and type
  end_inside : (assoc : Assoc) (by : IsMeantBy raw assoc) (k : ℕ) (end : RawEnd) → At by.association.ends k end → HasEndIds (meaning raw) (end_of raw by.set end)
  end_inside assoc by k end at =
      let it = end_at raw keeps assoc by k end at in
      let P : SetId → Type 0 = λ s. IsSetId (meaning raw) s in
      let Q : TypeId → Type 0 = λ t. IsTypeId (meaning raw) t in (
        subst P (sym (set_is raw by.set by.association end it)) (set_id raw by.set by.association end it),
        subst Q (sym (type_is raw by.set by.association end it)) (named_type_id raw end.ty it.type it.is_type),
      )

  pub ends_inside : All (λ assoc. HasEndIds (meaning raw) assoc.first × HasEndIds (meaning raw) assoc.second) (meaning raw).assocs
  ends_inside = all_from_members (λ (assoc : Assoc). HasEndIds (meaning raw) assoc.first × HasEndIds (meaning raw) assoc.second) (meaning raw).assocs (λ assoc has.
      let by = meant_by raw assoc has in
      let P : End → Type 0 = λ end. HasEndIds (meaning raw) end in (
        subst P (sym (ap (λ (assoc : Assoc). assoc.first) by.is)) (end_inside assoc by 0 by.first (first_at raw assoc by)),
        subst P (sym (ap (λ (assoc : Assoc). assoc.second) by.is)) (end_inside assoc by 1 by.second (second_at raw assoc by)),
      ))

  -- the properties of constraints
  pub constraints_inside : All (λ assoc. MatchOption assoc.constraint ⊤ (λ constraint. All (IsPropId (meaning raw)) (constraint.principal ++ constraint.dependent))) (meaning raw).assocs
  constraints_inside = all_from_members (λ (assoc : Assoc). MatchOption assoc.constraint ⊤ (λ constraint. All (IsPropId (meaning raw)) (constraint.principal ++ constraint.dependent))) (meaning raw).assocs
      (λ assoc has. by assoc (meant_by raw assoc has) assoc.constraint refl)
    where
      by : (assoc : Assoc) (via : IsMeantBy raw assoc) (found : Option Constraint) → assoc.constraint ≡ found → MatchOption found ⊤ (λ constraint. All (IsPropId (meaning raw)) (constraint.principal ++ constraint.dependent))
      by assoc via None is = tt
      by assoc via (Some constraint) is =
          let it = constrained raw keeps assoc via constraint is in
          let P : List PropId → Type 0 = λ props. All (IsPropId (meaning raw)) props in
          All-append (IsPropId (meaning raw)) constraint.principal constraint.dependent
          (subst P (sym it.principal.are_props) (ids_inside raw it.principal.there.type it.raw_constraint.principal.props))
          (subst P (sym it.dependent.are_props) (ids_inside raw it.dependent.there.type it.raw_constraint.dependent.props))
