-- The arrows of a model that a document means are arrows of the document, so they don't come round in a circle. V19.
use Rattle.std.proofs.Common.{◌≡◌, ◌≢◌, inl, inr, ℕ, List, All, Any, Option, Some, refl, sym, ap, subst, ◌∙◌}
use Rattle.std.specs.Option.{MatchOption}
use Rattle.emc_base.specs.Lists.{At}
use Rattle.emc_base.proofs.Mapped.{contains_at}
use Rattle.round_trip.specs.Words.{End, PropId, SetId}
use Rattle.round_trip.specs.soundness.models.Constraints.{HasArrow, HasNoCircleOfArrows, Leads, arrow, further}
use Rattle.round_trip.specs.soundness.Lookups.{IsNeeded}
use Rattle.graphs.specs.arrow_cycles.Arrows.{Leads as RawLeads, arrow as raw_arrow, further as raw_further}
use Rattle.csdl_names.specs.declared.csdl_lists.raw.RawAssociation.{RawAssociation}
use Rattle.csdl_names.specs.declared.csdl_lists.raw.RawAssociationSet.{RawAssociationSet}
use Rattle.csdl_names.specs.declared.csdl_lists.raw.RawConstraint.{RawConstraint}
use Rattle.csdl_names.specs.declared.csdl_lists.raw.RawModel.{RawModel}
use Rattle.csdl_names.specs.declared.csdl_lists.raw.RawRole.{RawRole}
use Rattle.csdl_names.specs.csdl_lists.References.{names_in}
use Rattle.csdl_names.specs.SetRoles.{set_of_role}
use Rattle.csdl_associations.specs.csdl_constraints.Sides.{IsNullable}
use Rattle.csdl_associations.specs.csdl_association_sets.SetArrows.{IsArrow, IsArrowOf, LeadsBetween}
use Rattle.csdl_meaning.specs.ModelMeaning.{meaning}
use Rattle.csdl_model.specs.csdl_sound.SoundMeaning.{KeepsRules}
use Rattle.csdl_model.proofs.csdl_sound.constraints.ConstraintSides.{IsConstrained, IsSideAt, constrained}
use Rattle.emc_base.proofs.FoundItems.{some_member}
use Rattle.csdl_model.proofs.csdl_sound.associations.KeptSets.{not_on_circle}
use Rattle.csdl_model.proofs.csdl_sound.associations.MeantAssocs.{IsMeantBy, association_is, meant_by}
use Rattle.csdl_model.proofs.csdl_sound.constraints.SideFacts.{of_type, side_set}
use Rattle.csdl_model.proofs.csdl_sound.constraints.SideProps.{none_nullable}
use Rattle.csdl_model.proofs.csdl_sound.constraints.SoundConstraints.{depends_by_key}

-- an arrow of the document
record IsArrowAt (raw : RawModel) (from to : ℕ) : Type 0 where
  pub place : ℕ
  pub set : RawAssociationSet
  pub here : At raw.container.association_sets place set
  pub leads : IsArrowOf (names_in raw) raw set from to

-- the set at a side
set_at : {raw : RawModel} {set : RawAssociationSet} {association : RawAssociation} {side : RawRole} {end : End} {props : List PropId} (it : IsSideAt raw set association side end props)
    → (s : SetId) → end.set ≡ s → set_of_role (names_in raw) raw set side.role ≡ Some s.index
set_at {raw} {set} it s is = ap (set_of_role (names_in raw) raw set) it.same_role ∙ it.there.is_set ∙ ap (λ (s : SetId). Some s.index) (sym (side_set it) ∙ is)

module _ (raw : RawModel) (keeps : KeepsRules raw) where
  -- an arrow of the model is one of the document
  arrow_is : (from to : SetId) → HasArrow (meaning raw) from to → IsArrowAt raw from.index to.index
  arrow_is from to has =
      let by = meant_by raw has.assoc has.is_assoc in
      let it = constrained raw keeps has.assoc by has.constraint has.constrained in
      let P : Option RawAssociation → Type 0 = λ found. MatchOption found ⊥ (λ association. MatchOption association.constraint ⊥ (LeadsBetween (names_in raw) raw by.set from.index to.index association)) in
      let Q : Option RawConstraint → Type 0 = λ found. MatchOption found ⊥ (LeadsBetween (names_in raw) raw by.set from.index to.index by.association) in
      record {
        place = by.place;
        set = by.set;
        here = by.here;
        leads = subst P (sym (association_is raw has.assoc by)) (subst Q (sym it.is_raw) (leads by it));
      }
    where
      leads : (by : IsMeantBy raw has.assoc) (it : IsConstrained raw has.assoc by has.constraint) → LeadsBetween (names_in raw) raw by.set from.index to.index by.association it.raw_constraint
      leads by it = record {
        decides = record {
          by_key = depends_by_key raw keeps has.assoc by has.constraint it has.by_key;
          needed = λ null. let R : List PropId → Type 0 = λ props. All (IsNeeded (meaning raw)) props in
              none_nullable raw it.dependent.there.type it.raw_constraint.dependent.props (subst R it.dependent.are_props has.needed)
              (of_type it.dependent (λ i. Any (IsNullable (names_in raw) raw i) it.raw_constraint.dependent.props) null);
        };
        dependent = set_at it.dependent from has.from_is;
        principal = set_at it.principal to has.to_is;
      }

  -- among all arrows
  among_all : (from to : ℕ) → IsArrowAt raw from to → IsArrow (names_in raw) raw from to
  among_all from to it = some_member (λ set. IsArrowOf (names_in raw) raw set from to) raw.container.association_sets it.set
      (contains_at raw.container.association_sets it.place it.set it.here) it.leads

  -- where arrows of the model lead, those of the document do
  leads_is : (from to : SetId) → Leads (meaning raw) from to → RawLeads (IsArrow (names_in raw) raw) from.index to.index
  leads_is from to (arrow _ _ has) = raw_arrow from.index to.index (among_all from.index to.index (arrow_is from to has))
  leads_is from to (further _ next _ has rest) = raw_further from.index next.index to.index (among_all from.index next.index (arrow_is from next has)) (leads_is next to rest)

  -- none leads back
  none_back : (from to : SetId) → Leads (meaning raw) from to → from.index ≢ to.index
  none_back from to (arrow _ _ has) same =
      let it = arrow_is from to has in
      not_on_circle raw keeps.sets it.place it.set it.here (from.index, to.index, it.leads, inl same)
  none_back from to (further _ next _ has rest) same =
      let it = arrow_is from next has in
      let P : ℕ → Type 0 = λ k. RawLeads (IsArrow (names_in raw) raw) next.index k in
      not_on_circle raw keeps.sets it.place it.set it.here (from.index, next.index, it.leads, inr (subst P (sym same) (leads_is next to rest)))

  -- V19
  pub no_circle : HasNoCircleOfArrows (meaning raw)
  no_circle set leads = none_back set set leads refl
