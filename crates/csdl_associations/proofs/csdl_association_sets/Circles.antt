-- The arrows in a list are those of the association sets at their places, and lie on cycles where these lie on circles.
use Rattle.std.proofs.Common.{◌≡◌, ⊎_elim, inl, inr, ℕ, ◌<◌, List, [], ◌∷◌, length, MatchOption, codes, Option, Some, None, refl, ap, arith, ◌∙◌}
use Rattle.std.specs.Option.{option_map}
use Rattle.std.specs.Ordering.{nat_cmp}
use Rattle.std.proofs.lemmas.Option.{get_or_from_slice_get, slice_get-get_or, slice_get_within}
use Rattle.emc_base.specs.Lists.{At}
use Rattle.emc_base.proofs.Lists.{item_at}
use Rattle.json_form.specs.declared.pointer.Step.TheVariants.{Item, Member}
use Rattle.groupings.specs.least_fault.Least.{IsLeast}
use Rattle.layouts.specs.declared.rule.Rule.TheVariants.{Arrows}
use Rattle.layouts.specs.Faults.{fault_cmp}
use Rattle.layouts.specs.Inside.{after}
use Rattle.layouts.proofs.rule_places.Rules.{least_by_place, upto_not_greater}
use Rattle.graphs.specs.base_chains.Walks.{IsFirst}
use Rattle.graphs.specs.declared.arrow_cycles.arrow.Arrow.{Arrow}
use Rattle.graphs.specs.arrow_cycles.Arrows as Listed
use Rattle.graphs.proofs.arrow_cycles.Reaching.{leads_by}
use Rattle.csdl_names.specs.declared.csdl_lists.raw.RawAssociation.{RawAssociation}
use Rattle.csdl_names.specs.declared.csdl_lists.raw.RawAssociationSet.{RawAssociationSet}
use Rattle.csdl_names.specs.declared.csdl_lists.raw.RawModel.{RawModel}
use Rattle.csdl_names.specs.csdl_lists.References.{names_in}
use Rattle.csdl_names.specs.Unresolved.{association_of}
use Rattle.csdl_associations.specs.csdl_association_sets.SetArrows.{IsArrow, IsArrowOf, IsOnCircle, LeadsBetween}
use Rattle.csdl_associations.specs.csdl_association_sets.Told.{AreArrowsOf, BreaksArrows}
use Rattle.csdl_associations.proofs.csdl_association_sets.KnownConstraints.{of_some}
use Rattle.csdl_associations.proofs.csdl_association_sets.Within.{role_within}

module _ (model : RawModel) (arrows : List (Option Arrow)) (are : AreArrowsOf model model.container.association_sets arrows) where
  abbrev sets : List RawAssociationSet
  sets = model.container.association_sets

  -- an arrow at a place is that of the association set there
  arrow_of_set : (k from to : ℕ) → At arrows k (Some (record { from = from; to = to })) → (set : RawAssociationSet) × At sets k set × IsArrowOf (names_in model) model set from to
  arrow_of_set k from to here =
      let inside : k < length arrows = slice_get_within arrows k (Some (record { from = from; to = to })) here in
      let alike : length arrows ≡ length sets = are.alike in
      let set = item_at sets k (let within : k < length sets = omega (arith, inside, alike) in within) in
      (set.0, set.1, (are.each k set.0 (Some (record { from = from; to = to })) set.1 here from to).0 refl)

  -- and back
  set_of_arrow : (k from to : ℕ) (set : RawAssociationSet) → At sets k set → IsArrowOf (names_in model) model set from to → At arrows k (Some (record { from = from; to = to }))
  set_of_arrow k from to set here arrow =
      let inside : k < length sets = slice_get_within sets k set here in
      let alike : length arrows ≡ length sets = are.alike in
      let found = item_at arrows k (let within : k < length arrows = omega (arith, inside, alike) in within) in
      found.1 ∙ ap Some ((are.each k set found.0 here found.1 from to).1 arrow)

  -- the arrows of the list are those of the model
  to_model : (from to : ℕ) → Listed.IsArrow arrows from to → IsArrow (names_in model) model from to
  to_model from to (k, here) =
      let found = arrow_of_set k from to here in
      (k, found.0, slice_get_within sets k found.0 found.1, get_or_from_slice_get sets k found.0 found.0 found.1, found.2)

  to_list : (from to : ℕ) → IsArrow (names_in model) model from to → Listed.IsArrow arrows from to
  to_list from to (k, set, within, is, arrow) = (k, set_of_arrow k from to set (slice_get-get_or sets k set within ∙ ap Some is) arrow)

  -- on a cycle stands what stands on a circle
  on_circle : (k : ℕ) → Listed.IsOnCycle arrows k → (set : RawAssociationSet) × At sets k set × IsOnCircle (names_in model) model set
  on_circle k (from, to, here, way) =
      let found = arrow_of_set k from to here in
      (found.0, found.1, (from, to, found.2, ⊎_elim (λ same. inl same) (λ back. inr (leads_by (Listed.IsArrow arrows) (IsArrow (names_in model) model) to_model to from back)) way))

  on_cycle : (k : ℕ) (set : RawAssociationSet) → At sets k set → IsOnCircle (names_in model) model set → Listed.IsOnCycle arrows k
  on_cycle k set here (from, to, arrow, way) =
      (from, to, set_of_arrow k from to set here arrow, ⊎_elim (λ same. inl same) (λ back. inr (leads_by (IsArrow (names_in model) model) (Listed.IsArrow arrows) to_list to from back)) way)

  -- the arrows lead from entity set to entity set
  pub arrows_within : Listed.StayWithin (length model.container.sets) arrows
  arrows_within = record { each = within }
    where
      within : (from to : ℕ) → Listed.IsArrow arrows from to → (from < length model.container.sets) × (to < length model.container.sets)
      within from to (k, here) =
          let found = arrow_of_set k from to here in
          let association = of_some (association_of (names_in model) model found.0.association) (λ (a : RawAssociation). MatchOption a.constraint ⊥ (LeadsBetween (names_in model) model found.0 from to a)) found.2 in
          let constraint = of_some association.0.constraint (LeadsBetween (names_in model) model found.0 from to association.0) association.2 in
          let way = constraint.2 in
          (role_within model found.0 constraint.0.dependent.role from way.dependent, role_within model found.0 constraint.0.principal.role to way.principal)

  -- the first that stands on a circle
  first_on_circle : (found : Option ℕ) → IsFirst (Listed.IsOnCycle arrows) found
      → IsLeast nat_cmp (λ k. (set : RawAssociationSet) × At sets k set × IsOnCircle (names_in model) model set) found
  first_on_circle None none = λ k some. none k (on_cycle k some.0 some.1 some.2)
  first_on_circle (Some first) is = (on_circle first is.0, λ k some. upto_not_greater first k (is.1 k (on_cycle k some.0 some.1 some.2)))

  -- tells the least fault against V19
  pub least_arrow : (found : Option ℕ) → IsFirst (Listed.IsOnCycle arrows) found
      → IsLeast fault_cmp (BreaksArrows model) (option_map (after (Member (codes "AssociationSet"))) (option_map (λ i. record { rule = Arrows; place = Item i ∷ [] }) found))
  least_arrow found first =
      least_by_place Arrows [] (λ k set. IsOnCircle (names_in model) model set) sets (codes "AssociationSet") found (first_on_circle found first)
