-- By which association set and association of the document an association of the model is meant.
use Rattle.std.proofs.Common.{◌≡◌, ℕ, List, [], ◌∷◌, slice_get, Contains, Some, option_map, refl, sym, ap, ◌∙◌}
use Rattle.std.specs.Option.{option_and_then}
use Rattle.std.proofs.lemmas.Option.{same_Some}
use Rattle.emc_base.specs.Lists.{At}
use Rattle.emc_base.proofs.Mapped.{contains_at}
use Rattle.graphs.proofs.base_chains.orders.Orders.{place_of_member}
use Rattle.round_trip.specs.Words.{Assoc}
use Rattle.csdl_names.specs.declared.csdl_lists.raw.RawAssociation.{RawAssociation}
use Rattle.csdl_names.specs.declared.csdl_lists.raw.RawAssociationSet.{RawAssociationSet}
use Rattle.csdl_names.specs.declared.csdl_lists.raw.RawEnd.{RawEnd}
use Rattle.csdl_names.specs.declared.csdl_lists.raw.RawModel.{RawModel}
use Rattle.csdl_names.specs.csdl_lists.References.{names_in}
use Rattle.csdl_names.specs.Unresolved.{association_of}
use Rattle.csdl_associations.specs.csdl_constraints.Sides.{IsNamed}
use Rattle.csdl_meaning.specs.ModelMeaning.{assoc_between, assoc_of, constraint_of, end_of, meaning}
use Rattle.emc_base.proofs.FoundItems.{and_then_some, some_member}
use Rattle.emc_base.proofs.Joined.{in_found}

-- what an association set of an association with two ends means
abbrev pub two_ended : RawModel → RawAssociationSet → RawAssociation → RawEnd → RawEnd → Assoc
two_ended raw set association first second = record {
  set_name = set.name;
  assoc_name = association.name;
  first = end_of raw set first;
  second = end_of raw set second;
  constraint = option_map (constraint_of raw association first) association.constraint;
}

-- the association of the model is meant by this association set, whose association has these two ends
pub record IsMeantBy (raw : RawModel) (assoc : Assoc) : Type 0 where
  pub place : ℕ
  pub set : RawAssociationSet
  pub here : At raw.container.association_sets place set
  pub number : ℕ
  pub association : RawAssociation
  pub named : (names_in raw).association_named set.association ≡ Some number
  pub is_association : At raw.associations number association
  pub first : RawEnd
  pub second : RawEnd
  pub two : association.ends ≡ first ∷ second ∷ []
  pub is : assoc ≡ two_ended raw set association first second

-- what an association set means is meant by it
pub set_meant : (raw : RawModel) (place : ℕ) (set : RawAssociationSet) (assoc : Assoc) → At raw.container.association_sets place set → assoc_of raw set ≡ Some assoc → IsMeantBy raw assoc
set_meant raw place set assoc here is =
    let found = and_then_some (λ association. assoc_between raw set association association.ends) (association_of (names_in raw) raw set.association) assoc is in
    let number = and_then_some (slice_get raw.associations) ((names_in raw).association_named set.association) found.0 found.1 in
    by found.0 number.0 number.1 number.2 found.0.ends refl found.2
  where
    by : (association : RawAssociation) (number : ℕ) → (names_in raw).association_named set.association ≡ Some number → At raw.associations number association
        → (ends : List RawEnd) → association.ends ≡ ends → assoc_between raw set association ends ≡ Some assoc → IsMeantBy raw assoc
    by association number named at [] two one = absurd cc
    by association number named at (first ∷ []) two one = absurd cc
    by association number named at (first ∷ second ∷ third ∷ rest) two one = absurd cc
    by association number named at (first ∷ second ∷ []) two one = record {
      place = place;
      set = set;
      here = here;
      number = number;
      association = association;
      named = named;
      is_association = at;
      first = first;
      second = second;
      two = two;
      is = sym (same_Some (two_ended raw set association first second) assoc one);
    }

-- it has the name of the set
pub set_name_is : (raw : RawModel) (set : RawAssociationSet) (assoc : Assoc) → assoc_of raw set ≡ Some assoc → assoc.set_name ≡ set.name
set_name_is raw set assoc is =
    let found = and_then_some (λ association. assoc_between raw set association association.ends) (association_of (names_in raw) raw set.association) assoc is in
    by found.0 found.0.ends found.2
  where
    by : (association : RawAssociation) (ends : List RawEnd) → assoc_between raw set association ends ≡ Some assoc → assoc.set_name ≡ set.name
    by association [] one = absurd cc
    by association (first ∷ []) one = absurd cc
    by association (first ∷ second ∷ third ∷ rest) one = absurd cc
    by association (first ∷ second ∷ []) one = ap (λ (assoc : Assoc). assoc.set_name) (sym (same_Some (two_ended raw set association first second) assoc one))

-- each association of the model is meant by some association set
pub meant_by : (raw : RawModel) (assoc : Assoc) → Contains (meaning raw).assocs assoc → IsMeantBy raw assoc
meant_by raw assoc has =
    let found = in_found (assoc_of raw) raw.container.association_sets assoc has in
    set_meant raw found.1.0 found.0 assoc (place_of_member raw.container.association_sets found.0 found.1) found.2

module _ (raw : RawModel) (assoc : Assoc) (by : IsMeantBy raw assoc) where
  -- the association that the set names
  pub association_is : association_of (names_in raw) raw by.set.association ≡ Some by.association
  association_is = ap (option_and_then (slice_get raw.associations)) by.named ∙ by.is_association

  -- which some association set names
  pub is_named : IsNamed (names_in raw) raw by.number
  is_named = some_member (λ set. (names_in raw).association_named set.association ≡ Some by.number) raw.container.association_sets by.set
      (contains_at raw.container.association_sets by.place by.set by.here) by.named

  -- its two ends
  pub first_at : At by.association.ends 0 by.first
  first_at = ap (λ (ends : List RawEnd). slice_get ends 0) by.two

  pub second_at : At by.association.ends 1 by.second
  second_at = ap (λ (ends : List RawEnd). slice_get ends 1) by.two
