-- A state with the same entities and links in another order keeps the same rules.
use Rattle.std.proofs.Common.{◌≡◌, ◌≢◌, List, All, IsPermutation, sym}
use Rattle.std.proofs.lemmas.List.Sorted.{All-permutation}
use Rattle.edm_types.specs.declared.model.Mult.TheVariants.{One, ZeroOrOne, Many}
use Rattle.round_trip.specs.Words.{SetId, AssocId, Value, Null, EntityModel, EntitySet, Assoc, End, Mult, Constraint, Entity, Link, AreLegalLinks, HasAllowedNulls, HasCount, HasEntityAt, HasFittingType, HasPrincipal, HasValuesInDomain, HavePrincipals, IsA, IsLegal, IsLegalSet, IsSameState, IsState, State, dependent_end, entities_in, key_of, links_in, principal_end, values_of}
use Rattle.schema_laws.proofs.same_states.Reordered.{all_in_any_order, any_in_any_order, one_in_any_order, pairs_in_any_order}

-- as many links
count_in_any_order : (mult : Mult) (P : Link → Type 0) (links others : List Link) → IsPermutation links others → HasCount mult P links → HasCount mult P others
count_in_any_order One P links others moved count = (any_in_any_order P links others moved count.0, one_in_any_order P links others moved count.1)
count_in_any_order ZeroOrOne P links others moved count = one_in_any_order P links others moved count
count_in_any_order Many P links others moved count = count

module _ (model : EntityModel) (one two : State) (same : IsSameState one two) where
  -- a set keeps its rules
  legal_set : (s : SetId) (set : EntitySet) → IsLegalSet model set (entities_in one s) → IsLegalSet model set (entities_in two s)
  legal_set s set legal = record {
    types = All-permutation (HasFittingType model set) (entities_in one s) (entities_in two s) (same.entities s) legal.types;
    nulls = All-permutation (HasAllowedNulls model) (entities_in one s) (entities_in two s) (same.entities s) legal.nulls;
    domains = All-permutation (HasValuesInDomain model) (entities_in one s) (entities_in two s) (same.entities s) legal.domains;
    keys = pairs_in_any_order (λ (x y : Entity). key_of model x ≢ key_of model y) (λ x y apart alike. apart (sym alike)) (entities_in one s) (entities_in two s) (same.entities s) legal.keys;
  }

  -- an entity stands at an end still
  entity_at : (end : End) (key : List Value) → HasEntityAt model one end key → HasEntityAt model two end key
  entity_at end key = any_in_any_order (λ (entity : Entity). IsA model entity.ty end.ty × (key_of model entity ≡ key)) (entities_in one end.set) (entities_in two end.set) (same.entities end.set)

  -- each entity at an end has as many partners
  partners : (a : AssocId) (end : End) (mult : Mult) (key_at : Link → List Value)
      → All (λ (entity : Entity). IsA model entity.ty end.ty → HasCount mult (λ link. key_at link ≡ key_of model entity) (links_in one a)) (entities_in one end.set)
      → All (λ (entity : Entity). IsA model entity.ty end.ty → HasCount mult (λ link. key_at link ≡ key_of model entity) (links_in two a)) (entities_in two end.set)
  partners a end mult key_at = all_in_any_order
      (λ (entity : Entity). IsA model entity.ty end.ty → HasCount mult (λ link. key_at link ≡ key_of model entity) (links_in one a))
      (λ (entity : Entity). IsA model entity.ty end.ty → HasCount mult (λ link. key_at link ≡ key_of model entity) (links_in two a))
      (λ entity count typed. count_in_any_order mult (λ link. key_at link ≡ key_of model entity) (links_in one a) (links_in two a) (same.links a) (count typed))
      (entities_in one end.set) (entities_in two end.set) (same.entities end.set)

  -- an association set keeps its rules
  legal_links : (a : AssocId) (assoc : Assoc) → AreLegalLinks model one assoc (links_in one a) → AreLegalLinks model two assoc (links_in two a)
  legal_links a assoc legal = record {
    ends = all_in_any_order
        (λ (link : Link). HasEntityAt model one assoc.first link.first × HasEntityAt model one assoc.second link.second)
        (λ (link : Link). HasEntityAt model two assoc.first link.first × HasEntityAt model two assoc.second link.second)
        (λ link stand. (entity_at assoc.first link.first stand.0, entity_at assoc.second link.second stand.1))
        (links_in one a) (links_in two a) (same.links a) legal.ends;
    once = pairs_in_any_order (λ (link other : Link). link ≢ other) (λ link other apart alike. apart (sym alike)) (links_in one a) (links_in two a) (same.links a) legal.once;
    first_partners = partners a assoc.first assoc.second.mult (λ link. link.first) legal.first_partners;
    second_partners = partners a assoc.second assoc.first.mult (λ link. link.second) legal.second_partners;
  }

  -- dependents have their principals still
  principals : (assoc : Assoc) (constraint : Constraint) → HavePrincipals model one assoc constraint → HavePrincipals model two assoc constraint
  principals assoc constraint = all_in_any_order
      (λ (entity : Entity). IsA model entity.ty (dependent_end assoc constraint).ty → All (λ value. value ≢ Null) (values_of model entity constraint.dependent)
      → HasPrincipal model one assoc constraint (values_of model entity constraint.dependent))
      (λ (entity : Entity). IsA model entity.ty (dependent_end assoc constraint).ty → All (λ value. value ≢ Null) (values_of model entity constraint.dependent)
      → HasPrincipal model two assoc constraint (values_of model entity constraint.dependent))
      (λ entity stands typed filled. any_in_any_order (λ (other : Entity). values_of model other constraint.principal ≡ values_of model entity constraint.dependent)
      (entities_in one (principal_end assoc constraint).set) (entities_in two (principal_end assoc constraint).set) (same.entities (principal_end assoc constraint).set)
      (stands typed filled))
      (entities_in one (dependent_end assoc constraint).set) (entities_in two (dependent_end assoc constraint).set) (same.entities (dependent_end assoc constraint).set)

  pub as_legal : IsState model two → IsLegal model one → IsLegal model two
  as_legal shape legal = record {
    shape = shape;
    sets = λ s set here. legal_set s set (legal.sets s set here);
    links = λ a assoc here independent. legal_links a assoc (legal.links a assoc here independent);
    principals = λ a assoc constraint here constrained. principals assoc constraint (legal.principals a assoc constraint here constrained);
  }
