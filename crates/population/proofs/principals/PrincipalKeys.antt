-- An entity at the principal's set has the dependent values in its principal list exactly where its key is the one that they ask for.
use Rattle.std.proofs.Common.{◌≡◌, ◌↔◌, List, map, length, option_map, Contains, Some, sym, ap, ◌∙◌}
use Rattle.std.proofs.lemmas.List.{length-map}
use Rattle.std.proofs.lemmas.List.Elements.{All-contains}
use Rattle.std.proofs.lemmas.Option.{MatchOption-at_some}
use Rattle.round_trip.specs.Words.{PropId, Value, EntityModel, EntitySet, Assoc, Constraint, Entity, State, IsLegal, HasFittingType, entities_in, key_of, key_props, principal_end, value_beside, value_of, values_of}
use Rattle.round_trip.specs.soundness.Kinds.{without_bound}
use Rattle.round_trip.specs.soundness.Lookups.{prop_kind}
use Rattle.round_trip.specs.soundness.models.Constraints.{HasIndependentMults, IsSoundAssoc, IsSoundConstraint}
use Rattle.round_trip.specs.soundness.models.Models.{IsSoundModel}
use Rattle.schema_laws.proofs.sound_demand.Keys.{inherits_keys}
use Rattle.schema_laws.proofs.state_demand.lists.Places.{agree_by_map, map_agree}
use Rattle.schema_laws.proofs.state_demand.owners.Joined.{same_values}
use Rattle.schema_laws.proofs.state_demand.owners.Owners.{beside_map}
use Rattle.population.specs.Principals.{principal_key}

-- a constraint of a sound model is sound
pub sound_constraint : (model : EntityModel) → IsSoundModel model → (assoc : Assoc) (constraint : Constraint) → Contains model.assocs assoc → assoc.constraint ≡ Some constraint
    → IsSoundConstraint model assoc constraint
sound_constraint model sound assoc constraint has constrained =
    MatchOption-at_some (HasIndependentMults assoc) (IsSoundConstraint model assoc) constraint constrained
    (All-contains (IsSoundAssoc model) model.assocs assoc sound.assocs has).kind

-- the two lists of a constraint are equally long
pub same_length : (model : EntityModel) (assoc : Assoc) (constraint : Constraint) → IsSoundConstraint model assoc constraint → length constraint.dependent ≡ length constraint.principal
same_length model assoc constraint sound =
    let kind : PropId → _ = λ prop. option_map without_bound (prop_kind model prop) in
    sym (length-map constraint.dependent kind) ∙ sym (ap length sound.lists.kinds) ∙ length-map constraint.principal kind

module _ (model : EntityModel) (sound : IsSoundModel model) (state : State) (legal : IsLegal model state) (assoc : Assoc) (constraint : Constraint)
    (is : IsSoundConstraint model assoc constraint) (entity : Entity) (stands : Contains (entities_in state (principal_end assoc constraint).set) entity) (values : List Value) where
  abbrev keys : List PropId
  keys = key_props model (principal_end assoc constraint).ty

  -- the entity's key is that of the principal end's type
  element_key : key_props model entity.ty ≡ keys
  element_key =
      let set : EntitySet = is.lists.element.0 in
      let fits : HasFittingType model set entity = All-contains (HasFittingType model set) (entities_in state (principal_end assoc constraint).set) entity
      (legal.sets (principal_end assoc constraint).set set is.lists.element.1).types stands in
      (inherits_keys model sound).same entity.ty set.element fits.under ∙ ap (key_props model) is.lists.element.2

  -- what stands beside a property of the key
  beside : (prop : PropId) → Contains keys prop → value_beside prop constraint.principal (values_of model entity constraint.principal) ≡ value_of model entity prop
  beside prop has = beside_map (value_of model entity) constraint.principal prop (All-contains (Contains constraint.principal) keys prop is.lists.principal.all has)

  pub principal_has_key : values_of model entity constraint.principal ≡ values → key_of model entity ≡ principal_key model assoc constraint values
  principal_has_key same =
      ap (map (value_of model entity)) element_key
      ∙ map_agree (value_of model entity) (λ prop. value_beside prop constraint.principal values) keys
      (λ prop has. sym (beside prop has) ∙ ap (value_beside prop constraint.principal) same)

  pub key_has_values : length values ≡ length constraint.principal → key_of model entity ≡ principal_key model assoc constraint values → values_of model entity constraint.principal ≡ values
  key_has_values count same =
      let given : PropId → Value = λ prop. value_beside prop constraint.principal values in
      let alike : map (value_of model entity) keys ≡ map given keys = sym (ap (map (value_of model entity)) element_key) ∙ same in
      same_values constraint.principal (values_of model entity constraint.principal) values (length-map constraint.principal (value_of model entity)) count is.lists.principal.once
      (λ prop has.
      let keyed : Contains keys prop = All-contains (Contains keys) constraint.principal prop is.lists.principal.only has in
      beside prop keyed ∙ agree_by_map (value_of model entity) given keys alike prop keyed)

  -- the two together
  pub principal_by_key : length values ≡ length constraint.principal
      → (values_of model entity constraint.principal ≡ values) ↔ (key_of model entity ≡ principal_key model assoc constraint values)
  principal_by_key count = (principal_has_key, key_has_values count)
