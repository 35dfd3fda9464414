-- The principals that an entity asks for are those that are computed.
use Rattle.std.proofs.Common.{◌≡◌, ◌≢◌, ◌↔◌, ⊎_elim, ◌==◌, ◌&&◌, List, [], ◌∷◌, All, Contains, not, Decides, Option, Some, None, refl, sym, subst}
use Rattle.std.specs.Option.{option_map_or}
use Rattle.std.proofs.lemmas.Bool.{cond-true, cond_both}
use Rattle.std.proofs.lemmas.Bool.Decides.{Decides-and, Decides-not}
use Rattle.emc_base.proofs.FoundItems.{contains_flat_map}
use Rattle.emc_base.proofs.Joined.{in_flat_map}
use Rattle.emc_base.proofs.Members.{contains_cons_cases, contains_head, contains_nil}
use Rattle.round_trip.specs.Words.{SetId, Value, Null, EntityModel, Assoc, Constraint, Entity, IsA, dependent_end, values_of}
use Rattle.round_trip.specs.soundness.models.Models.{IsSoundModel}
use Rattle.schema_laws.specs.sound_demand.Deriving.{derives}
use Rattle.schema_laws.specs.state_demand.Selecting.{same_value}
use Rattle.schema_laws.proofs.sound_demand.Deriving.{decides_types}
use Rattle.schema_laws.proofs.state_demand.lists.Ids.{Decides-set}
use Rattle.schema_laws.proofs.state_demand.lists.Lists.{Decides-all}
use Rattle.schema_laws.proofs.state_demand.writings.Selecting.{Decides-value}
use Rattle.population.specs.Principals.{AsksFor, PlacedKey, asked_by, is_asked, none_null, principal_by, principals}

pub Decides-none_null : (model : EntityModel) (values : List Value) → Decides (none_null model values) (All (λ value. value ≢ Null) values)
Decides-none_null model values = Decides-all (λ value. not (same_value value Null)) (λ value. value ≢ Null) (λ value. Decides-not (same_value value Null) (Decides-value value Null)) values

module _ (model : EntityModel) (sound : IsSoundModel model) (u : SetId) (entity : Entity) where
  -- the constraint asks a principal of the entity
  abbrev pub IsAsked : Assoc → Constraint → Type 0
  IsAsked assoc constraint = ((dependent_end assoc constraint).set ≡ u) × IsA model entity.ty (dependent_end assoc constraint).ty
      × All (λ value. value ≢ Null) (values_of model entity constraint.dependent)

  pub Decides-asked : (assoc : Assoc) (constraint : Constraint) → Decides (is_asked model u entity assoc constraint) (IsAsked assoc constraint)
  Decides-asked assoc constraint =
      let at_end = (dependent_end assoc constraint).set.index == u.index in
      let covers = derives model entity.ty (dependent_end assoc constraint).ty in
      let there = none_null model (values_of model entity constraint.dependent) in
      let rest = Decides-and covers there ((decides_types model sound).tells entity.ty (dependent_end assoc constraint).ty) (Decides-none_null model (values_of model entity constraint.dependent)) in
      let all = Decides-and at_end (covers && there) (Decides-set (dependent_end assoc constraint).set u) rest in (
        (λ told. let both = all.0 told in (both.0, both.1.0, both.1.1)),
        (λ is. all.1 (is.0, (is.1, is.2))),
      )

  -- by one constraint
  asked_one : (assoc : Assoc) (constraint : Constraint) (to : PlacedKey) → Contains (asked_by model u entity assoc constraint) to
      → IsAsked assoc constraint × (to ≡ principal_by model assoc constraint entity)
  asked_one assoc constraint to =
      let one : List PlacedKey = principal_by model assoc constraint entity ∷ [] in
      cond_both (is_asked model u entity assoc constraint) one [] (λ list. Contains list to → IsAsked assoc constraint × (to ≡ principal_by model assoc constraint entity))
      (λ told has. (
        (Decides-asked assoc constraint).0 told,
        ⊎_elim
            (λ (here : to ≡ principal_by model assoc constraint entity). here)
            (λ (later : Contains [] to). absurd (contains_nil to later))
            (contains_cons_cases (principal_by model assoc constraint entity) [] to has),
      ))
      (λ told has. absurd (contains_nil to has))

  -- the principal by a constraint that asks
  pub one_asked : (assoc : Assoc) (constraint : Constraint) → IsAsked assoc constraint → Contains (asked_by model u entity assoc constraint) (principal_by model assoc constraint entity)
  one_asked assoc constraint is =
      let one : List PlacedKey = principal_by model assoc constraint entity ∷ [] in
      subst (λ list. Contains list (principal_by model assoc constraint entity))
      (sym (cond-true (is_asked model u entity assoc constraint) one [] ((Decides-asked assoc constraint).1 is)))
      (contains_head (principal_by model assoc constraint entity) [])

  abbrev of_assoc : Assoc → List PlacedKey
  of_assoc assoc = option_map_or (asked_by model u entity assoc) assoc.constraint []

  pub asked_of : (to : PlacedKey) → Contains (principals model u entity) to → AsksFor model u entity to
  asked_of to has =
      let found = in_flat_map of_assoc model.assocs to has in
      by found.0 found.1 found.0.constraint refl found.2
    where
      by : (assoc : Assoc) → Contains model.assocs assoc → (constraint : Option Constraint) → assoc.constraint ≡ constraint
          → Contains (option_map_or (asked_by model u entity assoc) constraint []) to → AsksFor model u entity to
      by assoc is_assoc None is in_none = absurd (contains_nil to in_none)
      by assoc is_assoc (Some constraint) is in_some =
          let one = asked_one assoc constraint to in_some in
          record { assoc = assoc; constraint = constraint; is_assoc = is_assoc; constrained = is; at_end = one.0.0; covers = one.0.1; there = one.0.2; is = one.1 }

  -- a constraint that asks gives a principal
  pub is_principal : (assoc : Assoc) (constraint : Constraint) → Contains model.assocs assoc → assoc.constraint ≡ Some constraint → IsAsked assoc constraint
      → Contains (principals model u entity) (principal_by model assoc constraint entity)
  is_principal assoc constraint is_assoc constrained is =
      contains_flat_map of_assoc model.assocs assoc (principal_by model assoc constraint entity) is_assoc
      (subst (λ found. Contains (option_map_or (asked_by model u entity assoc) found []) (principal_by model assoc constraint entity)) (sym constrained) (one_asked assoc constraint is))

  pub of_asked : (to : PlacedKey) → AsksFor model u entity to → Contains (principals model u entity) to
  of_asked to asks =
      subst (Contains (principals model u entity)) (sym asks.is)
      (is_principal asks.assoc asks.constraint asks.is_assoc asks.constrained (asks.at_end, asks.covers, asks.there))

pub principals_are : (model : EntityModel) → IsSoundModel model → (u : SetId) (entity : Entity) (to : PlacedKey) → Contains (principals model u entity) to ↔ AsksFor model u entity to
principals_are model sound u entity to = (asked_of model sound u entity to, of_asked model sound u entity to)
