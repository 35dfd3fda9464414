-- Where the principals that an entity asks for lead back to its key, something refers to it.
use Rattle.std.proofs.Common.{◌≡◌, ◌⊎◌, ⊎_elim, inl, inr, ℕ, ◌<◌, List, flat_map, Contains, refl, sym, ap, subst, ◌∙◌}
use Rattle.std.proofs.lemmas.List.{length-map}
use Rattle.emc_base.proofs.FoundItems.{contains_flat_map}
use Rattle.emc_base.proofs.Members.{contains_head}
use Rattle.round_trip.specs.Words.{SetId, Value, Entity, State, At, principal_end, entities_in, key_of, key_props, value_of, values_of}
use Rattle.round_trip.specs.soundness.Lookups.{set_key}
use Rattle.schema_laws.proofs.state_demand.writings.Decisions.{so_or_not}
use Rattle.regions.specs.declared.region.Region.{Region}
use Rattle.regions.specs.Basis.{Basis, Host}
use Rattle.regions.specs.Patterns.{Valuation}
use Rattle.region_states.specs.Entities.{focus_entity}
use Rattle.population.specs.Given.{HasNumbers}
use Rattle.population.specs.Numbered.{number_count, numbered_key}
use Rattle.population.specs.Plain.{plain}
use Rattle.population.specs.Principals.{AsksFor, principal_by, principals}
use Rattle.population.specs.declared.placed.PlacedKey.{PlacedKey}
use Rattle.population.specs.Support.{IsTaken, is_taken, steps, support}
use Rattle.population.specs.Supported.{given_in}
use Rattle.population.specs.declared.placed.Placed.{Placed}
use Rattle.population.proofs.supporting.Arrows.{step_from}
use Rattle.population.proofs.principals.Asked.{of_asked}
use Rattle.population.proofs.supporting.Ends.{given_from}
use Rattle.population.proofs.supporting.Entities.{entities_are, key_stands}
use Rattle.population.proofs.principals.Matched.{as_many, principal_values, sound_constraint}
use Rattle.population.proofs.principals.Principals.{principal_key_is}
use Rattle.population.proofs.supporting.Support.{Decides-taken, in_keys, support_closed, support_free, support_wanted}
use Rattle.host_states.specs.BaseStates.{IsLed, IsReferred, RefersBack, begins, goes}
use Rattle.host_states.specs.FocusStates.{by_assoc, focus, given_by, links_by, partner_of, state_by, wanted_by}
use Rattle.host_states.proofs.bases.Clear.{IsClear, number_clear, step_clear}
use Rattle.host_states.proofs.focus.Focus.{IsGiven, IsMade, a_partner, numbers, partner_has, region_key, region_set, the_focus}
use Rattle.host_states.proofs.focus.FocusLinks.{focus_given, focus_stands}
use Rattle.host_states.proofs.bases.Refers.{HasFreeValues, cases, never_clear, partner_clear}

module _ (basis : Basis) (outer : ℕ) (s : SetId) (region : Region) (values : Valuation) (hosts : List Host)
    (made : IsMade basis outer s region values hosts (wanted_by basis outer (given_by basis outer hosts region values))) (free : HasFreeValues basis outer region values) where
  abbrev given : List Placed
  given = given_by basis outer hosts region values

  abbrev wanted : List PlacedKey
  wanted = wanted_by basis outer given

  abbrev keys : List PlacedKey
  keys = support basis.schema.model outer given wanted

  abbrev state : State
  state = state_by basis outer hosts wanted region values

  abbrev entity : Entity
  entity = focus_entity basis region values

  abbrev key : List Value
  key = key_of basis.schema.model entity

  abbrev own_key : PlacedKey
  own_key = record { set = s; key = key }

  has : HasNumbers basis.schema.model outer
  has = numbers basis outer s region made.of

  -- something refers to the entity
  abbrev Referred : Type 0
  Referred = IsReferred basis.schema.model state s entity

  -- an entity of the state that asks for its key does
  asked_refers : (u : SetId) (other : Entity) → Contains (entities_in state u) other → AsksFor basis.schema.model u other own_key → Referred
  asked_refers u other stands asks =
      let to_set : (principal_end asks.assoc asks.constraint).set ≡ s = sym (ap (λ (one : PlacedKey). one.set) asks.is) in
      let keys_one : key_props basis.schema.model region.ty ≡ key_props basis.schema.model (principal_end asks.assoc asks.constraint).ty =
      region_key basis outer s region made.of ∙ ap (set_key basis.schema.model) (sym to_set)
      ∙ principal_key_is basis.schema.model made.of.is.sound.model asks.assoc asks.constraint asks.is_assoc asks.constrained in
      record {
        assoc = asks.assoc;
        constraint = asks.constraint;
        is_assoc = asks.is_assoc;
        constrained = asks.constrained;
        to_set = to_set;
        dependent = other;
        stands = subst (λ v. Contains (entities_in state v) other) (sym asks.at_end) stands;
        covers = asks.covers;
        there = asks.there;
        refers = sym (principal_values basis.schema.model made.of.is.sound.model asks.assoc asks.constraint asks.is_assoc asks.constrained entity keys_one
            (values_of basis.schema.model other asks.constraint.dependent)
            (length-map asks.constraint.dependent (value_of basis.schema.model other)
            ∙ as_many basis.schema.model made.of.is.sound.model asks.assoc asks.constraint asks.is_assoc asks.constrained)
            (ap (λ (one : PlacedKey). one.key) asks.is));
      }

  -- the key is in the support, or clear, or something refers to the entity
  abbrev IsFound : PlacedKey → Type 0
  IsFound to = Contains keys to ⊎ (IsClear key to.key ⊎ Referred)

  -- what an entity of the state asks for is found
  module _ (u : SetId) (other : Entity) (stands : Contains (entities_in state u) other) where
    found_given : (to : PlacedKey) → AsksFor basis.schema.model u other to → (placed : Placed)
        → IsGiven basis outer s region made.of values made.admissible hosts made.each made.order placed → placed.set ≡ to.set → key_of basis.schema.model placed.entity ≡ to.key → IsFound to
    found_given to asks _ the_focus sets equal =
        let is : to ≡ own_key = λ i. record { set = (sym sets ∙ region_set basis outer s region made.of) i; key = sym equal i } in
        inr (inr (asked_refers u other stands (subst (AsksFor basis.schema.model u other) is asks)))
    found_given to asks _ (a_partner host assoc there by) sets equal =
        inr (inl (subst (IsClear key) (sym (partner_has basis outer s region made.of values made.admissible host assoc by) ∙ equal)
        (partner_clear basis outer s region values hosts made free host assoc by)))

    found_asked : (to : PlacedKey) → AsksFor basis.schema.model u other to → (¬ IsTaken basis.schema.model outer given to → Contains keys to) → IsFound to
    found_asked to asks in_support = ⊎_elim
        (λ (taken : IsTaken basis.schema.model outer given to). ⊎_elim
        (λ (one : (number : ℕ) × (number < number_count basis.schema.model) × (to.key ≡ numbered_key basis.schema.model outer to.set number)).
        let element = (sound_constraint basis.schema.model made.of.is.sound.model asks.assoc asks.constraint asks.is_assoc asks.constrained).lists.element in
        let InSet : PlacedKey → Type 0 = λ placed. At basis.schema.model.sets placed.set.index element.0 in
        let here : At basis.schema.model.sets to.set.index element.0 = subst InSet (sym asks.is) element.1 in
        inr (inl (subst (IsClear key) (sym one.2) (number_clear basis.schema.model outer has key free.outer_key to.set element.0 here one.0 one.1))))
        (λ (one : (x : Entity) × Contains (given_in given to.set) x × (key_of basis.schema.model x ≡ to.key)).
        let found = given_from given to.set one.0 one.1 in
        found_given to asks found.0 (cases basis outer s region values hosts made free found.0 found.1) found.2 (ap (key_of basis.schema.model) found.3 ∙ one.2))
        taken)
        (λ (not_taken : ¬ IsTaken basis.schema.model outer given to). inl (in_support not_taken))
        (so_or_not (is_taken basis.schema.model outer given to) (Decides-taken basis.schema.model outer given to))

  -- what the entity itself asks for, and what steps find
  first_found : (to : PlacedKey) → AsksFor basis.schema.model s entity to → IsFound to
  first_found to asks =
      found_asked s entity (focus_stands basis outer s region values hosts wanted made) to asks (support_wanted basis.schema.model outer given has wanted to
      (contains_flat_map (λ (placed : Placed). principals basis.schema.model placed.set placed.entity) given (focus basis region values) to
      (contains_head (focus basis region values) (flat_map (by_assoc basis (partner_of basis outer values)) hosts))
      (subst (λ u. Contains (principals basis.schema.model u entity) to) (sym (region_set basis outer s region made.of)) (of_asked basis.schema.model made.of.is.sound.model s entity to asks))))

  step_found : (from to : PlacedKey) → IsFound from → Contains (steps basis.schema.model outer from) to → IsFound to
  step_found from to found has_step = ⊎_elim
      (λ (among : Contains keys from).
      let step = step_from basis.schema.model outer has from to has_step in
      let other : Entity = plain basis.schema.model outer 0 step.0.element from.key in
      let stands : Contains (entities_in state from.set) other =
      subst (λ list. Contains list other) (sym (entities_are basis.schema.model outer given keys (links_by basis region values hosts) from.set))
      (key_stands basis.schema.model outer given keys from.set step.0 step.1 from.key (in_keys keys from among)) in
      found_asked from.set other stands to step.2 (support_closed basis.schema.model outer given has wanted from to among has_step))
      (λ (more : IsClear key from.key ⊎ Referred). ⊎_elim
      (λ (clear : IsClear key from.key). inr (inl (step_clear basis.schema.model outer has key free.outer_key from to clear has_step)))
      (λ (by : Referred). inr (inr by))
      more)
      found

  led_found : (from to : PlacedKey) → IsFound from → IsLed basis.schema.model outer from to → IsFound to
  led_found from _ found begins = found
  led_found from _ found (goes one to before has_step) = step_found one to (led_found from one found before) has_step

  -- so something refers to it
  pub back_refers : RefersBack basis.schema.model outer s entity → IsReferred basis.schema.model state s entity
  back_refers by =
      let from : PlacedKey = principal_by basis.schema.model by.assoc by.constraint entity in
      let asks : AsksFor basis.schema.model s entity from = record {
        assoc = by.assoc;
        constraint = by.constraint;
        is_assoc = by.is_assoc;
        constrained = by.constrained;
        at_end = by.at_end;
        covers = by.covers;
        there = by.there;
        is = refl;
      } in
      ⊎_elim
      (λ (among : Contains keys own_key).
      absurd (support_free basis.schema.model outer given wanted own_key among (inr (entity, focus_given basis outer s region values hosts wanted made, refl))))
      (λ (more : IsClear key key ⊎ Referred). ⊎_elim
      (λ (clear : IsClear key key). absurd (never_clear basis outer s region values hosts made free clear))
      (λ (referred : Referred). referred)
      more)
      (led_found from own_key (first_found from asks) by.back)
