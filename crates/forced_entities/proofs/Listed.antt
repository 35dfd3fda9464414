-- So many steps find all that is forced: no more are needed than there are sets.
use Rattle.std.proofs.Common.{◌↔◌, ⊎_elim, ℕ, zero, suc, ◌+◌, ◌<◌, ◌≤◌, List, flat_map, length, Contains, sym, ap, subst, arith}
use Rattle.std.proofs.lemmas.List.Elements.{Contains-append_cases, Contains-append_left, Contains-append_right}
use Rattle.std.proofs.lemmas.Option.{slice_get_within}
use Rattle.emc_base.proofs.FoundItems.{contains_flat_map}
use Rattle.emc_base.proofs.Joined.{in_flat_map}
use Rattle.round_trip.specs.Words.{PropId, SetId, EntityModel, dependent_end}
use Rattle.round_trip.specs.soundness.models.Constraints.{HasArrow}
use Rattle.population.specs.Given.{HasNumbers}
use Rattle.population.proofs.supporting.Arrows.{IsReached, reached_few, reached_first, reached_then}
use Rattle.regions.specs.Basis.{Basis}
use Rattle.regions.specs.declared.pattern.Focus.{Focus}
use Rattle.regions.specs.region_laws.IsBasis.{IsBasis}
use Rattle.forced_entities.specs.Forced.{IsForced, LeadsTo, begins, leads}
use Rattle.forced_entities.specs.Listed.{begun, forced_by, led, steps}
use Rattle.forced_entities.specs.declared.member.Forced.{Forced}
use Rattle.forced_entities.proofs.Holds.{arrow_set}
use Rattle.forced_entities.proofs.Leading.{in_begun, in_steps}

module _ (basis : Basis) (is_basis : IsBasis basis) (has : HasNumbers basis.schema.model 0) where
  abbrev model : EntityModel
  model = basis.schema.model

  -- what leads to another entity does so by an arrow
  step_arrow : (from to : Forced) → LeadsTo basis from to → HasArrow model from.set to.set
  step_arrow from to asked = record {
    assoc = asked.assoc;
    constraint = asked.by.constraint;
    is_assoc = asked.is_assoc;
    constrained = asked.by.constrained;
    by_key = asked.by.asks.0;
    needed = asked.by.asks.1;
    from_is = asked.by.at_end;
    to_is = sym (ap (λ (one : Forced). one.set) asked.by.is);
  }

  step_within : (from to : Forced) → LeadsTo basis from to → from.set.index < length model.sets
  step_within from to asked =
      let there = arrow_set basis has.sound asked.assoc asked.by.constraint asked.is_assoc asked.by.constrained in
      let P : SetId → Type 0 = λ u. u.index < length model.sets in
      subst P asked.by.at_end (slice_get_within model.sets (dependent_end asked.assoc asked.by.constraint).set.index there.0 there.1)

  -- what is there stays
  led_holds : (n : ℕ) (items : List Forced) (one : Forced) → Contains items one → Contains (led basis n items) one
  led_holds zero items one has_it = has_it
  led_holds (suc n) items one has_it = Contains-append_left items (led basis n (flat_map (steps basis) items)) one has_it

  -- where so many sets lead to each, and there are no more than these and the steps together, all that is led to is there
  led_closed : (n k : ℕ) (items : List Forced) → ((one : Forced) → Contains items one → IsReached model 0 has k one.set) → length model.sets ≤ n + k
      → (from to : Forced) → Contains (led basis n items) from → LeadsTo basis from to → Contains (led basis n items) to
  led_closed zero k items reached few from to has_it leads_to =
      let more = reached_few model 0 has (suc k) to.set (reached_then model 0 has k from.set to.set (step_within from to leads_to) (step_arrow from to leads_to) (reached from has_it)) in
      absurd (omega (arith, few, more))
  led_closed (suc n) k items reached few from to has_it leads_to =
      let next : List Forced = flat_map (steps basis) items in
      ⊎_elim
      (λ (first : Contains items from).
      Contains-append_right items (led basis n next) to (led_holds n next to (contains_flat_map (steps basis) items from to first ((in_steps basis is_basis from to).1 leads_to))))
      (λ (later : Contains (led basis n next) from).
      Contains-append_right items (led basis n next) to (led_closed n (suc k) next (λ one has_one.
      (let found = in_flat_map (steps basis) items one has_one in
      let asked = (in_steps basis is_basis found.0 one).0 found.2 in
      reached_then model 0 has k found.0.set one.set (step_within found.0 one asked) (step_arrow found.0 one asked) (reached found.0 found.1))) (omega (arith, few)) from to later leads_to))
      (Contains-append_cases items (led basis n next) from has_it)

  -- what holds of the items, and of what is led to from where it holds, holds of all that come
  led_least : (P : Forced → Type 0) → ((from to : Forced) → P from → LeadsTo basis from to → P to) → (n : ℕ) (items : List Forced) → ((one : Forced) → Contains items one → P one)
      → (one : Forced) → Contains (led basis n items) one → P one
  led_least P keeps zero items holds one has_it = holds one has_it
  led_least P keeps (suc n) items holds one has_it =
      let next : List Forced = flat_map (steps basis) items in
      ⊎_elim
      (λ (first : Contains items one). holds one first)
      (λ (later : Contains (led basis n next) one). led_least P keeps n next (λ other has_other.
      (let found = in_flat_map (steps basis) items other has_other in keeps found.0 other (holds found.0 found.1) ((in_steps basis is_basis found.0 other).0 found.2))) one later)
      (Contains-append_cases items (led basis n next) one has_it)

  module _ (of : Focus) (not_null : List PropId) where
    listed_is : (one : Forced) → Contains (forced_by basis of not_null) one → IsForced basis of not_null one
    listed_is = led_least (IsForced basis of not_null) (λ from to forced asked. leads from to forced asked) (length model.sets) (begun basis of not_null)
        (λ one has_one. begins one ((in_begun basis is_basis of not_null one).0 has_one))

    is_listed : (one : Forced) → IsForced basis of not_null one → Contains (forced_by basis of not_null) one
    is_listed one (begins _ is) = led_holds (length model.sets) (begun basis of not_null) one ((in_begun basis is_basis of not_null one).1 is)
    is_listed one (leads from _ forced asked) =
        led_closed (length model.sets) 0 (begun basis of not_null) (λ other has_other. reached_first model 0 has other.set) (omega arith) from one (is_listed from forced) asked

    pub forced_listed : (one : Forced) → Contains (forced_by basis of not_null) one ↔ IsForced basis of not_null one
    forced_listed one = (listed_is one, is_listed one)
