-- Who refers to an entity of a region: an entity that does is led to by principals that the entity asks for, by a part of its key and a nullable property.
use Rattle.std.proofs.Common.{◌≡◌, ◌≢◌, ◌⊎◌, ⊎_elim, inl, inr, ℕ, ◌<◌, List, [], slice_get, All, Contains, Option, Some, None, Bool, true, false, refl, sym, ap, subst, ◌∙◌, arith}
use Rattle.std.specs.Option.{option_map_or}
use Rattle.std.proofs.lemmas.List.Elements.{All-contains}
use Rattle.emc_base.proofs.FoundItems.{some_member}
use Rattle.emc_base.proofs.Joined.{in_flat_map}
use Rattle.emc_base.proofs.Lists.{all_from_members, at_once}
use Rattle.emc_base.proofs.Mapped.{contains_map}
use Rattle.round_trip.specs.Words.{SetId, PropId, Value, Null, EntityModel, EntitySet, Prop, Assoc, Constraint, Entity, State, At, dependent_end, principal_end, key_of, key_props, props_of}
use Rattle.round_trip.specs.soundness.Lookups.{IsNeeded, set_key}
use Rattle.round_trip.specs.soundness.models.Constraints.{DependsByKey, HasArrow, HasMatchedLists, Leads, arrow}
use Rattle.round_trip.specs.soundness.mappings.Joined.{IsDependent}
use Rattle.schema_laws.specs.short_values.Fresh.{partner_key}
use Rattle.schema_laws.specs.short_values.Places.{is_among, place_in}
use Rattle.schema_laws.proofs.sound_demand.Keys.{inherits_keys}
use Rattle.schema_laws.proofs.sound_types.Dependent.{dependent_kind}
use Rattle.schema_laws.proofs.sound_types.Inherited.{inherits_prop}
use Rattle.schema_laws.proofs.short_values.Places.{Decides-among}
use Rattle.schema_laws.proofs.state_demand.lists.Lists.{any_or_none}
use Rattle.schema_laws.proofs.state_demand.writings.Decisions.{so_or_not}
use Rattle.regions.specs.declared.region.Region.{Region}
use Rattle.regions.specs.Basis.{Basis, Host, partner_end}
use Rattle.regions.specs.Patterns.{Valuation}
use Rattle.region_states.specs.Entities.{focus_entity}
use Rattle.region_states.proofs.Entities.{has_value}
use Rattle.population.specs.Given.{HasNumbers}
use Rattle.population.specs.Numbered.{number_count, numbered_key}
use Rattle.population.specs.Plain.{plain}
use Rattle.population.specs.Principals.{AsksFor, principal_by, principal_key, principals}
use Rattle.population.specs.declared.placed.PlacedKey.{PlacedKey}
use Rattle.population.specs.Support.{steps, support}
use Rattle.population.specs.Supported.{stands_in}
use Rattle.population.specs.declared.placed.Placed.{Placed}
use Rattle.population.proofs.supporting.Arrows.{leads_then, step_arrow}
use Rattle.population.proofs.principals.Asked.{asked_of, of_asked}
use Rattle.population.proofs.supporting.Ends.{given_from}
use Rattle.population.proofs.supporting.Entities.{Stands, entities_are, of_given, of_key, of_number, set_there, stands_cases}
use Rattle.population.proofs.principals.Matched.{principal_has, sound_constraint}
use Rattle.population.proofs.plain.Numbered.{some_part}
use Rattle.population.proofs.principals.Principals.{is_dependent_by, principal_key_is}
use Rattle.population.proofs.supporting.Support.{key_in, support_all}
use Rattle.host_states.specs.BaseStates.{HasNullable, IsNullable, IsLed, IsOuterKey, IsReferred, RefersBack, begins, goes}
use Rattle.host_states.specs.FocusStates.{given_by, links_by, partner_of, state_by, told_key, wanted_by}
use Rattle.host_states.proofs.bases.Clear.{IsClear, IsFree, asked_clear, made_clear, number_clear, plain_clear, step_clear}
use Rattle.host_states.proofs.focus.Focus.{IsGiven, IsMade, a_partner, focus_key_is, given_cases, in_set, index_is, numbers, region_key, region_set, the_focus, told_is}
use Rattle.host_states.proofs.focus.HostEnds.{IsLinkedHost, far_sound}

-- the entity's key has no value of the row of numbers, and no other dependent property has a value of its key
pub record HasFreeValues (basis : Basis) (outer : ℕ) (region : Region) (values : Valuation) : Type 0 where
  pub outer_key : IsOuterKey outer (key_of basis.schema.model (focus_entity basis region values))
  pub own : (d : PropId) → IsDependent basis.schema.model d → Contains (props_of basis.schema.model region.ty) d → ¬ Contains (key_props basis.schema.model region.ty) d
      → values.prop d ≢ Null → IsFree (key_of basis.schema.model (focus_entity basis region values)) (values.prop d)

-- a property may be null, or not
pub nullable_or_not : (model : EntityModel) (p : PropId) → IsNullable model p ⊎ ¬ IsNullable model p
nullable_or_not model p = by (slice_get model.props p.index) refl
  where
    flag : (declared : Prop) → At model.props p.index declared → (nullable : Bool) → declared.nullable ≡ nullable → IsNullable model p ⊎ ¬ IsNullable model p
    flag declared here true is = inl (declared, here, is)
    flag declared here false is = inr (λ other.
        let same : other.0 ≡ declared = at_once model.props p.index other.0 declared other.1 here in
        let never : true ≡ false = sym other.2 ∙ ap (λ (one : Prop). one.nullable) same ∙ is in cc)

    by : (found : Option Prop) → slice_get model.props p.index ≡ found → IsNullable model p ⊎ ¬ IsNullable model p
    by None none = inr (λ other. let never : None ≡ Some other.0 = sym none ∙ other.1 in cc)
    by (Some declared) here = flag declared here declared.nullable refl

module _ (basis : Basis) (outer : ℕ) (s : SetId) (region : Region) (values : Valuation) (hosts : List Host)
    (made : IsMade basis outer s region values hosts (wanted_by basis outer (given_by basis outer hosts region values))) (free : HasFreeValues basis outer region values) where
  abbrev pub given : List Placed
  given = given_by basis outer hosts region values

  abbrev pub wanted : List PlacedKey
  wanted = wanted_by basis outer given

  abbrev pub keys : List PlacedKey
  keys = support basis.schema.model outer given wanted

  abbrev pub state : State
  state = state_by basis outer hosts wanted region values

  abbrev pub entity : Entity
  entity = focus_entity basis region values

  abbrev pub key : List Value
  key = key_of basis.schema.model entity

  abbrev pub own_key : PlacedKey
  own_key = record { set = s; key = key }

  has : HasNumbers basis.schema.model outer
  has = numbers basis outer s region made.of

  -- a clear key isn't the entity's
  pub never_clear : IsClear key key → ⊥
  never_clear clear =
      let set = in_set basis outer s region made.of in
      let part = some_part basis.schema.model made.of.is.sound.model s set.0 set.1 in
      let among : Contains key (values.prop part.0) =
      subst (λ list. Contains list (values.prop part.0)) (sym (focus_key_is basis outer s region made.of values made.admissible)) (contains_map values.prop (set_key basis.schema.model s) part.0 part.1) in
      clear (values.prop part.0) among among

  -- a partner's key is clear
  pub partner_clear : (host : Host) (assoc : Assoc) → IsLinkedHost basis s region host assoc → IsClear key (told_key basis values host assoc)
  partner_clear host assoc by =
      let far = far_sound basis made.of.is s region made.of.listed host assoc by in
      subst (IsClear key) (sym (told_is basis outer s region made.of values made.admissible host assoc by))
      (made_clear basis.schema.model outer has key free.outer_key (partner_end host.first_hosts assoc).set far.under.0 far.under.1
      (λ p. partner_key host.assoc.index (place_in p (set_key basis.schema.model (partner_end host.first_hosts assoc).set)))
      (λ p part. (let bounds = index_is basis outer s region made.of values made.admissible host assoc by p part in let below = bounds.1 in omega (arith, below))))

  -- and so is each key that it asks for
  pub partner_asks : (host : Host) (assoc : Assoc) → IsLinkedHost basis s region host assoc → (to : PlacedKey)
      → AsksFor basis.schema.model (partner_end host.first_hosts assoc).set (partner_of basis outer values host assoc).entity to → IsClear key to.key
  partner_asks host assoc by to asks =
      plain_clear basis.schema.model outer has key free.outer_key (partner_end host.first_hosts assoc).set (partner_end host.first_hosts assoc).ty 0 (omega arith)
      (told_key basis values host assoc) (partner_clear host assoc by) to asks

  -- a given entity is this one, or a partner
  pub cases : (placed : Placed) → Contains given placed → IsGiven basis outer s region made.of values made.admissible hosts made.each made.order placed
  cases = given_cases basis outer s region made.of values made.admissible hosts made.each made.order

  -- what the entity asks for has a clear key, or an arrow leads there, or it's asked for by a part of the key and a nullable property
  module _ (to : PlacedKey) (asks : AsksFor basis.schema.model s entity to) where
    abbrev constraint : Constraint
    constraint = asks.constraint

    abbrev parts : List PropId
    parts = key_props basis.schema.model (dependent_end asks.assoc constraint).ty

    lists : HasMatchedLists basis.schema.model asks.assoc constraint
    lists = (sound_constraint basis.schema.model made.of.is.sound.model asks.assoc constraint asks.is_assoc asks.constrained).lists

    keys_are : key_props basis.schema.model region.ty ≡ parts
    keys_are = (inherits_keys basis.schema.model made.of.is.sound.model).same region.ty (dependent_end asks.assoc constraint).ty asks.covers

    dependent_by : (d : PropId) → Contains constraint.dependent d → IsDependent basis.schema.model d
    dependent_by d among = is_dependent_by basis.schema.model made.of.is.sound.model asks.assoc constraint asks.is_assoc asks.constrained d among

    without_parts : ((d : PropId) → Contains constraint.dependent d → ¬ Contains parts d) → IsClear key to.key
    without_parts none = asked_clear basis.schema.model outer has key free.outer_key s entity to asks (λ d among there.
        let of_type : Contains (props_of basis.schema.model region.ty) d =
        inherits_prop basis.schema.model made.of.is.sound.model d region.ty (dependent_end asks.assoc constraint).ty asks.covers
        (All-contains (Contains (props_of basis.schema.model (dependent_end asks.assoc constraint).ty)) constraint.dependent d lists.dependent among) in
        let is = has_value basis region values d of_type in
        subst (IsFree key) (sym is)
        (free.own d (dependent_by d among) of_type (λ part. none d among (subst (λ props. Contains props d) keys_are part)) (λ null. there (is ∙ null))))

    needed : ((d : PropId) → Contains constraint.dependent d → ¬ IsNullable basis.schema.model d)
        → All (IsNeeded basis.schema.model) constraint.dependent
    needed none = all_from_members (IsNeeded basis.schema.model) constraint.dependent (λ d among.
        let declared = dependent_kind basis.schema.model made.of.is.sound.model d (dependent_by d among) in
        by d among declared.0 declared.1 declared.0.nullable refl)
      where
        by : (d : PropId) → Contains constraint.dependent d → (declared : Prop) → At basis.schema.model.props d.index declared → (nullable : Bool) → declared.nullable ≡ nullable
            → IsNeeded basis.schema.model d
        by d among declared here true is = absurd (none d among (declared, here, is))
        by d among declared here false is = (declared, here, is)

    pub asked_ways : IsClear key to.key ⊎ (HasArrow basis.schema.model s to.set ⊎ (DependsByKey basis.schema.model asks.assoc constraint × HasNullable basis.schema.model constraint.dependent))
    asked_ways = ⊎_elim
        (λ (some : (d : PropId) × Contains constraint.dependent d × Contains parts d). inr (
        let by_key : DependsByKey basis.schema.model asks.assoc constraint = some_member (Contains parts) constraint.dependent some.0 some.1 some.2 in
        ⊎_elim
        (λ (one : (d : PropId) × Contains constraint.dependent d × IsNullable basis.schema.model d).
        inr (by_key, some_member (IsNullable basis.schema.model) constraint.dependent one.0 one.1 one.2))
        (λ (none : (d : PropId) → Contains constraint.dependent d → ¬ IsNullable basis.schema.model d).
        inl (record {
          assoc = asks.assoc;
          constraint = constraint;
          is_assoc = asks.is_assoc;
          constrained = asks.constrained;
          by_key = by_key;
          needed = needed none;
          from_is = asks.at_end;
          to_is = sym (ap (λ (one : PlacedKey). one.set) asks.is);
        }))
        (any_or_none (IsNullable basis.schema.model) (nullable_or_not basis.schema.model) constraint.dependent)))
        (λ (none : (d : PropId) → Contains constraint.dependent d → ¬ Contains parts d). inl (without_parts none))
        (any_or_none (Contains parts) (λ d. so_or_not (is_among d parts) (Decides-among parts d)) constraint.dependent)

  -- the entity asks for a key by a part of its key and a nullable property, and from there principals lead to this one
  pub record IsLedTo (to : PlacedKey) : Type 0 where
    pub asked : PlacedKey
    pub asks : AsksFor basis.schema.model s entity asked
    pub by_key : DependsByKey basis.schema.model asks.assoc asks.constraint
    pub nullable : HasNullable basis.schema.model asks.constraint.dependent
    pub led : IsLed basis.schema.model outer (principal_by basis.schema.model asks.assoc asks.constraint entity) to

  -- the key is clear, or arrows lead to its set, or it is led to in this way
  abbrev pub IsBeyond : PlacedKey → Type 0
  IsBeyond to = IsClear key to.key ⊎ (Leads basis.schema.model s to.set ⊎ IsLedTo to)

  principal_beyond : (to : PlacedKey) → AsksFor basis.schema.model s entity to → IsBeyond to
  principal_beyond to asks = ⊎_elim
      (λ (clear : IsClear key to.key). inl clear)
      (λ (more : HasArrow basis.schema.model s to.set ⊎ (DependsByKey basis.schema.model asks.assoc asks.constraint × HasNullable basis.schema.model asks.constraint.dependent)). ⊎_elim
      (λ (by : HasArrow basis.schema.model s to.set). inr (inl (arrow s to.set by)))
      (λ (by : DependsByKey basis.schema.model asks.assoc asks.constraint × HasNullable basis.schema.model asks.constraint.dependent).
      let from : PlacedKey = principal_by basis.schema.model asks.assoc asks.constraint entity in
      inr (inr (record { asked = to; asks = asks; by_key = by.0; nullable = by.1; led = subst (IsLed basis.schema.model outer from) (sym asks.is) begins })))
      more)
      (asked_ways to asks)

  -- steps lead on
  step_beyond : (from to : PlacedKey) → IsBeyond from → Contains (steps basis.schema.model outer from) to
      → ((number : ℕ) → number < number_count basis.schema.model → to.key ≢ numbered_key basis.schema.model outer to.set number) → IsBeyond to
  step_beyond from to beyond has_step no_number = ⊎_elim
      (λ (clear : IsClear key from.key). inl (step_clear basis.schema.model outer has key free.outer_key from to clear has_step))
      (λ (more : Leads basis.schema.model s from.set ⊎ IsLedTo from). ⊎_elim
      (λ (leads : Leads basis.schema.model s from.set).
      inr (inl (leads_then basis.schema.model s from.set to.set leads (step_arrow basis.schema.model outer has from to has_step no_number))))
      (λ (by : IsLedTo from).
      inr (inr (record { asked = by.asked; asks = by.asks; by_key = by.by_key; nullable = by.nullable; led = goes from to by.led has_step })))
      more)
      beyond

  given_beyond : (placed : Placed) → IsGiven basis outer s region made.of values made.admissible hosts made.each made.order placed → (to : PlacedKey)
      → AsksFor basis.schema.model placed.set placed.entity to → IsBeyond to
  given_beyond _ the_focus to asks = principal_beyond to (subst (λ u. AsksFor basis.schema.model u entity to) (region_set basis outer s region made.of) asks)
  given_beyond _ (a_partner host assoc there by) to asks = inl (partner_asks host assoc by to asks)

  wanted_beyond : (to : PlacedKey) → Contains wanted to → IsBeyond to
  wanted_beyond to there =
      let found = in_flat_map (λ (placed : Placed). principals basis.schema.model placed.set placed.entity) given to there in
      given_beyond found.0 (cases found.0 found.1) to (asked_of basis.schema.model made.of.is.sound.model found.0.set found.0.entity to found.2)

  keys_beyond : (to : PlacedKey) → Contains keys to → IsBeyond to
  keys_beyond = support_all basis.schema.model outer given IsBeyond
      (λ from to beyond has_step not_taken. step_beyond from to beyond has_step (λ number below equal. not_taken (inl (number, below, equal)))) wanted
      (λ to there not_taken. wanted_beyond to there)

  -- the entity's own key is no number's
  own_no_number : (number : ℕ) → number < number_count basis.schema.model → key ≢ numbered_key basis.schema.model outer s number
  own_no_number number below equal =
      let set = in_set basis outer s region made.of in
      never_clear (subst (IsClear key) (sym equal) (number_clear basis.schema.model outer has key free.outer_key s set.0 set.1 number below))

  -- where it is reached, it is led to
  beyond_back : IsBeyond own_key → RefersBack basis.schema.model outer s entity
  beyond_back beyond = ⊎_elim
      (λ (clear : IsClear key key). absurd (never_clear clear))
      (λ (more : Leads basis.schema.model s s ⊎ IsLedTo own_key). ⊎_elim
      (λ (leads : Leads basis.schema.model s s). absurd (made.of.is.sound.model.arrows s leads))
      (λ (by : IsLedTo own_key). record {
        assoc = by.asks.assoc;
        constraint = by.asks.constraint;
        is_assoc = by.asks.is_assoc;
        constrained = by.asks.constrained;
        at_end = by.asks.at_end;
        covers = by.asks.covers;
        there = by.asks.there;
        by_key = by.by_key;
        nullable = by.nullable;
        back = by.led;
      })
      more)
      beyond

  -- an entity of the state that asks for it
  asked_back : (u : SetId) (set : EntitySet) (here : At basis.schema.model.sets u.index set) (other : Entity) → Stands basis.schema.model outer given keys u set here other
      → AsksFor basis.schema.model u other own_key → RefersBack basis.schema.model outer s entity
  asked_back u set here _ (of_number number below) asks = absurd (never_clear
      (plain_clear basis.schema.model outer has key free.outer_key u _ number below (numbered_key basis.schema.model outer u number)
      (number_clear basis.schema.model outer has key free.outer_key u set here number below) own_key asks))
  asked_back u set here other (of_given _ there) asks =
      let found = given_from given u other there in
      let Asks : SetId → Entity → Type 0 = λ v e. AsksFor basis.schema.model v e own_key in
      beyond_back (given_beyond found.0 (cases found.0 found.1) own_key (subst (λ e. Asks found.0.set e) (sym found.3) (subst (λ v. Asks v other) (sym found.2) asks)))
  asked_back u set here _ (of_key k there) asks =
      let from : PlacedKey = record { set = u; key = k } in
      let has_step : Contains (steps basis.schema.model outer from) own_key =
      subst (λ found. Contains (option_map_or (λ (one : EntitySet). principals basis.schema.model u (plain basis.schema.model outer 0 one.element k)) found []) own_key) (sym here)
      (of_asked basis.schema.model made.of.is.sound.model u (plain basis.schema.model outer 0 set.element k) own_key asks) in
      beyond_back (step_beyond from own_key (keys_beyond from (key_in keys u k there)) has_step own_no_number)

  -- so whoever refers to the entity is led to by it
  pub referred_back : IsReferred basis.schema.model state s entity → RefersBack basis.schema.model outer s entity
  referred_back by =
      let u : SetId = (dependent_end by.assoc by.constraint).set in
      let stands : Contains (stands_in basis.schema.model outer given keys u) by.dependent =
      subst (λ list. Contains list by.dependent) (entities_are basis.schema.model outer given keys (links_by basis region values hosts) u) by.stands in
      let in_u = set_there basis.schema.model outer given keys u by.dependent stands in
      asked_back u in_u.0 in_u.1 by.dependent (stands_cases basis.schema.model outer given keys u in_u.0 in_u.1 by.dependent stands) (asks by)
    where
      keys_one : (one : IsReferred basis.schema.model state s entity) → key_props basis.schema.model region.ty ≡ key_props basis.schema.model (principal_end one.assoc one.constraint).ty
      keys_one one =
          region_key basis outer s region made.of ∙ ap (set_key basis.schema.model) (sym one.to_set)
          ∙ principal_key_is basis.schema.model made.of.is.sound.model one.assoc one.constraint one.is_assoc one.constrained

      asks : (one : IsReferred basis.schema.model state s entity) → AsksFor basis.schema.model (dependent_end one.assoc one.constraint).set one.dependent own_key
      asks one =
          let is_key : key ≡ (principal_by basis.schema.model one.assoc one.constraint one.dependent).key =
          principal_has basis.schema.model made.of.is.sound.model one.assoc one.constraint one.is_assoc one.constrained entity (keys_one one)
          ∙ ap (principal_key basis.schema.model one.assoc one.constraint) (sym one.refers) in
          record {
            assoc = one.assoc;
            constraint = one.constraint;
            is_assoc = one.is_assoc;
            constrained = one.constrained;
            at_end = refl;
            covers = one.covers;
            there = one.there;
            is = λ i. record { set = sym one.to_set i; key = is_key i };
          }
