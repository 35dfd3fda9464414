-- An entity without links, each of whose values but the key is settled, can be left out: what it asks for stands in sets to which arrows lead, and no arrows lead back.
use Rattle.std.proofs.Common.{◌≡◌, ◌≢◌, ◌⊎◌, ⊎_elim, inl, inr, ℕ, ◌<◌, List, [], ◌∷◌, ◌++◌, map, filter, flat_map, length, All, Any, Contains, Option, Some, None, option_map, Bool, false, refl, sym, ap, subst, ◌∙◌, arith}
use Rattle.std.specs.Option.{option_map_or}
use Rattle.std.proofs.lemmas.List.{append-nil}
use Rattle.std.proofs.lemmas.List.Elements.{All-contains}
use Rattle.emc_base.proofs.FoundItems.{some_member}
use Rattle.emc_base.proofs.Joined.{in_flat_map}
use Rattle.emc_base.proofs.Lists.{all_from_members, at_once, only_member}
use Rattle.emc_base.proofs.Mapped.{contains_map}
use Rattle.emc_base.proofs.Members.{contains_cons_cases, contains_head, contains_nil}
use Rattle.round_trip.specs.Words.{SetId, PropId, Value, Null, Kind, EntityModel, EntitySet, Prop, Assoc, Constraint, Entity, Link, State, At, IsA, IsLegal, dependent_end, principal_end, entities_in, key_of, key_props, props_of, value_of, values_of}
use Rattle.round_trip.specs.soundness.Lookups.{IsNeeded}
use Rattle.round_trip.specs.soundness.models.Constraints.{DependsByKey, HasArrow, HasMatchedLists, Leads, arrow}
use Rattle.round_trip.specs.soundness.models.Inheritance.{IsKeyProp}
use Rattle.round_trip.specs.soundness.mappings.Joined.{IsDependent, prop}
use Rattle.condition_logic.specs.declared.atoms.Atom.{Atom}
use Rattle.condition_logic.specs.declared.atoms.Atom.TheVariants as atom
use Rattle.schema_laws.specs.short_values.Places.{is_among}
use Rattle.schema_laws.proofs.sound_demand.Keys.{inherits_keys}
use Rattle.schema_laws.proofs.sound_types.Dependent.{dependent_is}
use Rattle.schema_laws.proofs.sound_types.Inherited.{inherits_prop, key_prop}
use Rattle.schema_laws.proofs.short_values.Places.{Decides-among}
use Rattle.schema_laws.proofs.state_demand.writings.Decisions.{key_or_not, so_or_not}
use Rattle.schema_laws.proofs.state_demand.lists.Ids.{Decides-set}
use Rattle.regions.specs.declared.region.Region.{Region}
use Rattle.regions.specs.declared.pattern.Symbol.TheVariants as symbol
use Rattle.regions.specs.Atoms.{LiesIn, atom_at, atoms_of}
use Rattle.regions.specs.Basis.{Basis, Host}
use Rattle.regions.specs.Patterns.{Valuation}
use Rattle.regions.specs.Symbols.{is_linked}
use Rattle.regions.specs.Settled.{Possible, is_nullable, multi, of_atom, possible, single}
use Rattle.regions.proofs.region_laws.pattern.types.Regions.{lies_in}
use Rattle.region_states.specs.defaults.Admissible.{IsAdmissible}
use Rattle.region_states.specs.Entities.{focus_entity}
use Rattle.host_states.specs.Hosting.{DifferAtMostAt, HasOneEntityPerKey, HaveFewPartners, LeavesFocusOut}
use Rattle.region_states.proofs.Entities.{has_value}
use Rattle.region_states.proofs.defaults.Candidates.{plain_key}
use Rattle.region_states.proofs.defaults.Listed.{IsTold, found_told}
use Rattle.region_states.proofs.defaults.Valued.{atom_tells}
use Rattle.region_states.proofs.defaults.groups.Constants.{dependent_none}
use Rattle.population.specs.Given.{AreGiven, AreKeys, AreLinked, AreWanted, HasShortParts}
use Rattle.population.specs.Numbered.{number_count, numbered_key}
use Rattle.population.specs.Principals.{AsksFor, principals}
use Rattle.population.specs.declared.placed.PlacedKey.{PlacedKey}
use Rattle.population.specs.Support.{IsTaken, steps, support}
use Rattle.population.specs.Supported.{given_in, keys_in, links_of, stands_in, supported}
use Rattle.population.specs.declared.placed.Placed.{Placed}
use Rattle.population.specs.declared.placed.PlacedLink.{PlacedLink}
use Rattle.population.proofs.supporting.Arrows.{leads_then, step_arrow}
use Rattle.population.proofs.principals.Asked.{asked_of}
use Rattle.population.proofs.supporting.Entities.{entities_are, of_given, of_key, of_number, set_there, stands_cases, Stands, key_has}
use Rattle.population.proofs.supporting.Ends.{from_given, given_from}
use Rattle.population.proofs.supporting.Legal.{supported_legal}
use Rattle.population.proofs.principals.Matched.{part_matched, sound_constraint}
use Rattle.population.proofs.plain.Numbered.{numbered_has, some_part}
use Rattle.population.proofs.principals.Principals.{is_dependent_by, principal_key_is}
use Rattle.population.proofs.supporting.Support.{in_keys, key_in, support_all, support_closed, support_fits, support_free, support_wanted}
use Rattle.host_states.specs.FocusStates.{focus, focus_state, given_by, leaving_states, linked_hosts, links_by, state_by, wanted_by}
use Rattle.host_states.proofs.pairs.Alike.{AreBut, IsAt, entity_to, hosted_to, joined_links_to}
use Rattle.host_states.proofs.focus.Focus.{HasRegion, IsMade, are_given, focus_apart, focus_key_is, in_set, numbers, region_set}
use Rattle.host_states.proofs.focus.FocusHeld.{holds_focus}
use Rattle.host_states.proofs.focus.HostEnds.{is_linked_host, linked_is, linked_order}
use Rattle.host_states.proofs.pairs.Rivals.{focus_made, focus_wants_short}

-- several values aren't one
several_not_one : (nullable : Bool) (v : Value) → multi nullable ≡ single v → ⊥
several_not_one nullable v never = let nothing : multi nullable ≡ single v = never in cc

module _ (basis : Basis) (outer : ℕ) (s : SetId) (region : Region) (of : HasRegion basis outer s region) (values : Valuation) (admissible : IsAdmissible basis outer region values)
    (one : HasOneEntityPerKey basis region) where
  abbrev entity : Entity
  entity = focus_entity basis region values

  -- a dependent property that is no part of the key is null
  settled_null : (d : PropId) → IsDependent basis.schema.model d → Contains (props_of basis.schema.model region.ty) d → ¬ Contains (key_props basis.schema.model region.ty) d
      → value_of basis.schema.model entity d ≡ Null
  settled_null d dependent among no_key =
      let told = one.single d among no_key in
      has_value basis region values d among ∙ by (atom_at region.atoms d) refl told.0 told.1
    where
      by : (found : Option Atom) → atom_at region.atoms d ≡ found → (v : Value) → option_map_or of_atom found (multi (is_nullable basis.schema.model d)) ≡ single v → values.prop d ≡ Null
      by None at v is = absurd (several_not_one (is_nullable basis.schema.model d) v is)
      by (Some atom.Null) at v is = lies_in basis region values admissible.allowed d atom.Null at
      by (Some (atom.Is only)) at v is =
          let told : IsTold basis of.is s region of.listed d (atom.Is only) = found_told basis of.is s region of.listed d (atom.Is only) at in
          let tells = atom_tells basis.fits of.is.domains (basis.constants (prop d)) told.declared (atom.Is only) told.among in
          let kind = dependent_is basis.schema.model of.is.sound.model d dependent told.declared told.is_declared in
          absurd (contains_nil only (subst (λ list. Contains list only) (dependent_none basis of.is d told.declared told.is_declared dependent) (tells.1 (plain_key told.declared.kind kind))))
      by (Some atom.Other) at v is = absurd (several_not_one false v is)

  -- so each principal that the entity asks for is asked by parts of its key alone, and an arrow leads there
  focus_arrow : (to : PlacedKey) → Contains (principals basis.schema.model s entity) to → HasArrow basis.schema.model s to.set
  focus_arrow to asked = record {
    assoc = asks.assoc;
    constraint = asks.constraint;
    is_assoc = asks.is_assoc;
    constrained = asks.constrained;
    by_key = some_member (Contains (key_props basis.schema.model (dependent_end asks.assoc asks.constraint).ty)) asks.constraint.dependent some_dependent.0 some_dependent.1
        (subst (λ props. Contains props some_dependent.0) keys_are (in_key some_dependent.0 some_dependent.1));
    needed = all_from_members (IsNeeded basis.schema.model) asks.constraint.dependent (λ d among.
        let is_key : IsKeyProp basis.schema.model d = key_prop basis.schema.model of.is.sound.model d region.ty (in_key d among) in (is_key.declared, is_key.is_declared, is_key.needed));
    from_is = asks.at_end;
    to_is = sym (ap (λ (placed : PlacedKey). placed.set) asks.is);
  }
    where
      asks : AsksFor basis.schema.model s entity to
      asks = asked_of basis.schema.model of.is.sound.model s entity to asked

      lists : HasMatchedLists basis.schema.model asks.assoc asks.constraint
      lists = (sound_constraint basis.schema.model of.is.sound.model asks.assoc asks.constraint asks.is_assoc asks.constrained).lists

      keys_are : key_props basis.schema.model region.ty ≡ key_props basis.schema.model (dependent_end asks.assoc asks.constraint).ty
      keys_are = (inherits_keys basis.schema.model of.is.sound.model).same region.ty (dependent_end asks.assoc asks.constraint).ty asks.covers

      in_key : (d : PropId) → Contains asks.constraint.dependent d → Contains (key_props basis.schema.model region.ty) d
      in_key d among = ⊎_elim
          (λ (part : Contains (key_props basis.schema.model region.ty) d). part)
          (λ (no_part : ¬ Contains (key_props basis.schema.model region.ty) d).
          let by = is_dependent_by basis.schema.model of.is.sound.model asks.assoc asks.constraint asks.is_assoc asks.constrained d among in
          let of_type = inherits_prop basis.schema.model of.is.sound.model d region.ty (dependent_end asks.assoc asks.constraint).ty asks.covers
          (All-contains (Contains (props_of basis.schema.model (dependent_end asks.assoc asks.constraint).ty)) asks.constraint.dependent d lists.dependent among) in
          absurd (All-contains (λ (v : Value). v ≢ Null) (values_of basis.schema.model entity asks.constraint.dependent) (value_of basis.schema.model entity d) asks.there
          (contains_map (value_of basis.schema.model entity) asks.constraint.dependent d among) (settled_null d by of_type no_part)))
          (so_or_not (is_among d (key_props basis.schema.model region.ty)) (Decides-among (key_props basis.schema.model region.ty) d))

      -- a constraint has a dependent property: its principal has a key
      some_dependent : (d : PropId) × Contains asks.constraint.dependent d
      some_dependent =
          let element = lists.element in
          let part = some_part basis.schema.model of.is.sound.model (principal_end asks.assoc asks.constraint).set element.0 element.1 in
          let keyed : Contains (key_props basis.schema.model (principal_end asks.assoc asks.constraint).ty) part.0 =
          subst (λ props. Contains props part.0) (principal_key_is basis.schema.model of.is.sound.model asks.assoc asks.constraint asks.is_assoc asks.constrained) part.1 in
          let matched = part_matched basis.schema.model of.is.sound.model asks.assoc asks.constraint asks.is_assoc asks.constrained part.0 keyed in
          (matched.other, matched.among)

  -- the state with it
  none_left : (hosts : List Host) → filter (λ (host : Host). is_linked basis [] host.assoc) hosts ≡ []
  none_left [] = refl
  none_left (host ∷ hosts) = none_left hosts

  hosts_none : linked_hosts basis region ≡ []
  hosts_none = ap (λ linked. filter (λ (host : Host). is_linked basis linked host.assoc) (basis.hosts region.set)) one.no_links ∙ none_left (basis.hosts region.set)

  abbrev given : List Placed
  given = given_by basis outer (linked_hosts basis region) region values

  abbrev wanted : List PlacedKey
  wanted = wanted_by basis outer given

  given_is : given ≡ focus basis region values ∷ []
  given_is = ap (λ hosts. given_by basis outer hosts region values) hosts_none

  links_none : links_by basis region values (linked_hosts basis region) ≡ []
  links_none = ap (links_by basis region values) hosts_none

  -- a wanted key is one that the entity asks for
  wanted_is : (to : PlacedKey) → Contains wanted to → Contains (principals basis.schema.model s entity) to
  wanted_is to has =
      let found = in_flat_map (λ (placed : Placed). principals basis.schema.model placed.set placed.entity) given to has in
      let is : found.0 ≡ focus basis region values = only_member given (focus basis region values) found.0 given_is found.1 in
      let asked : Contains (principals basis.schema.model region.set entity) to = subst (λ (placed : Placed). Contains (principals basis.schema.model placed.set placed.entity) to) is found.2 in
      subst (λ u. Contains (principals basis.schema.model u entity) to) (region_set basis outer s region of) asked

  short : (to : PlacedKey) → Contains wanted to → HasShortParts basis.schema.model to.set to.key
  short = focus_wants_short basis outer s region of values admissible

  -- without any given entity
  nothing_given : AreGiven basis.schema.model outer []
  nothing_given = record {
    well = λ u one_ has. absurd (contains_nil one_ has);
    apart = λ u i j d below within. absurd (omega (arith, within));
    not_numbered = λ u one_ has. absurd (contains_nil one_ has);
  }

  abbrev keys : List PlacedKey
  keys = support basis.schema.model outer given wanted

  abbrev left_keys : List PlacedKey
  left_keys = support basis.schema.model outer [] wanted

  left_well : AreKeys basis.schema.model outer [] left_keys
  left_well = support_fits basis.schema.model outer (numbers basis outer s region of) [] wanted nothing_given
      (record { short = short; of_given = λ u one_ has. absurd (contains_nil one_ has) })

  no_links : AreLinked basis.schema.model outer [] left_keys []
  no_links = record {
    once = λ a i j d below within. absurd (omega (arith, within));
    ends = λ a assoc here link has. absurd (contains_nil link has);
    few = λ a assoc here first not_many i j d below within. absurd (omega (arith, within));
  }

  abbrev d_state : State
  d_state = supported basis.schema.model outer [] left_keys []

  left_legal : IsLegal basis.schema.model d_state
  left_legal = supported_legal basis.schema.model outer (numbers basis outer s region of) [] left_keys [] nothing_given left_well no_links

  beyond : (given_ : List Placed) (to : PlacedKey) → ¬ IsTaken basis.schema.model outer given_ to → (number : ℕ) → number < number_count basis.schema.model
      → to.key ≢ numbered_key basis.schema.model outer to.set number
  beyond given_ to free number below equal = free (inl (number, below, equal))

  -- arrows lead from the set to each key of the support
  abbrev IsLedTo : PlacedKey → Type 0
  IsLedTo placed = Leads basis.schema.model s placed.set

  step_led : (given_ : List Placed) (from to : PlacedKey) → IsLedTo from → Contains (steps basis.schema.model outer from) to → ¬ IsTaken basis.schema.model outer given_ to → IsLedTo to
  step_led given_ from to led has_step free = leads_then basis.schema.model s from.set to.set led (step_arrow basis.schema.model outer (numbers basis outer s region of) from to has_step (beyond given_ to free))

  left_led : (placed : PlacedKey) → Contains left_keys placed → IsLedTo placed
  left_led = support_all basis.schema.model outer [] IsLedTo (step_led []) wanted (λ placed has free. arrow s placed.set (focus_arrow placed (wanted_is placed has)))

  never_here : (placed : PlacedKey) → IsLedTo placed → placed.set ≢ s
  never_here placed led same = of.is.sound.model.arrows s (subst (λ u. Leads basis.schema.model s u) same led)

  -- a key that is taken with the entity and not without it is the entity's
  taken_here : (placed : PlacedKey) → ¬ IsTaken basis.schema.model outer [] placed → IsTaken basis.schema.model outer given placed → placed.set ≡ s
  taken_here placed free taken = ⊎_elim
      (λ (number : (n : ℕ) × (n < number_count basis.schema.model) × (placed.key ≡ numbered_key basis.schema.model outer placed.set n)). absurd (free (inl number)))
      (λ (is_given : (x : Entity) × Contains (given_in given placed.set) x × (key_of basis.schema.model x ≡ placed.key)).
      let found = given_from given placed.set is_given.0 is_given.1 in
      let is : found.0 ≡ focus basis region values = only_member given (focus basis region values) found.0 given_is found.1 in
      sym found.2 ∙ ap (λ (one_ : Placed). one_.set) is ∙ region_set basis outer s region of)
      taken

  free_both : (placed : PlacedKey) → IsLedTo placed → ¬ IsTaken basis.schema.model outer [] placed → ¬ IsTaken basis.schema.model outer given placed
  free_both placed led free taken = never_here placed led (taken_here placed free taken)

  free_left : (placed : PlacedKey) → ¬ IsTaken basis.schema.model outer given placed → ¬ IsTaken basis.schema.model outer [] placed
  free_left placed free taken = ⊎_elim
      (λ (number : (n : ℕ) × (n < number_count basis.schema.model) × (placed.key ≡ numbered_key basis.schema.model outer placed.set n)). free (inl number))
      (λ (is_given : (x : Entity) × Contains (given_in [] placed.set) x × (key_of basis.schema.model x ≡ placed.key)). absurd (contains_nil is_given.0 is_given.1))
      taken

  -- the supports hold the same keys
  to_left : (placed : PlacedKey) → Contains keys placed → Contains left_keys placed
  to_left = support_all basis.schema.model outer given (Contains left_keys)
      (λ from to has_from has_step free. support_closed basis.schema.model outer [] (numbers basis outer s region of) wanted from to has_from has_step (free_left to free)) wanted
      (λ placed has free. support_wanted basis.schema.model outer [] (numbers basis outer s region of) wanted placed has (free_left placed free))

  abbrev IsKept : PlacedKey → Type 0
  IsKept placed = IsLedTo placed × Contains keys placed

  from_left : (placed : PlacedKey) → Contains left_keys placed → IsKept placed
  from_left = support_all basis.schema.model outer [] IsKept
      (λ from to kept has_step free. (let led = step_led [] from to kept.0 has_step free in
      (led, support_closed basis.schema.model outer given (numbers basis outer s region of) wanted from to kept.1 has_step (free_both to led free))))
      wanted
      (λ placed has free. (let led : IsLedTo placed = arrow s placed.set (focus_arrow placed (wanted_is placed has)) in
      (led, support_wanted basis.schema.model outer given (numbers basis outer s region of) wanted placed has (free_both placed led free))))

  abbrev key : List Value
  key = key_of basis.schema.model entity

  with_but : AreBut basis.schema.model s key given [] keys left_keys
  with_but = record {
    given_to = λ u x has. (let found = given_from given u x has in
        let is : found.0 ≡ focus basis region values = only_member given (focus basis region values) found.0 given_is found.1 in
        inl (
          sym found.2 ∙ ap (λ (placed : Placed). placed.set) is ∙ region_set basis outer s region of,
          ap (key_of basis.schema.model) (sym found.3 ∙ ap (λ (placed : Placed). placed.entity) is),
        ));
    keys_to = λ u k has. in_keys left_keys (record { set = u; key = k }) (to_left (record { set = u; key = k }) (key_in keys u k has));
  }

  left_but : AreBut basis.schema.model s key [] given left_keys keys
  left_but = record {
    given_to = λ u x has. absurd (contains_nil x has);
    keys_to = λ u k has. in_keys keys (record { set = u; key = k }) (from_left (record { set = u; key = k }) (key_in left_keys u k has)).1;
  }

  -- the entity's key is that of none
  left_out : (x : Entity) → Contains (entities_in d_state s) x → key_of basis.schema.model x ≢ key
  left_out x has =
      let set = in_set basis outer s region of in
      by set.0 set.1 x (stands_cases basis.schema.model outer [] left_keys s set.0 set.1 x (subst (λ list. Contains list x) (entities_are basis.schema.model outer [] left_keys [] s) has))
    where
      focus_given : Contains (given_in given s) entity
      focus_given = subst (λ u. Contains (given_in given u) entity) (region_set basis outer s region of)
          (from_given given (focus basis region values) (contains_head (focus basis region values) _))

      by : (set : EntitySet) (here : At basis.schema.model.sets s.index set) (y : Entity) → Stands basis.schema.model outer [] left_keys s set here y → key_of basis.schema.model y ≢ key
      by set here _ (of_number number below) equal =
          (are_given basis outer s region of values admissible (linked_hosts basis region) (linked_is basis of.is s region of.listed) (linked_order basis of.is s region of.listed)).not_numbered
          s entity focus_given number below (sym equal ∙ numbered_has basis.schema.model outer (numbers basis outer s region of) s set here number below)
      by set here y (of_given _ has_given) equal = contains_nil y has_given
      by set here _ (of_key k has_key) equal = never_here (record { set = s; key = k }) (left_led (record { set = s; key = k }) (key_in left_keys s k has_key)) refl

  abbrev c_state : State
  c_state = supported basis.schema.model outer given keys []

  c_is : c_state ≡ focus_state basis outer region values
  c_is = ap (supported basis.schema.model outer given keys) (sym links_none)

  module _ (few : HaveFewPartners basis) where
    differ_by : DifferAtMostAt basis s key c_state d_state
    differ_by = record {
      entities = λ u x elsewhere. (
        entity_to basis.schema.model outer s key given [] keys left_keys with_but [] u x elsewhere,
        entity_to basis.schema.model outer s key [] given left_keys keys left_but [] u x elsewhere,
      );
      hosted = λ u host hosts other elsewhere link. (
        hosted_to basis of.is few outer s key given [] keys left_keys with_but [] u host hosts other elsewhere link,
        hosted_to basis of.is few outer s key [] given left_keys keys left_but [] u host hosts other elsewhere link,
      );
      joined = λ t fragment assoc joined link. (
        joined_links_to basis of.is few outer s key given [] keys left_keys with_but [] t fragment assoc joined link,
        joined_links_to basis of.is few outer s key [] given left_keys keys left_but [] t fragment assoc joined link,
      );
    }

    pub focus_leaves : LeavesFocusOut basis region values (leaving_states basis outer region values).0 (leaving_states basis outer region values).1
    focus_leaves = record {
      first = holds_focus basis outer s region values (linked_hosts basis region) wanted (focus_made basis outer s region of values admissible wanted short (λ to has. has))
          (is_linked_host basis of.is s region of.listed);
      second = left_legal;
      left_out = λ x has. left_out x (subst (λ u. Contains (entities_in d_state u) x) (region_set basis outer s region of) has);
      alike = subst (λ u. DifferAtMostAt basis u key (focus_state basis outer region values) d_state) (sym (region_set basis outer s region of))
          (subst (λ state. DifferAtMostAt basis s key state d_state) c_is differ_by);
    }
