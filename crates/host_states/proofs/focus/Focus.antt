-- An entity of a region with its partners: given entities of a legal state, with keys of their own.
use Rattle.std.proofs.Common.{◌≡◌, ◌≢◌, ◌⊎◌, ⊎_elim, inl, inr, ℕ, ◌+◌, ◌*◌, ◌<◌, ◌≤◌, List, [], ◌∷◌, ◌++◌, map, flat_map, length, slice_get, get_or, All, AllPairs, Contains, Bool, not, IsTrue, Option, Some, None, refl, sym, ap, subst, ◌∙◌, arith}
use Rattle.std.specs.Option.{option_map_or}
use Rattle.std.specs.List.{AllZip}
use Rattle.std.proofs.lemmas.List.{length-map}
use Rattle.std.proofs.lemmas.List.Elements.{All-contains, Contains-get_or}
use Rattle.std.proofs.lemmas.List.Kept.{AllPairs-cons}
use Rattle.std.proofs.lemmas.Option.{slice_get_within}
use Rattle.emc_base.proofs.FoundItems.{contains_flat_map}
use Rattle.emc_base.specs.declared.value.Value.TheVariants as value
use Rattle.emc_base.specs.declared.value.Kind.TheVariants as kind
use Rattle.emc_base.proofs.Joined.{in_flat_map}
use Rattle.emc_base.proofs.Mapped.{contains_map}
use Rattle.emc_base.proofs.Lists.{all_from_members, at_once}
use Rattle.emc_base.proofs.Members.{contains_cons_cases, contains_head, contains_tail}
use Rattle.round_trip.specs.Words.{SetId, AssocId, PropId, Value, Null, Kind, EntityModel, EntityType, EntitySet, Prop, Assoc, Constraint, End, Entity, At, HasProp, InDomain, IsA, IsEntity, dependent_end, key_of, key_props, props_of, value_of, values_of}
use Rattle.round_trip.specs.soundness.Lookups.{set_key}
use Rattle.round_trip.specs.soundness.models.Constraints.{HasMatchedLists, IsSoundEnd}
use Rattle.round_trip.specs.soundness.models.Inheritance.{IsKeyProp}
use Rattle.schema_laws.specs.short_values.Fresh.{added_value, fresh, fresh_at, most_indices}
use Rattle.schema_laws.specs.short_values.Fresh as number_of
use Rattle.schema_laws.specs.short_values.Places.{place_in}
use Rattle.schema_laws.specs.short_values.Short.{IsOfSort, IsShort}
use Rattle.schema_laws.proofs.sound_demand.owners.Pairing.{end_key}
use Rattle.schema_laws.proofs.sound_types.Inherited.{declared_above, inherits_prop, key_among, key_prop}
use Rattle.schema_laws.proofs.short_values.Places.{fresh_is, place_within}
use Rattle.schema_laws.proofs.short_values.Short.{domain_not_null}
use Rattle.schema_laws.proofs.state_demand.lists.Places.{agree_by_map, map_agree}
use Rattle.cells.specs.Limits.{IsWithinLimits}
use Rattle.regions.specs.declared.region.Region.{Region}
use Rattle.regions.specs.Atoms.{Allows}
use Rattle.regions.specs.Basis.{Basis, Host, partner_end}
use Rattle.regions.specs.Patterns.{Valuation}
use Rattle.regions.specs.Regions.{regions_of}
use Rattle.regions.specs.region_laws.IsBasis.{IsBasis}
use Rattle.regions.proofs.region_laws.listing.Listed.{is_listed, set_is}
use Rattle.regions.proofs.region_laws.listing.Possible.{type_fits}
use Rattle.regions.proofs.region_laws.pattern.types.Regions.{key_is}
use Rattle.region_states.specs.defaults.Admissible.{IsAdmissible}
use Rattle.region_states.specs.Entities.{focus_entity}
use Rattle.region_states.proofs.Entities.{carried, has_value}
use Rattle.population.specs.Given.{AreGiven, AreWanted, HasNumbers, HasShortParts, IsShortFor, StandsWell}
use Rattle.population.specs.Numbered.{number_count, numbered_key, twice}
use Rattle.population.specs.Plain.{plain}
use Rattle.population.specs.Principals.{AsksFor, principals}
use Rattle.population.specs.declared.placed.PlacedKey.{PlacedKey}
use Rattle.population.specs.Supported.{given_in}
use Rattle.population.specs.declared.placed.Placed.{Placed}
use Rattle.population.proofs.principals.Asked.{asked_of}
use Rattle.population.proofs.supporting.Ends.{given_from, given_pairs, place_small}
use Rattle.population.proofs.plain.Numbered.{made_once, made_short, number_small, set_key_is, some_part, twice_is}
use Rattle.population.proofs.plain.Plain.{has_key, plain_well}
use Rattle.population.proofs.principals.Matched.{sound_constraint}
use Rattle.population.proofs.principals.Principals.{is_dependent_by}
use Rattle.population.proofs.plain.Shortness.{plain_short, principal_short}
use Rattle.host_states.specs.FocusStates.{by_assoc, focus, given_by, partner_of, told_key, wanted_by}
use Rattle.host_states.proofs.focus.HostEnds.{IsLinkedHost, far_sound, from_assoc, pairs_of_hosts, to_assoc}

-- a value of a sort that a domain holds
pub domain_sort : (k : Kind) (v : Value) → InDomain v k → IsOfSort k v
domain_sort k v within = sort k v within
  where
    sort : (l : Kind) (w : Value) → InDomain w l → IsOfSort l w
    sort kind.Boolean (value.Flag flag) fits = tt
    sort kind.Byte (value.Whole n) fits = tt
    sort kind.Int16 (value.Whole n) fits = tt
    sort kind.Int32 (value.Whole n) fits = tt
    sort kind.Int64 (value.Whole n) fits = tt
    sort (kind.Text bound) (value.Text text) fits = tt
    sort (kind.Binary bound) (value.Bytes bytes) fits = tt
    sort (kind.Enum enumeration) (value.Whole n) fits = tt
    sort _ _ fits = absurd fits

-- what the laws on states with an entity of a region take: a basis within the limits, a row of numbers, and a region of the set
pub record HasRegion (basis : Basis) (outer : ℕ) (s : SetId) (region : Region) : Type 0 where
  pub is : IsBasis basis
  pub limits : IsWithinLimits basis.schema
  pub row : outer ≤ 4
  pub listed : Contains (regions_of basis s) region

module _ (basis : Basis) (outer : ℕ) (s : SetId) (region : Region) (of : HasRegion basis outer s region) where
  pub numbers : HasNumbers basis.schema.model outer
  numbers = record { sound = of.is.sound.model; few = of.limits.model.0; row = of.row }

  pub in_set : (set : EntitySet) × At basis.schema.model.sets s.index set
  in_set = let listed = is_listed basis s region of.listed in (listed.set, listed.is_set)

  pub region_set : region.set ≡ s
  region_set = set_is basis s region of.listed

  -- the key of the region's type is that of the set
  pub region_key : key_props basis.schema.model region.ty ≡ set_key basis.schema.model s
  region_key = key_is basis of.is s region of.listed ∙ ap (set_key basis.schema.model) region_set

  module _ (values : Valuation) (admissible : IsAdmissible basis outer region values) where
    abbrev entity : Entity
    entity = focus_entity basis region values

    -- the entity's key, by the parts of the set's key
    pub focus_key_is : key_of basis.schema.model entity ≡ map values.prop (set_key basis.schema.model s)
    focus_key_is =
        map_agree (value_of basis.schema.model entity) values.prop (key_props basis.schema.model region.ty)
        (λ p part. has_value basis region values p (key_among basis.schema.model of.is.sound.model p region.ty part))
        ∙ ap (map values.prop) region_key

    -- it is no key of numbers but the first four
    pub focus_apart : (index : PropId → ℕ) → ((p : PropId) → Contains (set_key basis.schema.model s) p → (4 ≤ index p) × (index p < most_indices))
        → key_of basis.schema.model entity ≢ map (λ p. fresh_at basis.schema.model outer p (index p)) (set_key basis.schema.model s)
    focus_apart index large equal =
        let part = some_part basis.schema.model of.is.sound.model s in_set.0 in_set.1 in
        let p : PropId = part.0 in
        let keyed : Contains (key_props basis.schema.model region.ty) p = subst (λ props. Contains props p) (sym region_key) part.1 in
        let is_key : IsKeyProp basis.schema.model p = key_prop basis.schema.model of.is.sound.model p region.ty keyed in
        let values_are : values.prop p ≡ fresh_at basis.schema.model outer p (index p) =
        agree_by_map values.prop (λ q. fresh_at basis.schema.model outer q (index q)) (set_key basis.schema.model s) (sym focus_key_is ∙ equal) p part.1 in
        let bounds = large p part.1 in
        admissible.keys p keyed is_key.declared.kind (index p) bounds.0 bounds.1 (values_are ∙ fresh_is basis.schema.model p is_key.declared is_key.is_declared outer (index p))

    -- each property may hold its value
    focus_allows : (p : PropId) (declared : Prop) → HasProp basis.schema.model entity p declared → Allows declared (value_of basis.schema.model entity p)
    focus_allows p declared of_type = carried basis region values p of_type.among (Allows declared) (admissible.allowed.props p declared of_type.among of_type.is_declared)

    pub focus_well : StandsWell basis.schema.model s entity
    focus_well =
        let type = (type_fits basis of.is s region of.listed in_set.0 in_set.1).0 in
        record {
          is_entity = (
            type.0,
            type.1,
            length-map (props_of basis.schema.model region.ty) values.prop ∙ ap (λ found. length (option_map_or (λ (one : EntityType). one.props) found [])) type.1,
          );
          fits = λ set here. (let both = type_fits basis of.is s region of.listed set here in record { concrete = both.0; under = both.1 });
          nulls = λ p declared of_type null. ⊎_elim
              (λ (told : (value_of basis.schema.model entity p ≡ Null) × IsTrue declared.nullable). told.1)
              (λ (domain : InDomain (value_of basis.schema.model entity p) declared.kind).
              absurd (domain_not_null (value_of basis.schema.model entity p) declared.kind domain null))
              (focus_allows p declared of_type);
          domains = λ p declared of_type. ⊎_elim
              (λ (told : (value_of basis.schema.model entity p ≡ Null) × IsTrue declared.nullable). inl told.0)
              (λ (domain : InDomain (value_of basis.schema.model entity p) declared.kind). inr domain)
              (focus_allows p declared of_type);
        }

    -- a dependent value that isn't null is short
    pub focus_short : (assoc : Assoc) (constraint : Constraint) → Contains basis.schema.model.assocs assoc → assoc.constraint ≡ Some constraint
        → IsA basis.schema.model region.ty (dependent_end assoc constraint).ty → (d : PropId) → Contains constraint.dependent d → value_of basis.schema.model entity d ≢ Null
        → IsShortFor basis.schema.model d (value_of basis.schema.model entity d)
    focus_short assoc constraint is_assoc constrained covers d among there =
        let model : EntityModel = basis.schema.model in
        let lists : HasMatchedLists model assoc constraint = (sound_constraint model of.is.sound.model assoc constraint is_assoc constrained).lists in
        let of_type : Contains (props_of model region.ty) d = inherits_prop model of.is.sound.model d region.ty (dependent_end assoc constraint).ty covers
        (All-contains (Contains (props_of model (dependent_end assoc constraint).ty)) constraint.dependent d lists.dependent among) in
        let declared = declared_above model of.is.sound.model d region.ty of_type in
        let by = is_dependent_by model of.is.sound.model assoc constraint is_assoc constrained d among in
        let value_is = has_value basis region values d of_type in
        record {
          declared = declared.0;
          is_declared = declared.1;
          short = subst IsShort (sym value_is) (admissible.dependent d of_type by (λ null. there (value_is ∙ null)));
          of_sort = ⊎_elim
              (λ (told : (value_of model entity d ≡ Null) × IsTrue declared.0.nullable). absurd (there told.0))
              (λ (domain : InDomain (value_of model entity d) declared.0.kind). domain_sort declared.0.kind (value_of model entity d) domain)
              (focus_allows d declared.0 (record { among = of_type; is_declared = declared.1 }));
        }

    -- the keys of its principals are short
    pub focus_principals : (to : PlacedKey) → Contains (principals basis.schema.model s entity) to → HasShortParts basis.schema.model to.set to.key
    focus_principals to asked =
        let model : EntityModel = basis.schema.model in
        let asks : AsksFor model s entity to = asked_of model of.is.sound.model s entity to asked in
        let P : PlacedKey → Type 0 = λ one. HasShortParts model one.set one.key in
        subst P (sym asks.is)
        (principal_short model outer numbers asks.assoc asks.constraint asks.is_assoc asks.constrained entity
        (λ d among. focus_short asks.assoc asks.constraint asks.is_assoc asks.constrained asks.covers d among
        (All-contains (λ (v : Value). v ≢ Null) (values_of model entity asks.constraint.dependent) (value_of model entity d) asks.there
        (contains_map (value_of model entity) asks.constraint.dependent d among))))

    -- a partner
    module _ (host : Host) (assoc : Assoc) (by : IsLinkedHost basis s region host assoc) where
      abbrev far : End
      far = partner_end host.first_hosts assoc

      abbrev index : PropId → ℕ
      index p = number_of.partner_key host.assoc.index (place_in p (set_key basis.schema.model far.set))

      far_is : IsSoundEnd basis.schema.model far
      far_is = far_sound basis of.is s region of.listed host assoc by

      far_key : key_props basis.schema.model far.ty ≡ set_key basis.schema.model far.set
      far_key = end_key basis.schema of.is.sound far far_is

      -- its key is numbered by the association
      pub told_is : told_key basis values host assoc ≡ map (λ p. fresh_at basis.schema.model outer p (index p)) (set_key basis.schema.model far.set)
      told_is =
          let at : _ → PropId → Value = λ props p. fresh_at basis.schema.model outer p (number_of.partner_key host.assoc.index (place_in p props)) in
          map_agree (values.part host.assoc (not host.first_hosts)) (at (key_props basis.schema.model far.ty)) (key_props basis.schema.model far.ty)
          (λ p part. admissible.partners host assoc (subst (λ u. Contains (basis.hosts u) host) (sym region_set) by.hosts) by.linked by.is_assoc p part)
          ∙ ap (λ props. map (at props) props) far_key

      -- which is between those of the entity and those that are added
      pub index_is : (p : PropId) → Contains (set_key basis.schema.model far.set) p → (4 ≤ index p) × (index p < 2000)
      index_is p part =
          let place = place_small basis.schema.model outer numbers far.set far_is.under.0 far_is.under.1 p part in
          let inside = slice_get_within basis.schema.model.assocs host.assoc.index assoc by.is_assoc in
          let most = of.limits.model.0 in
          (omega (arith, place), omega (arith, place, inside, most))

      pub told_short : HasShortParts basis.schema.model far.set (told_key basis values host assoc)
      told_short = subst (HasShortParts basis.schema.model far.set) (sym told_is)
          (made_short basis.schema.model outer numbers far.set far_is.under.0 far_is.under.1 index (λ p part. (let bounds = index_is p part in let below = bounds.1 in omega (arith, below))))

      pub told_not_numbered : (number : ℕ) → number < number_count basis.schema.model → told_key basis values host assoc ≢ numbered_key basis.schema.model outer far.set number
      told_not_numbered number below equal =
          let part = some_part basis.schema.model of.is.sound.model far.set far_is.under.0 far_is.under.1 in
          let indices = made_once basis.schema.model outer numbers far.set far_is.under.0 far_is.under.1 index (λ p. added_value number) (sym told_is ∙ equal) part.0 part.1 in
          let bounds = index_is part.0 part.1 in
          let small = bounds.1 in
          absurd (omega (arith, indices, small))

      abbrev partner : Entity
      partner = (partner_of basis outer values host assoc).entity

      pub partner_has : key_of basis.schema.model partner ≡ told_key basis values host assoc
      partner_has = has_key basis.schema.model of.is.sound.model outer 0 of.row (number_small basis.schema.model outer numbers 0 (omega arith)) far.set far.ty far_is.concrete far_is.under
          (told_key basis values host assoc) told_short

      pub partner_well : StandsWell basis.schema.model far.set partner
      partner_well = plain_well basis.schema.model of.is.sound.model outer 0 of.row (number_small basis.schema.model outer numbers 0 (omega arith)) far.set far.ty far_is.concrete far_is.under
          (told_key basis values host assoc) told_short

      pub partner_principals : (to : PlacedKey) → Contains (principals basis.schema.model far.set partner) to → HasShortParts basis.schema.model to.set to.key
      partner_principals to asked =
          let model : EntityModel = basis.schema.model in
          let asks : AsksFor model far.set partner to = asked_of model of.is.sound.model far.set partner to asked in
          let P : PlacedKey → Type 0 = λ one. HasShortParts model one.set one.key in
          subst P (sym asks.is)
          (principal_short model outer numbers asks.assoc asks.constraint asks.is_assoc asks.constrained partner
          (plain_short model outer numbers far.set far.ty far_is.concrete far_is.under (told_key basis values host assoc) told_short asks.assoc asks.constraint asks.is_assoc asks.constrained
          asks.covers asks.there))

      -- its key isn't the entity's
      pub partner_apart : far.set ≡ s → key_of basis.schema.model entity ≢ told_key basis values host assoc
      partner_apart sets equal =
          let Small : SetId → Type 0 = λ u. (p : PropId) → Contains (set_key basis.schema.model u) p
          → (4 ≤ number_of.partner_key host.assoc.index (place_in p (set_key basis.schema.model u))) × (number_of.partner_key host.assoc.index (place_in p (set_key basis.schema.model u)) < 2000) in
          let small : Small s = subst Small sets index_is in
          focus_apart (λ p. number_of.partner_key host.assoc.index (place_in p (set_key basis.schema.model s)))
          (λ p part. (let bounds = small p part in let below = bounds.1 in (bounds.0, omega (arith, below))))
          (equal ∙ told_is ∙ ap (λ u. map (λ p. fresh_at basis.schema.model outer p (number_of.partner_key host.assoc.index (place_in p (set_key basis.schema.model u)))) (set_key basis.schema.model u)) sets)

    -- partners by two associations have different keys
    pub partners_apart : (host other : Host) (assoc also : Assoc) → (by : IsLinkedHost basis s region host assoc) → (too : IsLinkedHost basis s region other also)
        → (partner_end host.first_hosts assoc).set ≡ (partner_end other.first_hosts also).set → told_key basis values host assoc ≡ told_key basis values other also
        → host.assoc.index ≡ other.assoc.index
    partners_apart host other assoc also by too sets equal =
        let model : EntityModel = basis.schema.model in
        let u : SetId = (partner_end host.first_hosts assoc).set in
        let far_is : IsSoundEnd model (partner_end host.first_hosts assoc) = far_sound basis of.is s region of.listed host assoc by in
        let at : ℕ → SetId → PropId → ℕ = λ a v p. number_of.partner_key a (place_in p (set_key model v)) in
        let part = some_part model of.is.sound.model u far_is.under.0 far_is.under.1 in
        let indices : at host.assoc.index u part.0 ≡ at other.assoc.index u part.0 = made_once model outer numbers u far_is.under.0 far_is.under.1 (at host.assoc.index u) (at other.assoc.index u)
        (sym (told_is host assoc by) ∙ equal ∙ told_is other also too
        ∙ ap (λ v. map (λ p. fresh_at model outer p (at other.assoc.index v p)) (set_key model v)) (sym sets)) part.0 part.1 in
        omega (arith, indices)

    -- the entity with its partners by some of the associations
    module _ (hosts : List Host) (each : (host : Host) → Contains hosts host → Contains (basis.hosts s) host × Contains region.linked host.assoc)
        (order : AllPairs (λ one next. one.assoc.index < next.assoc.index) hosts) where
      abbrev given : List Placed
      given = given_by basis outer hosts region values

      abbrev partners : List Placed
      partners = flat_map (by_assoc basis (partner_of basis outer values)) hosts

      -- a given entity is this one, or a partner
      pub data IsGiven : Placed → Type 0 where
        the_focus : IsGiven (focus basis region values)
        a_partner : (host : Host) (assoc : Assoc) → Contains hosts host → IsLinkedHost basis s region host assoc → IsGiven (partner_of basis outer values host assoc)

      linked_host : (host : Host) → Contains hosts host → (assoc : Assoc) → At basis.schema.model.assocs host.assoc.index assoc → IsLinkedHost basis s region host assoc
      linked_host host there assoc here = let told = each host there in record { hosts = told.0; linked = told.1; is_assoc = here }

      pub given_cases : (placed : Placed) → Contains given placed → IsGiven placed
      given_cases placed there = ⊎_elim
          (λ (is : placed ≡ focus basis region values). subst IsGiven (sym is) the_focus)
          (λ (later : Contains partners placed).
          let found = in_flat_map (by_assoc basis (partner_of basis outer values)) hosts placed later in
          let told = from_assoc basis (partner_of basis outer values) found.0 placed found.2 in
          subst IsGiven (sym told.2) (a_partner found.0 told.0 found.1 (linked_host found.0 found.1 told.0 told.1)))
          (contains_cons_cases (focus basis region values) partners placed there)

      well_placed : (placed : Placed) → IsGiven placed → StandsWell basis.schema.model placed.set placed.entity
      well_placed _ the_focus = subst (λ u. StandsWell basis.schema.model u entity) (sym region_set) focus_well
      well_placed _ (a_partner host assoc there by) = partner_well host assoc by

      -- a key of numbers that are added is no key of a given entity
      key_apart : (placed : Placed) → IsGiven placed → (number : ℕ) → number < number_count basis.schema.model
          → key_of basis.schema.model placed.entity ≢ numbered_key basis.schema.model outer placed.set number
      key_apart _ the_focus number below equal =
          let small = number_small basis.schema.model outer numbers number below in
          focus_apart (λ p. added_value number) (λ p part. (omega arith, small))
          (equal ∙ ap (λ u. numbered_key basis.schema.model outer u number) region_set)
      key_apart _ (a_partner host assoc there by) number below equal = told_not_numbered host assoc by number below (sym (partner_has host assoc by) ∙ equal)

      abbrev Differ : Placed → Placed → Type 0
      Differ x y = x.set ≡ y.set → key_of basis.schema.model x.entity ≢ key_of basis.schema.model y.entity

      focus_differs : (placed : Placed) → Contains partners placed → Differ (focus basis region values) placed
      focus_differs placed there sets equal =
          let found = in_flat_map (by_assoc basis (partner_of basis outer values)) hosts placed there in
          let told = from_assoc basis (partner_of basis outer values) found.0 placed found.2 in
          let by = linked_host found.0 found.1 told.0 told.1 in
          partner_apart found.0 told.0 by (sym (ap (λ (one : Placed). one.set) told.2) ∙ sym sets ∙ region_set)
          (equal ∙ ap (λ (one : Placed). key_of basis.schema.model one.entity) told.2 ∙ partner_has found.0 told.0 by)

      partners_differ : AllPairs Differ partners
      partners_differ = pairs_of_hosts basis (partner_of basis outer values) Differ hosts order (λ host other assoc also has_host has_other here there less sets equal.
          let by = linked_host host has_host assoc here in
          let too = linked_host other has_other also there in
          let same_index = partners_apart host other assoc also by too sets (sym (partner_has host assoc by) ∙ equal ∙ partner_has other also too) in
          absurd (omega (arith, less, same_index)))

      pub are_given : AreGiven basis.schema.model outer given
      are_given = record {
        well = λ u one there. (let found = given_from given u one there in
            subst (StandsWell basis.schema.model u) found.3 (subst (λ v. StandsWell basis.schema.model v found.0.entity) found.2 (well_placed found.0 (given_cases found.0 found.1))));
        apart = given_pairs (λ x y. key_of basis.schema.model x ≢ key_of basis.schema.model y) given
            (AllPairs-cons Differ (focus basis region values) partners (all_from_members (Differ (focus basis region values)) partners focus_differs) partners_differ);
        not_numbered = λ u one there number below equal. (let found = given_from given u one there in
            key_apart found.0 (given_cases found.0 found.1) number below
            (ap (key_of basis.schema.model) found.3 ∙ equal ∙ ap (λ v. numbered_key basis.schema.model outer v number) (sym found.2)));
      }

      -- what they ask for is short
      pub principals_short : (placed : Placed) → IsGiven placed → (to : PlacedKey) → Contains (principals basis.schema.model placed.set placed.entity) to
          → HasShortParts basis.schema.model to.set to.key
      principals_short _ the_focus to asked = focus_principals to (subst (λ u. Contains (principals basis.schema.model u entity) to) region_set asked)
      principals_short _ (a_partner host assoc there by) to asked = partner_principals host assoc by to asked

      pub wanted_short : (to : PlacedKey) → Contains (wanted_by basis outer given) to → HasShortParts basis.schema.model to.set to.key
      wanted_short to there =
          let found = in_flat_map (λ (placed : Placed). principals basis.schema.model placed.set placed.entity) given to there in
          principals_short found.0 (given_cases found.0 found.1) to found.2

      -- and any wanted keys that are short and hold it serve
      pub are_wanted : (wanted : List PlacedKey) → ((to : PlacedKey) → Contains wanted to → HasShortParts basis.schema.model to.set to.key)
          → ((to : PlacedKey) → Contains (wanted_by basis outer given) to → Contains wanted to) → AreWanted basis.schema.model given wanted
      are_wanted wanted short holds = record {
        short = short;
        of_given = λ u one there to asked. (let found = given_from given u one there in
            holds to (contains_flat_map (λ (placed : Placed). principals basis.schema.model placed.set placed.entity) given found.0 to found.1
            (subst (λ e. Contains (principals basis.schema.model found.0.set e) to) (sym found.3) (subst (λ v. Contains (principals basis.schema.model v one) to) (sym found.2) asked))));
      }

-- the premises of a state with an entity of a region: its values, the hosted associations of which its links are made, in their order, and the keys that are
-- wanted, which hold all that the entity and its partners ask for
pub record IsMade (basis : Basis) (outer : ℕ) (s : SetId) (region : Region) (values : Valuation) (hosts : List Host) (wanted : List PlacedKey) : Type 0 where
  pub of : HasRegion basis outer s region
  pub admissible : IsAdmissible basis outer region values
  pub each : (host : Host) → Contains hosts host → Contains (basis.hosts s) host × Contains region.linked host.assoc
  pub order : AllPairs (λ one next. one.assoc.index < next.assoc.index) hosts
  pub short : (to : PlacedKey) → Contains wanted to → HasShortParts basis.schema.model to.set to.key
  pub holds : (to : PlacedKey) → Contains (wanted_by basis outer (given_by basis outer hosts region values)) to → Contains wanted to
