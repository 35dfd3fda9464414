-- An entity of a region in place of a plain one: the state is legal and holds the entity, with its partners.
use Rattle.std.proofs.Common.{◌≡◌, ◌≢◌, ◌⊎◌, ⊎_elim, inl, inr, ℕ, ◌<◌, ◌==◌, ◌&&◌, List, [], ◌∷◌, ◌++◌, map, filter, length, All, AllPairs, Contains, Bool, true, false, true≢false, not, Some, refl, sym, ap, subst, ◌∙◌, arith}
use Rattle.std.specs.Option.{option_map_or}
use Rattle.std.proofs.lemmas.Bool.{and_parts, cond_both}
use Rattle.std.proofs.lemmas.List.{length-map, map-append}
use Rattle.std.proofs.lemmas.List.Elements.{All-contains, Contains-append_cases, Contains-append_left, Contains-append_right, filter-append}
use Rattle.std.proofs.lemmas.List.Kept.{AllPairs-cons, AllPairs-filter}
use Rattle.emc_base.specs.Lists.{AreApart}
use Rattle.emc_base.proofs.FoundItems.{contains_flat_map, some_member}
use Rattle.emc_base.proofs.Joined.{apart-append, in_flat_map, pairs_head, pairs_tail}
use Rattle.emc_base.proofs.Lists.{all_from_members, at_once}
use Rattle.emc_base.proofs.Mapped.{contains_at, contains_filter, contains_map}
use Rattle.emc_base.proofs.Members.{contains_cons_cases, contains_head, contains_tail}
use Rattle.emc_base.proofs.Numbered.{filter_contains}
use Rattle.round_trip.specs.Words.{SetId, AssocId, PropId, Value, Null, Assoc, Constraint, End, Entity, EntityModel, EntitySet, EntityType, Link, Prop, At, InDomain, IsA, dependent_end, key_of, props_of, value_of, values_of}
use Rattle.round_trip.specs.legality.Legal.{HasProp}
use Rattle.round_trip.specs.soundness.mappings.Joined.{IsDependent}
use Rattle.round_trip.specs.soundness.models.Constraints.{HasMatchedLists, IsSoundEnd}
use Rattle.edm_types.specs.declared.model.Mult.TheVariants.{Many}
use Rattle.schema_laws.specs.short_values.Short.{IsShort}
use Rattle.schema_laws.specs.state_demand.Selecting.{same_key}
use Rattle.schema_laws.proofs.short_values.Short.{domain_not_null}
use Rattle.schema_laws.proofs.sound_types.Inherited.{declared_above, inherits_prop}
use Rattle.schema_laws.proofs.state_demand.lists.Ids.{Decides-set}
use Rattle.schema_laws.proofs.state_demand.writings.Selecting.{Decides-key}
use Rattle.regions.specs.Atoms.{Allows}
use Rattle.regions.specs.Basis.{Basis, Host, partner_end}
use Rattle.regions.specs.Patterns.{Valuation}
use Rattle.regions.specs.declared.region.Region.{Region}
use Rattle.regions.specs.region_laws.pattern.Allowed.{IsAllowed}
use Rattle.regions.proofs.region_laws.entities.Flags.{one_host}
use Rattle.regions.proofs.region_laws.listing.Possible.{type_fits}
use Rattle.region_states.specs.Entities.{focus_entity}
use Rattle.region_states.specs.HoldsFocus.{HoldsFocus}
use Rattle.region_states.proofs.Entities.{carried, has_value}
use Rattle.population.specs.Given.{AreGiven, AreKeys, AreLinked, AreWanted, HasShortParts, IsNotNumbered, IsShortFor, StandsAtEnd, StandsWell}
use Rattle.population.specs.Numbered.{end_number, end_of, numbered, numbered_key}
use Rattle.population.specs.Principals.{AsksFor, principals}
use Rattle.population.specs.Support.{support}
use Rattle.population.specs.Supported.{end_key, given_in, links_of, stands_in}
use Rattle.population.specs.declared.placed.Placed.{Placed}
use Rattle.population.specs.declared.placed.PlacedKey.{PlacedKey}
use Rattle.population.specs.declared.placed.PlacedLink.{PlacedLink}
use Rattle.population.specs.Plain.{first_concrete}
use Rattle.population.proofs.plain.Numbered.{asked_end, end_within, numbered_has, sound_end}
use Rattle.population.proofs.plain.Plain.{first_is}
use Rattle.population.proofs.principals.Asked.{asked_of}
use Rattle.population.proofs.principals.PrincipalKeys.{sound_constraint}
use Rattle.population.proofs.principals.Principals.{is_dependent_by}
use Rattle.population.proofs.plain.Shortness.{principal_short}
use Rattle.population.proofs.supporting.Ends.{from_given, from_link, given_from, given_pairs, link_from, link_pairs}
use Rattle.population.proofs.supporting.Entities.{given_stands, number_stands}
use Rattle.population.proofs.supporting.Links.{far_key, near_key}
use Rattle.population.proofs.supporting.Support.{support_fits}
use Rattle.host_states.specs.FocusStates.{by_assoc, focus, link_to, linked_hosts, told_key}
use Rattle.host_states.proofs.focus.Focus.{HasRegion, domain_sort, in_set, numbers}
use Rattle.host_states.proofs.focus.FocusLinks.{side_cases}
use Rattle.host_states.proofs.focus.HostEnds.{IsLinkedHost, from_assoc, is_linked_host, linked_is, linked_order, near_covers, near_set, pairs_of_hosts, partner_side, to_assoc}
use Rattle.dangling_keys.specs.OtherStates.{keeps, other_given, other_key, other_links, other_state, other_wanted, own_links}
use Rattle.host_states.proofs.small.Small.{IsRooted}
use Rattle.dangling_keys.proofs.failing.Actor.{HasFlagLinks, HasOwnLinks, actor_holds, actor_rooted, link_by}

-- pairs of the given entities of each set are pairs of given entities
pairs_of_given : (R : Entity → Entity → Type 0) (given : List Placed) → ((u : SetId) → AllPairs R (given_in given u)) → AllPairs (λ x y. x.set ≡ y.set → R x.entity y.entity) given
pairs_of_given R [] each = λ i j d below within. absurd (omega (arith, within))
pairs_of_given R (x ∷ rest) each =
    AllPairs-cons (λ one other. one.set ≡ other.set → R one.entity other.entity) x rest
    (all_from_members (λ (y : Placed). x.set ≡ y.set → R x.entity y.entity) rest (λ y has same_set.
    All-contains (R x.entity) (given_in rest x.set) y.entity (pairs_head R x.entity (given_in rest x.set) own)
    (subst (λ u. Contains (given_in rest u) y.entity) (sym same_set) (from_given rest y has))))
    (pairs_of_given R rest tail)
  where
    own : AllPairs R (x.entity ∷ given_in rest x.set)
    own = cond_both (x.set.index == x.set.index) (x ∷ filter (λ placed. placed.set.index == x.set.index) rest) (filter (λ placed. placed.set.index == x.set.index) rest)
        (λ list. AllPairs R (map (λ placed. placed.entity) list) → AllPairs R (x.entity ∷ given_in rest x.set))
        (λ told pairs. pairs)
        (λ told. absurd (never told)) (each x.set)
      where
        never : (x.set.index == x.set.index) ≡ false → ⊥
        never told = let yes_ : (x.set.index == x.set.index) ≡ true = (Decides-set x.set x.set).1 refl in absurd (let both : true ≡ false = sym yes_ ∙ told in cc)

    tail : (u : SetId) → AllPairs R (given_in rest u)
    tail u = cond_both (x.set.index == u.index) (x ∷ filter (λ placed. placed.set.index == u.index) rest) (filter (λ placed. placed.set.index == u.index) rest)
        (λ list. AllPairs R (map (λ placed. placed.entity) list) → AllPairs R (given_in rest u))
        (λ told pairs. pairs_tail R x.entity (given_in rest u) pairs)
        (λ told pairs. pairs) (each u)

module _ (basis : Basis) (outer : ℕ) (region : Region) (of : HasRegion basis outer region.set region) (values : Valuation) (allowed : IsAllowed basis region values)
    (short : (p : PropId) → Contains (props_of basis.schema.model region.ty) p → IsDependent basis.schema.model p → values.prop p ≢ Null → IsShort (values.prop p)) where
  abbrev model : EntityModel
  model = basis.schema.model

  abbrev p_entity : Entity
  p_entity = focus_entity basis region values

  abbrev K : List Value
  K = other_key basis outer region values

  -- each property may hold its value
  allows : (p : PropId) (declared : Prop) → HasProp model p_entity p declared → Allows declared (value_of model p_entity p)
  allows p declared of_type = carried basis region values p of_type.among (Allows declared) (allowed.props p declared of_type.among of_type.is_declared)

  pub other_well : StandsWell model region.set p_entity
  other_well =
      let set = in_set basis outer region.set region of in
      let type = (type_fits basis of.is region.set region of.listed set.0 set.1).0 in
      record {
        is_entity = (
          type.0,
          type.1,
          length-map (props_of model region.ty) values.prop ∙ ap (λ found. length (option_map_or (λ (one : EntityType). one.props) found [])) type.1,
        );
        fits = λ one here. (let both = type_fits basis of.is region.set region of.listed one here in record { concrete = both.0; under = both.1 });
        nulls = λ p declared of_type null. ⊎_elim
            (λ told. told.1)
            (λ (domain : InDomain (value_of model p_entity p) declared.kind). absurd (domain_not_null (value_of model p_entity p) declared.kind domain null))
            (allows p declared of_type);
        domains = λ p declared of_type. ⊎_elim
            (λ told. inl told.0)
            (λ (domain : InDomain (value_of model p_entity p) declared.kind). inr domain)
            (allows p declared of_type);
      }

  dependent_short : (assoc : Assoc) (constraint : Constraint) → Contains model.assocs assoc → assoc.constraint ≡ Some constraint → IsA model region.ty (dependent_end assoc constraint).ty
      → (d : PropId) → Contains constraint.dependent d → value_of model p_entity d ≢ Null → IsShortFor model d (value_of model p_entity d)
  dependent_short assoc constraint is_assoc constrained covers d among there =
      let lists : HasMatchedLists model assoc constraint = (sound_constraint model of.is.sound.model assoc constraint is_assoc constrained).lists in
      let of_type : Contains (props_of model region.ty) d = inherits_prop model of.is.sound.model d region.ty (dependent_end assoc constraint).ty covers
      (All-contains (Contains (props_of model (dependent_end assoc constraint).ty)) constraint.dependent d lists.dependent among) in
      let declared = declared_above model of.is.sound.model d region.ty of_type in
      let by = is_dependent_by model of.is.sound.model assoc constraint is_assoc constrained d among in
      let value_is = has_value basis region values d of_type in
      record {
        declared = declared.0;
        is_declared = declared.1;
        short = subst IsShort (sym value_is) (short d of_type by (λ null. there (value_is ∙ null)));
        of_sort = ⊎_elim
            (λ told. absurd (there told.0))
            (λ (domain : InDomain (value_of model p_entity d) declared.0.kind). domain_sort declared.0.kind (value_of model p_entity d) domain)
            (allows d declared.0 (record { among = of_type; is_declared = declared.1 }));
      }

  other_principals : (to : PlacedKey) → Contains (principals model region.set p_entity) to → HasShortParts model to.set to.key
  other_principals to asked =
      let asks : AsksFor model region.set p_entity to = asked_of model of.is.sound.model region.set p_entity to asked in
      let P : PlacedKey → Type 0 = λ one. HasShortParts model one.set one.key in
      subst P (sym asks.is)
      (principal_short model outer (numbers basis outer region.set region of) asks.assoc asks.constraint asks.is_assoc asks.constrained p_entity
      (λ d among. dependent_short asks.assoc asks.constraint asks.is_assoc asks.constrained asks.covers d among
      (All-contains (λ (v : Value). v ≢ Null) (values_of model p_entity asks.constraint.dependent) (value_of model p_entity d) asks.there
      (contains_map (value_of model p_entity) asks.constraint.dependent d among))))

  module _ (not_numbered : IsNotNumbered basis.schema.model outer region.set (other_key basis outer region values))
      (far_numbered : (host : Host) (assoc : Assoc) → IsLinkedHost basis region.set region host assoc
      → told_key basis values host assoc ≡ numbered_key basis.schema.model outer (partner_end host.first_hosts assoc).set (end_number (not host.first_hosts) host.assoc))
      (given : List Placed) (first_given : AreGiven basis.schema.model outer given)
      (first_short : (placed : Placed) → Contains given placed → (to : PlacedKey) → Contains (principals basis.schema.model placed.set placed.entity) to → HasShortParts basis.schema.model to.set to.key) where
    abbrev pub all_given : List Placed
    all_given = other_given basis outer region values given

    -- an entity that isn't kept has the key and the set
    pub kept_or_not : (placed : Placed) → (keeps basis outer region values placed ≡ true) ⊎ ((placed.set ≡ region.set) × (key_of model placed.entity ≡ K))
    kept_or_not placed = by ((placed.set.index == region.set.index) && same_key (key_of model placed.entity) K) refl
      where
        by : (b : Bool) → ((placed.set.index == region.set.index) && same_key (key_of model placed.entity) K) ≡ b → (not b ≡ true) ⊎ ((placed.set ≡ region.set) × (key_of model placed.entity ≡ K))
        by false told = inl refl
        by true told = inr (both told)
          where
            both : ((placed.set.index == region.set.index) && same_key (key_of model placed.entity) K) ≡ true → (placed.set ≡ region.set) × (key_of model placed.entity ≡ K)
            both so = let parts = and_parts (placed.set.index == region.set.index) (same_key (key_of model placed.entity) K) so in
                ((Decides-set placed.set region.set).0 parts.0, (Decides-key (key_of model placed.entity) K).0 parts.1)

    -- one that is kept has another key, or another set
    kept_apart : (placed : Placed) → keeps basis outer region values placed ≡ true → placed.set ≡ region.set → key_of model placed.entity ≢ K
    kept_apart placed kept same_set same_key_ =
        let both : ((placed.set.index == region.set.index) && same_key (key_of model placed.entity) K) ≡ true =
        λ k. ((Decides-set placed.set region.set).1 same_set) k && ((Decides-key (key_of model placed.entity) K).1 same_key_) k in
        true≢false (sym kept ∙ ap not both)

    -- a given entity is this one, or one that is kept
    pub given_cases : (placed : Placed) → Contains all_given placed → (placed ≡ focus basis region values) ⊎ (Contains given placed × (keeps basis outer region values placed ≡ true))
    given_cases placed there = ⊎_elim
        (λ (is : placed ≡ focus basis region values). inl is)
        (λ (later : Contains (filter (keeps basis outer region values) given) placed). inr (filter_contains (keeps basis outer region values) given placed later))
        (contains_cons_cases (focus basis region values) (filter (keeps basis outer region values) given) placed there)

    pub kept_given : (placed : Placed) → Contains given placed → keeps basis outer region values placed ≡ true → Contains all_given placed
    kept_given placed there kept = contains_tail (focus basis region values) (filter (keeps basis outer region values) given) placed (contains_filter (keeps basis outer region values) given placed there kept)

    abbrev Differ : Placed → Placed → Type 0
    Differ x y = x.set ≡ y.set → key_of model x.entity ≢ key_of model y.entity

    pub other_given_well : AreGiven model outer all_given
    other_given_well = record {
      well = λ v entity there. (let found = given_from all_given v entity there in
          subst (StandsWell model v) found.3 (subst (λ u. StandsWell model u found.0.entity) found.2 (well found.0 (given_cases found.0 found.1))));
      apart = given_pairs (λ x y. key_of model x ≢ key_of model y) all_given
          (AllPairs-cons Differ (focus basis region values) (filter (keeps basis outer region values) given)
          (all_from_members (Differ (focus basis region values)) (filter (keeps basis outer region values) given) (λ placed there same_set same_keys.
          (let kept = filter_contains (keeps basis outer region values) given placed there in kept_apart placed kept.1 (sym same_set) (sym same_keys))))
          (AllPairs-filter Differ (keeps basis outer region values) given (pairs_of_given (λ x y. key_of model x ≢ key_of model y) given first_given.apart)));
      not_numbered = λ v entity there number below equal. (let found = given_from all_given v entity there in
          apart_from found.0 (given_cases found.0 found.1) number below (ap (key_of model) found.3 ∙ equal ∙ ap (λ u. numbered_key model outer u number) (sym found.2)));
    }
      where
        well : (placed : Placed) → (placed ≡ focus basis region values) ⊎ (Contains given placed × (keeps basis outer region values placed ≡ true)) → StandsWell model placed.set placed.entity
        well placed (inl is) = subst (λ (one : Placed). StandsWell model one.set one.entity) (sym is) other_well
        well placed (inr kept) = first_given.well placed.set placed.entity (from_given given placed kept.0)

        apart_from : (placed : Placed) → (placed ≡ focus basis region values) ⊎ (Contains given placed × (keeps basis outer region values placed ≡ true))
            → IsNotNumbered model outer placed.set (key_of model placed.entity)
        apart_from placed (inl is) = subst (λ (one : Placed). IsNotNumbered model outer one.set (key_of model one.entity)) (sym is) not_numbered
        apart_from placed (inr kept) = first_given.not_numbered placed.set placed.entity (from_given given placed kept.0)

    abbrev pub wanted : List PlacedKey
    wanted = other_wanted basis outer region values given

    abbrev pub keys : List PlacedKey
    keys = support model outer all_given wanted

    are_wanted : AreWanted model all_given wanted
    are_wanted = record {
      short = λ to there. (let found = in_flat_map (λ (placed : Placed). principals model placed.set placed.entity) all_given to there in
          short_of found.0 (given_cases found.0 found.1) to found.2);
      of_given = λ u one there to asked. (let found = given_from all_given u one there in
          contains_flat_map (λ (placed : Placed). principals model placed.set placed.entity) all_given found.0 to found.1
          (subst (λ e. Contains (principals model found.0.set e) to) (sym found.3) (subst (λ v. Contains (principals model v one) to) (sym found.2) asked)));
    }
      where
        short_of : (placed : Placed) → (placed ≡ focus basis region values) ⊎ (Contains given placed × (keeps basis outer region values placed ≡ true)) → (to : PlacedKey)
            → Contains (principals model placed.set placed.entity) to → HasShortParts model to.set to.key
        short_of placed (inl is) to asked = other_principals to (subst (λ (one : Placed). Contains (principals model one.set one.entity) to) is asked)
        short_of placed (inr kept) to asked = first_short placed kept.0 to asked

    -- what it asks for has short keys
    pub other_short_wanted : (to : PlacedKey) → Contains wanted to → HasShortParts model to.set to.key
    other_short_wanted = are_wanted.short

    pub other_keys_well : AreKeys model outer all_given keys
    other_keys_well = support_fits model outer (numbers basis outer region.set region of) all_given wanted other_given_well are_wanted

    abbrev Stands : End → List Value → Type 0
    Stands end key = StandsAtEnd model outer all_given keys end key

    -- a given entity stands at an end that it fits
    given_at : (placed : Placed) → Contains all_given placed → (set : EntitySet) → At model.sets placed.set.index set → (end : End) → placed.set ≡ end.set → IsA model placed.entity.ty end.ty
        → Stands end (key_of model placed.entity)
    given_at placed there set here end same_set fits =
        some_member (λ e. IsA model e.ty end.ty × (key_of model e ≡ key_of model placed.entity)) (stands_in model outer all_given keys end.set) placed.entity
        (subst (λ v. Contains (stands_in model outer all_given keys v) placed.entity) same_set
        (given_stands model outer all_given keys placed.set set here placed.entity (from_given all_given placed there))) (fits, refl)

    -- a link of the entity is that to a partner
    pub record IsOwnLink (placed : PlacedLink) : Type 0 where
      pub host : Host
      pub assoc : Assoc
      pub by : IsLinkedHost basis region.set region host assoc
      pub is : placed ≡ link_to basis region values host assoc

    pub own_link : (placed : PlacedLink) → Contains (own_links basis outer region values) placed → IsOwnLink placed
    own_link placed has =
        let found = in_flat_map (by_assoc basis (link_to basis region values)) (linked_hosts basis region) placed has in
        let told = from_assoc basis (link_to basis region values) found.0 placed found.2 in
        let linked = linked_is basis of.is region.set region of.listed found.0 found.1 in
        record { host = found.0; assoc = told.0; by = record { hosts = linked.0; linked = linked.1; is_assoc = told.1 }; is = told.2 }

    pub own_there : (host : Host) (assoc : Assoc) → IsLinkedHost basis region.set region host assoc → Contains (own_links basis outer region values) (link_to basis region values host assoc)
    own_there host assoc by = contains_flat_map (by_assoc basis (link_to basis region values)) (linked_hosts basis region) host (link_to basis region values host assoc)
        (is_linked_host basis of.is region.set region of.listed host by.hosts by.linked) (to_assoc basis (link_to basis region values) host assoc by.is_assoc)

    -- of one association there is one
    own_once : AllPairs (λ x y. x.assoc.index < y.assoc.index) (own_links basis outer region values)
    own_once = pairs_of_hosts basis (link_to basis region values) (λ x y. x.assoc.index < y.assoc.index) (linked_hosts basis region)
        (linked_order basis of.is region.set region of.listed) (λ host other assoc also has_host has_other here there less. less)

    own_alone : (R : Link → Link → Type 0) (a : AssocId) → AllPairs R (links_of (own_links basis outer region values) a)
    own_alone R a = link_pairs R (own_links basis outer region values) a (λ i j d below within first second.
        let less = own_once i j d below within in
        let same_index = ap (λ (b : AssocId). b.index) (first ∙ sym second) in
        absurd (omega (arith, less, same_index)))

    -- the keys at the ends of such a link
    near_is : (host : Host) (assoc : Assoc) → end_key host.first_hosts (link_by basis region values host assoc) ≡ K
    near_is host assoc = near_key host.first_hosts K (told_key basis values host assoc)

    pub far_is : (host : Host) (assoc : Assoc) → IsLinkedHost basis region.set region host assoc
        → end_key (not host.first_hosts) (link_by basis region values host assoc) ≡ numbered_key model outer (end_of (not host.first_hosts) assoc).set (end_number (not host.first_hosts) host.assoc)
    far_is host assoc by = far_key host.first_hosts K (told_key basis values host assoc) ∙ far_numbered host assoc by
        ∙ ap (λ (end : End). numbered_key model outer end.set (end_number (not host.first_hosts) host.assoc)) (partner_side host.first_hosts assoc)

    -- the entity that has the number of an end stands there
    number_at_end : (a : AssocId) (assoc : Assoc) → At model.assocs a.index assoc → (first : Bool) → Stands (end_of first assoc) (numbered_key model outer (end_of first assoc).set (end_number first a))
    number_at_end a assoc here first =
        let end : End = end_of first assoc in
        let sound = of.is.sound.model in
        let of_end : IsSoundEnd model end = sound_end model sound assoc (contains_at model.assocs a.index assoc here) first in
        let set = of_end.under.0 in
        let number : ℕ = end_number first a in
        let below = end_within model sound a assoc here first in
        some_member (λ entity. IsA model entity.ty end.ty × (key_of model entity ≡ numbered_key model outer end.set number)) (stands_in model outer all_given keys end.set)
        (numbered model outer end.set set number) (number_stands model outer all_given keys end.set set of_end.under.1 number below) (
          subst (λ t. IsA model (first_concrete model t) end.ty) (sym (asked_end model sound a assoc here first set)) (first_is model sound end.ty of_end.concrete).1,
          numbered_has model outer (numbers basis outer region.set region of) end.set set of_end.under.1 number below,
        )

    module _ (links : List PlacedLink) (first_once : (a : AssocId) → AreApart (links_of links a))
        (first_few : (a : AssocId) (assoc : Assoc) → At basis.schema.model.assocs a.index assoc → (side : Bool) → (end_of (not side) assoc).mult ≢ Many
        → AllPairs (λ one two. end_key side one ≢ end_key side two) (links_of links a))
        (ends : (placed : PlacedLink) → Contains links placed → (assoc : Assoc) → At basis.schema.model.assocs placed.assoc.index assoc → (side : Bool)
        → (one : Placed) × Contains given one × (one.set ≡ (end_of side assoc).set) × IsA basis.schema.model one.entity.ty (end_of side assoc).ty × (key_of basis.schema.model one.entity ≡ end_key side placed.link))
        (replaced : (placed : PlacedLink) → Contains links placed → (assoc : Assoc) → At basis.schema.model.assocs placed.assoc.index assoc → (side : Bool)
        → (end_of side assoc).set ≡ region.set → end_key side placed.link ≡ other_key basis outer region values → IsA basis.schema.model region.ty (end_of side assoc).ty)
        (apart_at : (placed : PlacedLink) → Contains links placed → (host : Host) → Contains (basis.hosts region.set) host → host.assoc ≡ placed.assoc
        → end_key host.first_hosts placed.link ≢ other_key basis outer region values) where
      abbrev pub all_links : List PlacedLink
      all_links = other_links basis outer region values links

      links_split : (a : AssocId) → links_of all_links a ≡ links_of links a ++ links_of (own_links basis outer region values) a
      links_split a =
          let test : PlacedLink → Bool = λ placed. placed.assoc.index == a.index in
          ap (map (λ (placed : PlacedLink). placed.link)) (filter-append test links (own_links basis outer region values))
          ∙ map-append (λ (placed : PlacedLink). placed.link) (filter test links) (filter test (own_links basis outer region values))

      pub link_cases : (a : AssocId) (link : Link) → Contains (links_of all_links a) link → Contains (links_of links a) link ⊎ Contains (links_of (own_links basis outer region values) a) link
      link_cases a link has = Contains-append_cases (links_of links a) (links_of (own_links basis outer region values) a) link (subst (λ list. Contains list link) (links_split a) has)

      pub old_link : (a : AssocId) (link : Link) → Contains (links_of links a) link → Contains (links_of all_links a) link
      old_link a link has = subst (λ list. Contains list link) (sym (links_split a)) (Contains-append_left (links_of links a) (links_of (own_links basis outer region values) a) link has)

      new_link : (a : AssocId) (link : Link) → Contains (links_of (own_links basis outer region values) a) link → Contains (links_of all_links a) link
      new_link a link has = subst (λ list. Contains list link) (sym (links_split a)) (Contains-append_right (links_of links a) (links_of (own_links basis outer region values) a) link has)

      -- a given link and one of the entity meet at no end
      never_meet : (a : AssocId) (assoc : Assoc) → At model.assocs a.index assoc → (x y : Link) → Contains (links_of links a) x → Contains (links_of (own_links basis outer region values) a) y → (side : Bool)
          → end_key side x ≢ end_key side y
      never_meet a assoc here x y has_x has_y side equal =
          let found_x = link_from links a x has_x in
          let found_y = link_from (own_links basis outer region values) a y has_y in
          let own : IsOwnLink found_y.0 = own_link found_y.0 found_y.1 in
          let Of : PlacedLink → Type 0 = λ one. one.assoc ≡ a in
          let same_id : own.host.assoc ≡ a = subst Of own.is found_y.2 in
          let y_is : y ≡ link_by basis region values own.host own.assoc = sym found_y.3 ∙ ap (λ (one : PlacedLink). one.link) own.is in
          let same_assoc : own.assoc ≡ assoc = at_once model.assocs a.index own.assoc assoc (subst (λ (b : AssocId). At model.assocs b.index own.assoc) same_id own.by.is_assoc) here in
          let first = own.host.first_hosts in
          ⊎_elim
          (λ (is : side ≡ first).
          let Meets : Bool → Type 0 = λ b. end_key b x ≡ end_key b y in
          let meets : end_key first x ≡ K = subst Meets is equal ∙ ap (end_key first) y_is ∙ near_is own.host own.assoc in
          apart_at found_x.0 found_x.1 own.host own.by.hosts (same_id ∙ sym found_x.2) (ap (end_key first) found_x.3 ∙ meets))
          (λ (is : side ≡ not first).
          let Meets : Bool → Type 0 = λ b. end_key b x ≡ end_key b y in
          let end : End = end_of (not first) assoc in
          let number = end_number (not first) a in
          let meets : end_key (not first) x ≡ numbered_key model outer end.set number =
          subst Meets is equal ∙ ap (end_key (not first)) y_is ∙ far_is own.host own.assoc own.by
          ∙ ap (λ (one : Assoc). numbered_key model outer (end_of (not first) one).set (end_number (not first) own.host.assoc)) same_assoc
          ∙ ap (λ (b : AssocId). numbered_key model outer end.set (end_number (not first) b)) same_id in
          let here_x : At model.assocs found_x.0.assoc.index assoc = subst (λ (b : AssocId). At model.assocs b.index assoc) (sym found_x.2) here in
          let one = ends found_x.0 found_x.1 assoc here_x (not first) in
          first_given.not_numbered one.0.set one.0.entity (from_given given one.0 one.1) number (end_within model of.is.sound.model a assoc here (not first))
          (one.4 ∙ ap (end_key (not first)) found_x.3 ∙ meets ∙ ap (λ u. numbered_key model outer u number) (sym one.2)))
          (side_cases side first)

      own_assoc : (a : AssocId) (y : Link) → Contains (links_of (own_links basis outer region values) a) y → (assoc : Assoc) × At model.assocs a.index assoc
      own_assoc a y has =
          let found = link_from (own_links basis outer region values) a y has in
          let own : IsOwnLink found.0 = own_link found.0 found.1 in
          let Of : PlacedLink → Type 0 = λ one. one.assoc ≡ a in
          (own.assoc, subst (λ (b : AssocId). At model.assocs b.index own.assoc) (subst Of own.is found.2) own.by.is_assoc)

      cross : (a : AssocId) (R : Link → Link → Type 0) → ((x y : Link) → ((side : Bool) → end_key side x ≢ end_key side y) → R x y) → AllPairs R (links_of links a) → AllPairs R (links_of all_links a)
      cross a R meet pairs = subst (AllPairs R) (sym (links_split a))
          (apart-append R (links_of links a) (links_of (own_links basis outer region values) a) pairs (own_alone R a)
          (all_from_members (λ (x : Link). All (R x) (links_of (own_links basis outer region values) a)) (links_of links a) (λ x has_x.
          all_from_members (R x) (links_of (own_links basis outer region values) a) (λ y has_y.
          (let at = own_assoc a y has_y in meet x y (never_meet a at.0 at.1 x y has_x has_y))))))

      -- both ends of each stand
      old_end : (placed : PlacedLink) → Contains links placed → (assoc : Assoc) → At model.assocs placed.assoc.index assoc → (side : Bool) → Stands (end_of side assoc) (end_key side placed.link)
      old_end placed has assoc here side =
          let end : End = end_of side assoc in
          let one = ends placed has assoc here side in
          let sound : IsSoundEnd model end = sound_end model of.is.sound.model assoc (contains_at model.assocs placed.assoc.index assoc here) side in
          ⊎_elim
          (λ (kept : keeps basis outer region values one.0 ≡ true).
          subst (Stands end) one.4 (given_at one.0 (kept_given one.0 one.1 kept) sound.under.0
          (subst (λ (v : SetId). At model.sets v.index sound.under.0) (sym one.2) sound.under.1) end one.2 one.3))
          (λ (taken : (one.0.set ≡ region.set) × (key_of model one.0.entity ≡ K)).
          let to_end : region.set ≡ end.set = sym taken.0 ∙ one.2 in
          let set = in_set basis outer region.set region of in
          subst (Stands end) (sym taken.1 ∙ one.4) (given_at (focus basis region values) (contains_head (focus basis region values) (filter (keeps basis outer region values) given)) set.0 set.1 end to_end
          (replaced placed has assoc here side (sym to_end) (sym one.4 ∙ taken.1))))
          (kept_or_not one.0)

      new_end : (placed : PlacedLink) → Contains (own_links basis outer region values) placed → (assoc : Assoc) → At model.assocs placed.assoc.index assoc → (side : Bool)
          → Stands (end_of side assoc) (end_key side placed.link)
      new_end placed has assoc here side =
          let own : IsOwnLink placed = own_link placed has in
          let first = own.host.first_hosts in
          let P : PlacedLink → Type 0 = λ one. At model.assocs one.assoc.index assoc in
          let here_host : At model.assocs own.host.assoc.index assoc = subst P own.is here in
          let same_assoc : own.assoc ≡ assoc = at_once model.assocs own.host.assoc.index own.assoc assoc own.by.is_assoc here_host in
          let by : IsLinkedHost basis region.set region own.host assoc = subst (IsLinkedHost basis region.set region own.host) same_assoc own.by in
          let told : placed.link ≡ link_by basis region values own.host assoc = ap (λ (one : PlacedLink). one.link) own.is ∙ ap (link_by basis region values own.host) same_assoc in
          let set = in_set basis outer region.set region of in
          let near : Stands (end_of first assoc) K = given_at (focus basis region values) (contains_head (focus basis region values) (filter (keeps basis outer region values) given)) set.0 set.1
          (end_of first assoc) (sym (near_set basis of.is region.set region of.listed own.host assoc by)) (near_covers basis of.is region.set region of.listed own.host assoc by) in
          let far = number_at_end own.host.assoc assoc here_host (not first) in
          ⊎_elim
          (λ (is : side ≡ first). subst (λ (b : Bool). Stands (end_of b assoc) (end_key b placed.link)) (sym is)
          (subst (Stands (end_of first assoc)) (sym (ap (end_key first) told ∙ near_is own.host assoc)) near))
          (λ (is : side ≡ not first). subst (λ (b : Bool). Stands (end_of b assoc) (end_key b placed.link)) (sym is)
          (subst (Stands (end_of (not first) assoc)) (sym (ap (end_key (not first)) told ∙ far_is own.host assoc by)) far))
          (side_cases side first)

      pub other_linked : AreLinked model outer all_given keys all_links
      other_linked = record {
        once = λ a. cross a (λ x y. x ≢ y) (λ x y apart same. apart true (ap (end_key true) same)) (first_once a);
        ends = λ a assoc here link has side. (
            let Here : AssocId → Type 0 = λ b. At model.assocs b.index assoc in
            let P : Link → Type 0 = λ l. Stands (end_of side assoc) (end_key side l) in
            ⊎_elim
            (λ (old : Contains (links_of links a) link). let found = link_from links a link old in
            subst P found.3 (old_end found.0 found.1 assoc (subst Here (sym found.2) here) side))
            (λ (new : Contains (links_of (own_links basis outer region values) a) link). let found = link_from (own_links basis outer region values) a link new in
            subst P found.3 (new_end found.0 found.1 assoc (subst Here (sym found.2) here) side))
            (link_cases a link has));
        few = λ a assoc here side not_many. cross a (λ x y. end_key side x ≢ end_key side y) (λ x y apart. apart side) (first_few a assoc here side not_many);
      }

      own_at : HasOwnLinks basis region.set region values all_links
      own_at host hosted assoc here link has at = ⊎_elim
          (λ (old : Contains (links_of links host.assoc) link). let found = link_from links host.assoc link old in
          absurd (apart_at found.0 found.1 host hosted (sym found.2) (ap (end_key host.first_hosts) found.3 ∙ at)))
          (λ (new : Contains (links_of (own_links basis outer region values) host.assoc) link).
          let found = link_from (own_links basis outer region values) host.assoc link new in
          let own : IsOwnLink found.0 = own_link found.0 found.1 in
          let Of : PlacedLink → Type 0 = λ one. one.assoc ≡ host.assoc in
          let same_id : own.host.assoc ≡ host.assoc = subst Of own.is found.2 in
          let same_host : own.host ≡ host = one_host (basis.hosts region.set) (of.is.order region.set) own.host host own.by.hosts hosted same_id in
          let same_assoc : own.assoc ≡ assoc = at_once model.assocs host.assoc.index own.assoc assoc (subst (λ (h : Host). At model.assocs h.assoc.index own.assoc) same_host own.by.is_assoc) here in (
            subst (λ (h : Host). Contains region.linked h.assoc) same_host own.by.linked,
            sym found.3 ∙ ap (λ (one : PlacedLink). one.link) own.is ∙ ap (λ (h : Host). link_by basis region values h own.assoc) same_host ∙ ap (link_by basis region values host) same_assoc,
          ))
          (link_cases host.assoc link has)

      flags_at : HasFlagLinks basis region.set region values all_links
      flags_at host hosted linked assoc here =
          new_link host.assoc (link_by basis region values host assoc)
          (from_link (own_links basis outer region values) (link_to basis region values host assoc) (own_there host assoc (record { hosts = hosted; linked = linked; is_assoc = here })))

      -- the state holds the entity, with its partners
      pub other_holds : HoldsFocus basis region values (other_state basis outer region values given links)
      other_holds = actor_holds basis outer region.set region of values all_given keys all_links other_given_well other_keys_well other_linked
          (from_given all_given (focus basis region values) (contains_head (focus basis region values) (filter (keeps basis outer region values) given))) own_at flags_at

      -- and roots that hold its key and those of its partners name both ends of its links
      pub other_rooted : (roots : List PlacedKey) → Contains roots (record { set = region.set; key = K })
          → ((host : Host) (assoc : Assoc) → IsLinkedHost basis region.set region host assoc
          → Contains roots (record { set = (end_of (not host.first_hosts) assoc).set; key = told_key basis values host assoc }))
          → IsRooted basis roots (other_state basis outer region values given links) region values
      other_rooted = actor_rooted basis outer region.set region of values all_given keys all_links other_given_well other_keys_well other_linked
          (from_given all_given (focus basis region values) (contains_head (focus basis region values) (filter (keeps basis outer region values) given))) own_at flags_at
