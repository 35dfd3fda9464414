-- The links of an entity of a region by hosted associations with few partners alone: the region holds it with them, and no others name it but those that ends `1` ask of it.
use Rattle.std.proofs.Common.{◌≡◌, ◌≢◌, ◌⊎◌, ⊎_elim, inl, inr, ℕ, List, [], ◌++◌, Any, Contains, Bool, true, false, true≢false, not, if◌then◌else◌, Option, Some, None, refl, sym, ap, subst, ◌∙◌}
use Rattle.std.specs.Option.{option_map_or}
use Rattle.std.proofs.lemmas.List.Elements.{Contains-append_cases}
use Rattle.emc_base.proofs.FoundItems.{member_of, some_member}
use Rattle.emc_base.proofs.Lists.{all_from_members}
use Rattle.emc_base.proofs.Mapped.{contains_at, contains_filter}
use Rattle.emc_base.proofs.Members.{contains_nil}
use Rattle.round_trip.specs.Words.{SetId, AssocId, Value, Assoc, Constraint, End, Entity, Hosted, Link, Mult, State, At, IsA, IsIndependent, key_of, links_in}
use Rattle.edm_types.specs.declared.model.Mult.TheVariants.{One, ZeroOrOne, Many}
use Rattle.schema_laws.proofs.sound_demand.Deriving.{decides_types}
use Rattle.schema_laws.proofs.state_demand.lists.Lists.{same_by_key}
use Rattle.schema_laws.proofs.state_demand.writings.Decisions.{so_or_not}
use Rattle.regions.specs.declared.region.Region.{Region}
use Rattle.regions.specs.Basis.{Basis, Host, IsHostedLink, partner_end, partner_key}
use Rattle.regions.specs.Patterns.{Valuation}
use Rattle.regions.specs.Regions.{TellsLinks}
use Rattle.regions.specs.Symbols.{is_linked}
use Rattle.regions.specs.region_laws.IsBasis.{AreHostedLinks, IsHostOf}
use Rattle.regions.specs.region_laws.RegionAt.{hosted_links}
use Rattle.regions.proofs.region_laws.entities.Hosting.{hosted_are}
use Rattle.regions.proofs.region_laws.listing.Listed.{set_is}
use Rattle.regions.proofs.region_laws.listing.Possible.{must_link}
use Rattle.regions.proofs.region_laws.pattern.symbols.Origins.{linked_decided}
use Rattle.region_states.specs.Entities.{focus_entity}
use Rattle.regions.specs.region_laws.Held.{IsOfRegion}
use Rattle.region_states.proofs.Entities.{atoms_lie}
use Rattle.population.specs.Given.{HasNumbers}
use Rattle.population.specs.Numbered.{end_number, end_of, numbered_key}
use Rattle.population.specs.declared.placed.PlacedKey.{PlacedKey}
use Rattle.population.specs.Support.{support}
use Rattle.population.specs.Supported.{added_at, all_links, end_key, is_none, links_of, stands_in}
use Rattle.population.specs.declared.placed.Placed.{Placed}
use Rattle.population.specs.declared.placed.PlacedLink.{PlacedLink}
use Rattle.population.proofs.supporting.Ends.{link_from}
use Rattle.population.proofs.supporting.Entities.{differ, links_are}
use Rattle.population.proofs.supporting.Links.{IsAdded, added_far, added_near, covered, far_key, is_added, linked_is, near_key, none_own}
use Rattle.population.proofs.plain.Numbered.{end_within, sound_end}
use Rattle.host_states.specs.BaseStates.{IsAskedLink, IsOwnLink, NoOtherLink}
use Rattle.region_states.specs.conflicts.Facts.{is_many}
use Rattle.host_states.specs.FocusStates.{few_hosts, given_by, has_few, link_to, linked_hosts, links_by, state_by, told_key, wanted_by}
use Rattle.host_states.proofs.bases.Clear.{IsClear, number_clear}
use Rattle.host_states.proofs.focus.Focus.{IsMade, in_set, numbers}
use Rattle.host_states.proofs.focus.FocusHeld.{link_stands, none_but_asked, one_not_free, the_link}
use Rattle.host_states.proofs.focus.FocusLinks.{IsGivenLink, focus_stands, focus_there, given_link, given_well, keys_well, link_there, links_well, side_cases}
use Rattle.host_states.proofs.focus.HostEnds.{IsLinkedHost, few_is, host_side, is_linked_host, partner_side}
use Rattle.host_states.proofs.bases.Refers.{HasFreeValues, never_clear, partner_clear}

-- a multiplicity that isn't `*`
few_told : (mult : Mult) → not (is_many mult) ≡ true → mult ≢ Many
few_told One told never = let nothing : One ≡ Many = never in cc
few_told ZeroOrOne told never = let nothing : ZeroOrOne ≡ Many = never in cc
few_told Many told never = absurd (true≢false (sym told))

told_few : (mult : Mult) → mult ≢ Many → not (is_many mult) ≡ true
told_few One few = refl
told_few ZeroOrOne few = refl
told_few Many few = absurd (few refl)

module _ (basis : Basis) (host : Host) (assoc : Assoc) (here : At basis.schema.model.assocs host.assoc.index assoc) where
  has_few_is : has_few basis host ≡ not (is_many (partner_end host.first_hosts assoc).mult)
  has_few_is = ap (λ found. option_map_or (λ (one : Assoc). not (is_many (partner_end host.first_hosts one).mult)) found false) here

  few_from : has_few basis host ≡ true → (partner_end host.first_hosts assoc).mult ≢ Many
  few_from told = few_told (partner_end host.first_hosts assoc).mult (sym has_few_is ∙ told)

  few_to : (partner_end host.first_hosts assoc).mult ≢ Many → has_few basis host ≡ true
  few_to few = has_few_is ∙ told_few (partner_end host.first_hosts assoc).mult few

module _ (basis : Basis) (outer : ℕ) (s : SetId) (region : Region) (values : Valuation)
    (made : IsMade basis outer s region values (few_hosts basis region) (wanted_by basis outer (given_by basis outer (few_hosts basis region) region values)))
    (free : HasFreeValues basis outer region values) where
  abbrev hosts : List Host
  hosts = few_hosts basis region

  abbrev given : List Placed
  given = given_by basis outer hosts region values

  abbrev wanted : List PlacedKey
  wanted = wanted_by basis outer given

  abbrev keys : List PlacedKey
  keys = support basis.schema.model outer given wanted

  abbrev links : List PlacedLink
  links = links_by basis region values hosts

  abbrev state : State
  state = state_by basis outer hosts wanted region values

  abbrev entity : Entity
  entity = focus_entity basis region values

  abbrev key : List Value
  key = key_of basis.schema.model entity

  has : HasNumbers basis.schema.model outer
  has = numbers basis outer s region made.of

  -- those by which few partners are linked
  is_few : (host : Host) → Contains (basis.hosts s) host → Contains region.linked host.assoc → (assoc : Assoc) → At basis.schema.model.assocs host.assoc.index assoc
      → (partner_end host.first_hosts assoc).mult ≢ Many → Contains hosts host
  is_few host hosted linked assoc here few =
      contains_filter (has_few basis) (linked_hosts basis region) host (is_linked_host basis made.of.is s region made.of.listed host hosted linked) (few_to basis host assoc here few)

  -- an end that hosts, and whose partner's end is `1`, has a link
  one_linked : (host : Host) → Contains (basis.hosts s) host → (assoc : Assoc) → At basis.schema.model.assocs host.assoc.index assoc
      → (end_of (not host.first_hosts) assoc).mult ≡ One → IsA basis.schema.model region.ty (end_of host.first_hosts assoc).ty → Contains region.linked host.assoc
  one_linked host hosted assoc here far_one under =
      must_link basis made.of.is s region made.of.listed (record { host = host; hosts = hosted; assoc = assoc; is_assoc = here })
      (subst (λ (end : End). IsA basis.schema.model region.ty end.ty) (sym (host_side host.first_hosts assoc)) under)
      (λ free_one. one_not_free (sym far_one ∙ ap (λ (end : End). end.mult) (sym (partner_side host.first_hosts assoc)) ∙ free_one))

  -- the links that the entity hosts
  abbrev hosted_here : List Hosted
  hosted_here = hosted_links basis state s key

  are_hosted : AreHostedLinks basis state s entity hosted_here
  are_hosted = hosted_are basis state s entity

  -- a flag of few partners tells of one, and each tells of a flag
  flag_there : (host : Host) → Contains (basis.hosts s) host → (assoc : Assoc) → At basis.schema.model.assocs host.assoc.index assoc → (partner_end host.first_hosts assoc).mult ≢ Many
      → Contains region.linked host.assoc → Any (λ hosted. hosted.assoc ≡ host.assoc) hosted_here
  flag_there host hosted assoc here few linked =
      let link : Link = the_link basis outer s region values hosts wanted made host hosted assoc here in
      let stands = link_stands basis outer s region values hosts wanted made host hosted assoc here (is_few host hosted linked assoc here few) in
      let seen : Hosted = record { assoc = host.assoc; partner = partner_key host.first_hosts link } in
      some_member (λ (one : Hosted). one.assoc ≡ host.assoc) hosted_here seen
      ((are_hosted.tells seen).1 (record { host = host; link = link; is_host = hosted; stands = stands.0; at_key = stands.1; seen = refl })) refl

  hosted_linked : (hosted : Hosted) → IsHostedLink state (basis.hosts s) key hosted → Contains region.linked hosted.assoc
  hosted_linked hosted by = subst (Contains region.linked) (sym (ap (λ (one : Hosted). one.assoc) by.seen)) (⊎_elim
      (λ (linked : Contains region.linked by.host.assoc). linked)
      (λ (not_linked : ¬ Contains region.linked by.host.assoc).
      let of : IsHostOf basis.schema s by.host = (made.of.is.hosts s by.host).0 by.is_host in
      let told = none_but_asked basis outer s region values hosts wanted made by.host by.is_host of.assoc of.is_assoc (λ there. not_linked (made.each by.host there).1) by.link by.stands by.at_key in
      one_linked by.host by.is_host of.assoc of.is_assoc told.0 told.1)
      (so_or_not (is_linked basis region.linked by.host.assoc) (linked_decided basis region.linked by.host.assoc)))

  flag_back : (host : Host) → Any (λ hosted. hosted.assoc ≡ host.assoc) hosted_here → Contains region.linked host.assoc
  flag_back host any =
      let found = member_of (λ (one : Hosted). one.assoc ≡ host.assoc) hosted_here any in
      subst (Contains region.linked) found.2 (hosted_linked found.0 ((are_hosted.tells found.0).0 found.1))

  -- so the region holds the entity
  pub of_region : IsOfRegion basis state s entity region
  of_region = record {
    stands = focus_stands basis outer s region values hosts wanted made;
    listed = made.of.listed;
    links = hosted_here;
    hosted = are_hosted;
    holds = record {
      typed = refl;
      atoms = atoms_lie basis made.of.is (record { s = s; region = region; listed = made.of.listed; values = values }) made.admissible.allowed;
      flags = all_from_members (TellsLinks basis region hosted_here) (basis.hosts region.set) (λ host there assoc here few. (
        flag_there host (subst (λ u. Contains (basis.hosts u) host) (set_is basis s region made.of.listed) there) assoc here few,
        flag_back host,
      ));
    };
  }

  -- a link that names the entity
  module _ (a : AssocId) (assoc : Assoc) (here : At basis.schema.model.assocs a.index assoc) (link : Link) (first : Bool) (at_set : (end_of first assoc).set ≡ s)
      (named : end_key first link ≡ key) where
    abbrev own : List Link
    own = links_of links a

    abbrev Added : Bool → Link → Type 0
    Added side one = IsAdded basis.schema.model outer given keys a assoc own side one

    abbrev more : Bool → List Link
    more side = added_at basis.schema.model outer given keys side a assoc own

    -- it is its own, or asked of it
    abbrev IsTold : Type 0
    IsTold = IsOwnLink basis s region a first ⊎ IsAskedLink basis s entity a first assoc

    -- a given one is its own
    from_own : Contains own link → IsTold
    from_own there =
        let found = link_from links a link there in
        let by : IsGivenLink basis outer s region values hosts wanted made found.0 = given_link basis outer s region values hosts wanted made found.0 found.1 in
        let host : Host = by.host in
        let told = made.each host by.there in
        let few = few_is basis made.of.is s region made.of.listed host by.there in
        let same_id : host.assoc ≡ a = sym (ap (λ (one : PlacedLink). one.assoc) by.is) ∙ found.2 in
        let is : link ≡ (link_to basis region values host by.assoc).link = sym found.3 ∙ ap (λ (one : PlacedLink). one.link) by.is in
        let Few : AssocId → Type 0 = λ b. (one : Assoc) → At basis.schema.model.assocs b.index one → (partner_end host.first_hosts one).mult ≢ Many in
        ⊎_elim
        (λ (near : first ≡ host.first_hosts). inl (record {
          host = host;
          is_host = told.0;
          of_assoc = same_id;
          at_first = sym near;
          linked = subst (Contains region.linked) same_id told.1;
          few = subst Few same_id (λ one there_one. few_from basis host one there_one few.1);
        }))
        (λ (far : first ≡ not host.first_hosts).
        let by_host : IsLinkedHost basis s region host by.assoc = record { hosts = told.0; linked = told.1; is_assoc = by.here } in
        let equal : told_key basis values host by.assoc ≡ key =
        sym (far_key host.first_hosts key (told_key basis values host by.assoc)) ∙ ap (end_key (not host.first_hosts)) (sym is) ∙ ap (λ b. end_key b link) (sym far) ∙ named in
        absurd (never_clear basis outer s region values hosts made free
        (subst (IsClear key) equal (partner_clear basis outer s region values hosts made free host by.assoc by_host))))
        (side_cases first host.first_hosts)

    module _ (independent : IsIndependent assoc) where
      -- one that is added is asked of it
      from_added : (side : Bool) → Added side link → IsTold
      from_added side by = ⊎_elim (λ near. inr (asked near)) (λ far. absurd (never far)) (side_cases first side)
        where
          never : first ≡ not side → ⊥
          never far =
              let sound = sound_end basis.schema.model made.of.is.sound.model assoc (contains_at basis.schema.model.assocs a.index assoc here) (not side) in
              let told = added_far basis.schema.model outer has given keys (given_well basis outer s region values hosts wanted made) (keys_well basis outer s region values hosts wanted made)
              links (links_well basis outer s region values hosts wanted made) a assoc here independent side link by in
              let equal : numbered_key basis.schema.model outer (end_of (not side) assoc).set (end_number (not side) a) ≡ key = sym told ∙ ap (λ b. end_key b link) (sym far) ∙ named in
              never_clear basis outer s region values hosts made free
              (subst (IsClear key) equal
              (number_clear basis.schema.model outer has key free.outer_key (end_of (not side) assoc).set sound.under.0 sound.under.1 (end_number (not side) a)
              (end_within basis.schema.model made.of.is.sound.model a assoc here (not side))))

          asked : first ≡ side → IsAskedLink basis s entity a first assoc
          asked near =
              let set = in_set basis outer s region made.of in
              let at : (end_of side assoc).set ≡ s = ap (λ b. (end_of b assoc).set) (sym near) ∙ at_set in
              let stands : Contains (stands_in basis.schema.model outer given keys s) by.entity =
              subst (λ u. Contains (stands_in basis.schema.model outer given keys u) by.entity) at by.stands in
              let told = added_near basis.schema.model outer has given keys (given_well basis outer s region values hosts wanted made) (keys_well basis outer s region values hosts wanted made)
              links (links_well basis outer s region values hosts wanted made) a assoc here independent side link by in
              let one_key : key_of basis.schema.model by.entity ≡ key = sym told ∙ ap (λ b. end_key b link) (sym near) ∙ named in
              let is : by.entity ≡ entity = same_by_key (key_of basis.schema.model) (stands_in basis.schema.model outer given keys s) by.entity entity
              (differ basis.schema.model outer has given keys (given_well basis outer s region values hosts wanted made) (keys_well basis outer s region values hosts wanted made) s set.0 set.1)
              stands (focus_there basis outer s region values hosts wanted made) one_key in
              let covers : IsA basis.schema.model region.ty (end_of side assoc).ty = subst (λ (e : Entity). IsA basis.schema.model e.ty (end_of side assoc).ty) is
              (((decides_types basis.schema.model made.of.is.sound.model).tells by.entity.ty (end_of side assoc).ty).0
              (covered basis.schema.model outer has given keys (given_well basis outer s region values hosts wanted made) (keys_well basis outer s region values hosts wanted made)
              links (links_well basis outer s region values hosts wanted made) a assoc here independent side link by)) in
              subst (λ b. IsAskedLink basis s entity a b assoc) (sym near) (record {
                far_one = by.far_one;
                covers = covers;
                not_host = λ hosted. (
                    let host : Host = record { assoc = a; first_hosts = side } in
                    let linked : Contains region.linked a = one_linked host hosted assoc here by.far_one covers in
                    let few : (partner_end side assoc).mult ≢ Many = λ many. one_not_many (sym by.far_one ∙ ap (λ (end : End). end.mult) (sym (partner_side side assoc)) ∙ many) in
                    let there = is_few host hosted linked assoc here few in
                    let one : Link = (link_to basis region values host assoc).link in
                    none_own basis.schema.model outer has given keys (given_well basis outer s region values hosts wanted made) (keys_well basis outer s region values hosts wanted made)
                    links (links_well basis outer s region values hosts wanted made) a assoc here independent side link by
                    (some_member (λ (other : Link). end_key side other ≡ key_of basis.schema.model by.entity) own one
                    (link_there basis outer s region values hosts wanted made host hosted assoc here there)
                    (near_key side key (told_key basis values host assoc) ∙ sym one_key)));
              })
            where
              one_not_many : One ≡ Many → ⊥
              one_not_many never_ = let nothing : One ≡ Many = never_ in cc

      from_linked : Contains (links_in state a) link → IsTold
      from_linked there = ⊎_elim
          (λ (one : Contains own link). from_own one)
          (λ (rest : Contains (more true ++ more false) link). ⊎_elim
          (λ (one : Contains (more true) link). from_added true (is_added basis.schema.model outer given keys a assoc own true link one))
          (λ (one : Contains (more false) link). from_added false (is_added basis.schema.model outer given keys a assoc own false link one))
          (Contains-append_cases (more true) (more false) link rest))
          (Contains-append_cases own (more true ++ more false) link
          (subst (λ list. Contains list link) (links_are basis.schema.model outer given keys links a ∙ linked_is basis.schema.model outer given keys links a assoc here independent) there))

    -- an association with a constraint has no links
    from_any : Contains (links_in state a) link → IsTold
    from_any there = by assoc.constraint refl
      where
        by : (found : Option Constraint) → assoc.constraint ≡ found → IsTold
        by None independent = from_linked independent there
        by (Some constraint) constrained =
            let none : links_in state a ≡ [] = links_are basis.schema.model outer given keys links a
            ∙ ap (λ found. option_map_or (all_links basis.schema.model outer given keys a own) found []) here
            ∙ ap (λ found. if is_none found then own ++ (more true ++ more false) else []) constrained in
            absurd (contains_nil link (subst (λ list. Contains list link) none there))

  -- is one of its own by few partners, or one that an end `1` asks of it
  pub no_other_link : NoOtherLink basis s region state entity
  no_other_link a assoc here link there first at_set named = from_any a assoc here link first at_set named there
