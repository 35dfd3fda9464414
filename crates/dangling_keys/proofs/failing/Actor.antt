-- An entity of a region in a supported state that has its links, and no other ones at its key: the region holds it, with its partners.
use Rattle.std.proofs.Common.{◌≡◌, ◌≢◌, ◌⊎◌, ⊎_elim, inl, inr, ℕ, ◌<◌, List, [], ◌∷◌, ◌++◌, get_or, Any, Contains, Bool, true, false, not, if◌then◌else◌, sym, ap, subst, ◌∙◌, arith}
use Rattle.std.proofs.lemmas.Bool.{and_parts}
use Rattle.std.proofs.lemmas.List.Elements.{Contains-append_cases, Contains-append_left, Contains-get_or}
use Rattle.emc_base.proofs.FoundItems.{some_member}
use Rattle.emc_base.proofs.Lists.{at_once}
use Rattle.emc_base.proofs.facts.Tests.{not_is}
use Rattle.round_trip.specs.Words.{SetId, PropId, Value, Assoc, End, Entity, Link, State, At, IsA, IsLegal, entities_in, key_of, key_props, links_in, value_beside}
use Rattle.edm_types.specs.declared.model.Mult.TheVariants.{One}
use Rattle.schema_laws.specs.sound_demand.Deriving.{derives}
use Rattle.schema_laws.specs.state_demand.Selecting.{same_key}
use Rattle.schema_laws.proofs.sound_demand.Deriving.{decides_types}
use Rattle.schema_laws.proofs.state_demand.lists.Lists.{same_by_key}
use Rattle.schema_laws.proofs.state_demand.owners.Owners.{beside_map}
use Rattle.schema_laws.proofs.state_demand.writings.Selecting.{Decides-key}
use Rattle.regions.specs.declared.region.Region.{Region}
use Rattle.regions.specs.Basis.{Basis, Host, host_key, partner_end, partner_key}
use Rattle.regions.specs.Patterns.{Valuation}
use Rattle.regions.specs.region_laws.IsBasis.{IsHostOf}
use Rattle.regions.specs.region_laws.Partners.{HasPartners, TellsPartner}
use Rattle.regions.specs.region_laws.RegionAt.{links_at}
use Rattle.regions.proofs.region_laws.entities.Hosting.{at_set, independent}
use Rattle.regions.proofs.region_laws.listing.Possible.{must_link}
use Rattle.regions.proofs.region_laws.lists.Found.{filter_none, filter_one}
use Rattle.region_states.specs.Entities.{focus_entity}
use Rattle.region_states.specs.HoldsFocus.{HoldsFocus}
use Rattle.population.specs.Given.{AreGiven, AreKeys, AreLinked}
use Rattle.population.specs.Kept.{key_at_end}
use Rattle.population.specs.Numbered.{end_number, end_of, number_count, numbered_key}
use Rattle.population.specs.Supported.{added_at, end_key, given_in, links_of, stands_in, supported}
use Rattle.population.specs.declared.placed.Placed.{Placed}
use Rattle.population.specs.declared.placed.PlacedKey.{PlacedKey}
use Rattle.population.specs.declared.placed.PlacedLink.{PlacedLink}
use Rattle.population.proofs.plain.Lists.{most_one}
use Rattle.population.proofs.plain.Numbered.{end_within}
use Rattle.population.proofs.supporting.Entities.{differ, entities_are, given_stands, links_are}
use Rattle.population.proofs.supporting.Legal.{supported_legal}
use Rattle.population.proofs.supporting.Links.{IsAdded, added_far, added_near, far_key, is_added, linked_is, near_key, none_own}
use Rattle.host_states.specs.FocusStates.{link_to, told_key}
use Rattle.host_states.proofs.focus.Focus.{HasRegion, in_set, numbers, region_set}
use Rattle.host_states.proofs.focus.FocusHeld.{one_not_free}
use Rattle.host_states.proofs.focus.FocusLinks.{side_cases}
use Rattle.host_states.proofs.focus.HostEnds.{IsLinkedHost, host_key_is, host_side, near_set, partner_key_is, partner_side, twice_not}
use Rattle.host_states.proofs.small.Small.{IsRooted}

-- the entity's link to a partner
abbrev pub link_by : Basis → Region → Valuation → Host → Assoc → Link
link_by basis region values host assoc = (link_to basis region values host assoc).link

-- of a hosted association, a given link at the entity is its own, to the partner that is told
abbrev pub HasOwnLinks : Basis → SetId → Region → Valuation → List PlacedLink → Type 0
HasOwnLinks basis s region values links = (host : Host) → Contains (basis.hosts s) host → (assoc : Assoc) → At basis.schema.model.assocs host.assoc.index assoc
    → (link : Link) → Contains (links_of links host.assoc) link → end_key host.first_hosts link ≡ key_of basis.schema.model (focus_entity basis region values)
    → Contains region.linked host.assoc × (link ≡ link_by basis region values host assoc)

-- and of each flag it is given
abbrev pub HasFlagLinks : Basis → SetId → Region → Valuation → List PlacedLink → Type 0
HasFlagLinks basis s region values links = (host : Host) → Contains (basis.hosts s) host → Contains region.linked host.assoc → (assoc : Assoc) → At basis.schema.model.assocs host.assoc.index assoc
    → Contains (links_of links host.assoc) (link_by basis region values host assoc)

module _ (basis : Basis) (outer : ℕ) (s : SetId) (region : Region) (of : HasRegion basis outer s region) (values : Valuation) (given : List Placed) (keys : List PlacedKey) (links : List PlacedLink)
    (given_well : AreGiven basis.schema.model outer given) (keys_well : AreKeys basis.schema.model outer given keys) (links_well : AreLinked basis.schema.model outer given keys links)
    (focus_given : Contains (given_in given s) (focus_entity basis region values)) (own_links : HasOwnLinks basis s region values links) (flag_links : HasFlagLinks basis s region values links) where
  abbrev state : State
  state = supported basis.schema.model outer given keys links

  abbrev entity : Entity
  entity = focus_entity basis region values

  abbrev focus_key : List Value
  focus_key = key_of basis.schema.model entity

  legal : IsLegal basis.schema.model state
  legal = supported_legal basis.schema.model outer (numbers basis outer s region of) given keys links given_well keys_well links_well

  focus_there : Contains (stands_in basis.schema.model outer given keys s) entity
  focus_there = let set = in_set basis outer s region of in given_stands basis.schema.model outer given keys s set.0 set.1 entity focus_given

  focus_stands : Contains (entities_in state s) entity
  focus_stands = subst (λ list. Contains list entity) (sym (entities_are basis.schema.model outer given keys links s)) focus_there

  -- a hosted association
  module _ (host : Host) (hosted : Contains (basis.hosts s) host) (assoc : Assoc) (here : At basis.schema.model.assocs host.assoc.index assoc) where
    abbrev first : Bool
    first = host.first_hosts

    abbrev own : List Link
    own = links_of links host.assoc

    -- a link that is added to the given ones
    abbrev Added : Bool → Link → Type 0
    Added side link = IsAdded basis.schema.model outer given keys host.assoc assoc own side link

    -- a link is a given one, or added
    link_cases : (link : Link) → Contains (links_in state host.assoc) link → Contains own link ⊎ (side : Bool) × Added side link
    link_cases link has =
        let more : Bool → List Link = λ side. added_at basis.schema.model outer given keys side host.assoc assoc own in
        ⊎_elim
        (λ (one : Contains own link). inl one)
        (λ (rest : Contains (more true ++ more false) link). ⊎_elim
        (λ (one : Contains (more true) link). inr (true, is_added basis.schema.model outer given keys host.assoc assoc own true link one))
        (λ (one : Contains (more false) link). inr (false, is_added basis.schema.model outer given keys host.assoc assoc own false link one))
        (Contains-append_cases (more true) (more false) link rest))
        (Contains-append_cases own (more true ++ more false) link
        (subst (λ list. Contains list link) (links_are basis.schema.model outer given keys links host.assoc ∙ linked_is basis.schema.model outer given keys links host.assoc assoc here
        (independent basis of.is s host hosted assoc here)) has))

    -- no key of numbers is the entity's
    focus_not_numbered : (number : ℕ) → number < number_count basis.schema.model → (u : SetId) → u ≡ s → focus_key ≢ numbered_key basis.schema.model outer u number
    focus_not_numbered number below u is equal =
        given_well.not_numbered s entity focus_given number below (equal ∙ ap (λ v. numbered_key basis.schema.model outer v number) is)

    -- a link that is added for the partner's end leads to an entity of a number
    not_for_partner : (link : Link) → Added (not first) link → end_key first link ≢ focus_key
    not_for_partner link by equal =
        let end : End = end_of (not (not first)) assoc in
        let far = added_far basis.schema.model outer (numbers basis outer s region of) given keys given_well keys_well links links_well host.assoc assoc here
        (independent basis of.is s host hosted assoc here) (not first) link by in
        let K : Bool → Type 0 = λ b. end_key b link ≡ numbered_key basis.schema.model outer (end_of b assoc).set (end_number b host.assoc) in
        let told : K first = subst K (twice_not first) far in
        focus_not_numbered (end_number first host.assoc) (end_within basis.schema.model of.is.sound.model host.assoc assoc here first) (end_of first assoc).set
        (ap (λ (e : End). e.set) (sym (host_side first assoc)) ∙ at_set basis of.is s host hosted assoc here)
        (sym equal ∙ told)

    -- one that is added for the entity itself is asked by an end `1`, and no given link is its own
    record IsAskedHere (link : Link) : Type 0 where
      far_one : (end_of (not first) assoc).mult ≡ One
      covers : IsA basis.schema.model region.ty (end_of first assoc).ty
      lacks : Any (λ one. end_key first one ≡ focus_key) own → ⊥

    for_focus : (link : Link) → Added first link → end_key first link ≡ focus_key → IsAskedHere link
    for_focus link by equal =
        let independent_ = independent basis of.is s host hosted assoc here in
        let near = added_near basis.schema.model outer (numbers basis outer s region of) given keys given_well keys_well links links_well host.assoc assoc here independent_ first link by in
        let set = in_set basis outer s region of in
        let at : (end_of first assoc).set ≡ s = ap (λ (e : End). e.set) (sym (host_side first assoc)) ∙ at_set basis of.is s host hosted assoc here in
        let stands : Contains (stands_in basis.schema.model outer given keys s) by.entity = subst (λ u. Contains (stands_in basis.schema.model outer given keys u) by.entity) at by.stands in
        let same_key_ : key_of basis.schema.model by.entity ≡ focus_key = sym near ∙ equal in
        let is : by.entity ≡ entity = same_by_key (key_of basis.schema.model) (stands_in basis.schema.model outer given keys s) by.entity entity
        (differ basis.schema.model outer (numbers basis outer s region of) given keys given_well keys_well s set.0 set.1) stands focus_there same_key_ in
        let told = (and_parts (derives basis.schema.model by.entity.ty (end_of first assoc).ty) _ by.lacks).0 in
        record {
          far_one = by.far_one;
          covers = subst (λ (e : Entity). IsA basis.schema.model e.ty (end_of first assoc).ty) is (((decides_types basis.schema.model of.is.sound.model).tells by.entity.ty (end_of first assoc).ty).0 told);
          lacks = λ any. none_own basis.schema.model outer (numbers basis outer s region of) given keys given_well keys_well links links_well host.assoc assoc here independent_ first link by
              (subst (λ key. Any (λ one. end_key first one ≡ key) own) (sym same_key_) any);
        }

    -- a given link stands
    own_stands : (link : Link) → Contains own link → Contains (links_in state host.assoc) link
    own_stands link has =
        subst (λ list. Contains list link)
        (sym (links_are basis.schema.model outer given keys links host.assoc ∙ linked_is basis.schema.model outer given keys links host.assoc assoc here
        (independent basis of.is s host hosted assoc here)))
        (Contains-append_left own (added_at basis.schema.model outer given keys true host.assoc assoc own ++ added_at basis.schema.model outer given keys false host.assoc assoc own) link has)

    abbrev AtEntity : Link → Type 0
    AtEntity link = host_key first link ≡ focus_key

    at_end : (link : Link) → AtEntity link → end_key first link ≡ focus_key
    at_end link at = sym (host_key_is first link) ∙ at

    abbrev the_link : Link
    the_link = link_by basis region values host assoc

    -- a link that is added and stands at the entity is asked by an end `1`, and no given link is its own
    asked : (link : Link) → AtEntity link → (side : Bool) → Added side link
        → ((end_of (not first) assoc).mult ≡ One) × IsA basis.schema.model region.ty (end_of first assoc).ty × (Any (λ one. end_key first one ≡ focus_key) own → ⊥)
    asked link at side by = ⊎_elim
        (λ (is : side ≡ first).
        let told = for_focus link (subst (λ b. Added b link) is by) (at_end link at) in
        (told.far_one, told.covers, told.lacks))
        (λ (is : side ≡ not first).
        absurd (not_for_partner link (subst (λ b. Added b link) is by) (at_end link at)))
        (side_cases side first)

    -- where the association's link is made, it stands
    link_stands : Contains region.linked host.assoc → Contains (links_in state host.assoc) the_link × AtEntity the_link
    link_stands there = (
      own_stands the_link (flag_links host hosted there assoc here),
      host_key_is first the_link ∙ near_key first focus_key (told_key basis values host assoc),
    )

    -- and no other stands at the entity
    link_alone : Contains region.linked host.assoc → (link : Link) → Contains (links_in state host.assoc) link → AtEntity link → link ≡ the_link
    link_alone there link has at = ⊎_elim
        (λ (one : Contains own link). (own_links host hosted assoc here link one (at_end link at)).1)
        (λ (more : (side : Bool) × Added side link).
        absurd ((asked link at more.0 more.1).2 (some_member (λ one. end_key first one ≡ focus_key) own the_link
        (flag_links host hosted there assoc here) (near_key first focus_key (told_key basis values host assoc)))))
        (link_cases link has)

    -- where it isn't made, none stands there but what an end `1` asks for
    none_but_asked : ¬ Contains region.linked host.assoc → (link : Link) → Contains (links_in state host.assoc) link → AtEntity link
        → ((end_of (not first) assoc).mult ≡ One) × IsA basis.schema.model region.ty (end_of first assoc).ty
    none_but_asked not_there link has at = ⊎_elim
        (λ (one : Contains own link). absurd (not_there (own_links host hosted assoc here link one (at_end link at)).0))
        (λ (more : (side : Bool) × Added side link). let told = asked link at more.0 more.1 in (told.0, told.1))
        (link_cases link has)

    -- in all, just this one
    only_link : Contains region.linked host.assoc → links_at state host focus_key ≡ the_link ∷ []
    only_link there =
        let stands = link_stands there in
        filter_one (λ (one : Link). same_key (host_key first one) focus_key) AtEntity (λ one. Decides-key (host_key first one) focus_key) (links_in state host.assoc)
        (most_one AtEntity (links_in state host.assoc) (λ i j d below within at_i at_j.
        (legal.links host.assoc assoc here (independent basis of.is s host hosted assoc here)).once i j d below within
        (link_alone there (get_or (links_in state host.assoc) i d) (Contains-get_or (links_in state host.assoc) i d (omega (arith, below, within))) at_i
        ∙ sym (link_alone there (get_or (links_in state host.assoc) j d) (Contains-get_or (links_in state host.assoc) j d within) at_j))))
        the_link stands.0 stands.1

    -- to the partner that is told
    tells_partner : TellsPartner basis host the_link values.part
    tells_partner other there p part =
        let same_assoc : assoc ≡ other = at_once basis.schema.model.assocs host.assoc.index assoc other here there in
        let parts : List PropId = key_props basis.schema.model (partner_end first assoc).ty in
        let Told : Assoc → Type 0 = λ one. (q : PropId) → Contains (key_props basis.schema.model (partner_end first one).ty) q → values.part host.assoc (if first then false else true) q
        ≡ value_beside q (key_props basis.schema.model (partner_end first one).ty) (partner_key first the_link) in
        let told : Told assoc = λ q among.
        ap (λ b. values.part host.assoc b q) (sym (not_is first)) ∙ sym (beside_map (values.part host.assoc (not first)) parts q among)
        ∙ ap (value_beside q parts) (sym (partner_key_is first the_link ∙ far_key first focus_key (told_key basis values host assoc))) in
        subst Told same_assoc told p part

  held_partners : HasPartners basis state s entity region values.part
  held_partners = record {
    one = λ host hosted linked. (
        let by : IsHostOf basis.schema s host = (of.is.hosts s host).0 hosted in
        (link_by basis region values host by.assoc, only_link host hosted by.assoc by.is_assoc linked, tells_partner host hosted by.assoc by.is_assoc));
    none = λ host hosted not_linked. (
        let by : IsHostOf basis.schema s host = (of.is.hosts s host).0 hosted in
        filter_none (λ (one : Link). same_key (host_key host.first_hosts one) focus_key) (AtEntity host hosted by.assoc by.is_assoc) (λ one. Decides-key (host_key host.first_hosts one) focus_key)
        (links_in state host.assoc) (λ link has at.
        let told = none_but_asked host hosted by.assoc by.is_assoc not_linked link has at in
        not_linked (must_link basis of.is s region of.listed (record { host = host; hosts = hosted; assoc = by.assoc; is_assoc = by.is_assoc })
        (subst (λ (end : End). IsA basis.schema.model region.ty end.ty) (sym (host_side host.first_hosts by.assoc)) told.1)
        (λ free. one_not_free (sym told.0 ∙ ap (λ (end : End). end.mult) (sym (partner_side host.first_hosts by.assoc)) ∙ free)))));
  }

  pub actor_holds : HoldsFocus basis region values state
  actor_holds = record {
    legal = legal;
    stands = subst (λ u. Contains (entities_in state u) entity) (sym (region_set basis outer s region of)) focus_stands;
    partners = subst (λ u. HasPartners basis state u entity region values.part) (sym (region_set basis outer s region of)) held_partners;
  }

  -- roots that hold its key, and that of the partner of each flag, name both ends of its links
  module _ (roots : List PlacedKey) (own_root : Contains roots (record { set = region.set; key = focus_key }))
      (partner_root : (host : Host) (assoc : Assoc) → IsLinkedHost basis s region host assoc → Contains roots (record { set = (end_of (not host.first_hosts) assoc).set; key = told_key basis values host assoc })) where
    module _ (host : Host) (hosted : Contains (basis.hosts s) host) (there : Contains region.linked host.assoc) (assoc : Assoc) (here : At basis.schema.model.assocs host.assoc.index assoc) where
      by_host : IsLinkedHost basis s region host assoc
      by_host = record { hosts = hosted; linked = there; is_assoc = here }

      abbrev its_link : Link
      its_link = link_by basis region values host assoc

      near_is : record { set = region.set; key = focus_key } ≡ key_at_end host.first_hosts assoc its_link
      near_is k = record {
        set = (region_set basis outer s region of ∙ sym (near_set basis of.is s region of.listed host assoc by_host)) k;
        key = sym (near_key host.first_hosts focus_key (told_key basis values host assoc)) k;
      }

      far_is : record { set = (end_of (not host.first_hosts) assoc).set; key = told_key basis values host assoc } ≡ key_at_end (not host.first_hosts) assoc its_link
      far_is k = record { set = (end_of (not host.first_hosts) assoc).set; key = sym (far_key host.first_hosts focus_key (told_key basis values host assoc)) k }

      ends_rooted : (link : Link) → links_at state host focus_key ≡ link ∷ [] → (side : Bool) → Contains roots (key_at_end side assoc link)
      ends_rooted link one side =
          let only : its_link ∷ [] ≡ link ∷ [] = sym (only_link host hosted assoc here there) ∙ one in
          let is : its_link ≡ link = cc in
          subst (λ (it : Link). Contains roots (key_at_end side assoc it)) is
          (⊎_elim
          (λ (near : side ≡ host.first_hosts). subst (λ b. Contains roots (key_at_end b assoc its_link)) (sym near) (subst (Contains roots) near_is own_root))
          (λ (far : side ≡ not host.first_hosts). subst (λ b. Contains roots (key_at_end b assoc its_link)) (sym far) (subst (Contains roots) far_is (partner_root host assoc by_host)))
          (side_cases side host.first_hosts))

    pub actor_rooted : IsRooted basis roots state region values
    actor_rooted = record {
      focus = own_root;
      ends = λ host hosted there assoc here link one side.
          ends_rooted host (subst (λ u. Contains (basis.hosts u) host) (region_set basis outer s region of) hosted) there assoc here link one side;
    }
