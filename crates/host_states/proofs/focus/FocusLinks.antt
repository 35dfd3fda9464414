-- The links of an entity of a region to its partners: given links of a legal state, and no other link stands at the entity.
use Rattle.std.proofs.Common.{◌≡◌, ◌≢◌, ◌⊎◌, ⊎_elim, inl, inr, ℕ, ◌<◌, ◌≤◌, List, [], ◌∷◌, ◌++◌, map, flat_map, slice_get, AllPairs, Any, Contains, Bool, true, false, true≢false, not, Some, refl, sym, ap, subst, ◌∙◌, arith}
use Rattle.std.proofs.lemmas.Bool.{and_parts}
use Rattle.std.proofs.lemmas.List.Elements.{Contains-append_cases, Contains-append_left, Contains-append_right}
use Rattle.emc_base.specs.Lists.{AreApart}
use Rattle.emc_base.proofs.FoundItems.{contains_flat_map, some_member}
use Rattle.emc_base.proofs.Joined.{in_flat_map}
use Rattle.emc_base.proofs.Lists.{at_once}
use Rattle.emc_base.proofs.Members.{contains_head, contains_tail}
use Rattle.round_trip.specs.Words.{SetId, AssocId, Value, Assoc, End, Entity, Link, State, At, IsA, IsLegal, entities_in, key_of, links_in}
use Rattle.edm_types.specs.declared.model.Mult.TheVariants.{One, Many}
use Rattle.schema_laws.specs.sound_demand.Deriving.{derives}
use Rattle.schema_laws.proofs.sound_demand.Deriving.{decides_types}
use Rattle.schema_laws.proofs.state_demand.lists.Ids.{Decides-assoc}
use Rattle.schema_laws.proofs.state_demand.lists.Lists.{same_by_key}
use Rattle.regions.specs.declared.region.Region.{Region}
use Rattle.regions.specs.Basis.{Basis, Host, partner_end}
use Rattle.regions.specs.Patterns.{Valuation}
use Rattle.regions.proofs.region_laws.entities.Flags.{one_host}
use Rattle.regions.proofs.region_laws.entities.Hosting.{at_set, independent}
use Rattle.region_states.specs.defaults.Admissible.{IsAdmissible}
use Rattle.region_states.specs.Entities.{focus_entity}
use Rattle.population.specs.Given.{AreGiven, AreKeys, AreLinked, HasShortParts, StandsAtEnd}
use Rattle.population.specs.Numbered.{end_number, end_of, number_count, numbered_key}
use Rattle.population.specs.declared.placed.PlacedKey.{PlacedKey}
use Rattle.population.specs.Support.{support}
use Rattle.population.specs.Supported.{added_at, end_key, given_in, links_of, stands_in}
use Rattle.population.specs.declared.placed.Placed.{Placed}
use Rattle.population.specs.declared.placed.PlacedLink.{PlacedLink}
use Rattle.population.proofs.supporting.Ends.{from_given, from_link, link_from, link_pairs}
use Rattle.population.proofs.supporting.Entities.{differ, entities_are, given_stands, links_are}
use Rattle.population.proofs.supporting.Legal.{supported_legal}
use Rattle.population.proofs.supporting.Links.{IsAdded, added_far, added_near, far_key, is_added, linked_is, near_key, none_own}
use Rattle.population.proofs.plain.Numbered.{end_within}
use Rattle.population.proofs.plain.Plain.{first_is}
use Rattle.population.proofs.supporting.Support.{support_fits}
use Rattle.host_states.specs.FocusStates.{by_assoc, focus, given_by, link_to, links_by, partner_of, state_by, told_key, wanted_by}
use Rattle.host_states.proofs.focus.Focus.{IsMade, are_given, are_wanted, focus_key_is, in_set, numbers, partner_has, region_set}
use Rattle.host_states.proofs.focus.HostEnds.{IsLinkedHost, far_sound, from_assoc, near_covers, host_side, near_set, no_constraint, pairs_of_hosts, partner_side, to_assoc, twice_not}

-- a side is this one, or the other
pub side_cases : (side first : Bool) → (side ≡ first) ⊎ (side ≡ not first)
side_cases true true = inl refl
side_cases true false = inr refl
side_cases false true = inr refl
side_cases false false = inl refl

module _ (basis : Basis) (outer : ℕ) (s : SetId) (region : Region) (values : Valuation) (hosts : List Host) (wanted : List PlacedKey)
    (made : IsMade basis outer s region values hosts wanted) where
  abbrev pub given : List Placed
  given = given_by basis outer hosts region values

  abbrev pub keys : List PlacedKey
  keys = support basis.schema.model outer given wanted

  abbrev pub links : List PlacedLink
  links = links_by basis region values hosts

  abbrev pub state : State
  state = state_by basis outer hosts wanted region values

  abbrev entity : Entity
  entity = focus_entity basis region values

  abbrev focus_key : List Value
  focus_key = key_of basis.schema.model entity

  pub given_well : AreGiven basis.schema.model outer given
  given_well = are_given basis outer s region made.of values made.admissible hosts made.each made.order

  pub keys_well : AreKeys basis.schema.model outer given keys
  keys_well = support_fits basis.schema.model outer (numbers basis outer s region made.of) given wanted given_well (are_wanted basis outer s region made.of values made.admissible hosts made.each made.order wanted made.short made.holds)

  linked_host : (host : Host) → Contains hosts host → (assoc : Assoc) → At basis.schema.model.assocs host.assoc.index assoc → IsLinkedHost basis s region host assoc
  linked_host host there assoc here = let told = made.each host there in record { hosts = told.0; linked = told.1; is_assoc = here }

  -- the entity stands in its set
  pub focus_given : Contains (given_in given s) entity
  focus_given = subst (λ u. Contains (given_in given u) entity) (region_set basis outer s region made.of)
      (from_given given (focus basis region values) (contains_head (focus basis region values) (flat_map (by_assoc basis (partner_of basis outer values)) hosts)))

  pub focus_there : Contains (stands_in basis.schema.model outer given keys s) entity
  focus_there = let set = in_set basis outer s region made.of in given_stands basis.schema.model outer given keys s set.0 set.1 entity focus_given

  pub focus_stands : Contains (entities_in state s) entity
  focus_stands = subst (λ list. Contains list entity) (sym (entities_are basis.schema.model outer given keys links s)) focus_there

  -- a partner stands at the end
  partner_there : (host : Host) (there : Contains hosts host) (assoc : Assoc) (here : At basis.schema.model.assocs host.assoc.index assoc)
      → StandsAtEnd basis.schema.model outer given keys (partner_end host.first_hosts assoc) (told_key basis values host assoc)
  partner_there host there assoc here =
      let by = linked_host host there assoc here in
      let far : End = partner_end host.first_hosts assoc in
      let sound = far_sound basis made.of.is s region made.of.listed host assoc by in
      let one : Placed = partner_of basis outer values host assoc in
      let listed : Contains given one = contains_tail (focus basis region values) (flat_map (by_assoc basis (partner_of basis outer values)) hosts) one
      (contains_flat_map (by_assoc basis (partner_of basis outer values)) hosts host one there (to_assoc basis (partner_of basis outer values) host assoc here)) in
      some_member (λ e. IsA basis.schema.model e.ty far.ty × (key_of basis.schema.model e ≡ told_key basis values host assoc)) (stands_in basis.schema.model outer given keys far.set) one.entity
      (given_stands basis.schema.model outer given keys far.set sound.under.0 sound.under.1 one.entity (from_given given one listed))
      ((first_is basis.schema.model made.of.is.sound.model far.ty sound.concrete).1, partner_has basis outer s region made.of values made.admissible host assoc by)

  -- a given link is that to a partner
  pub record IsGivenLink (placed : PlacedLink) : Type 0 where
    pub host : Host
    pub assoc : Assoc
    pub there : Contains hosts host
    pub here : At basis.schema.model.assocs host.assoc.index assoc
    pub is : placed ≡ link_to basis region values host assoc

  pub given_link : (placed : PlacedLink) → Contains links placed → IsGivenLink placed
  given_link placed has =
      let found = in_flat_map (by_assoc basis (link_to basis region values)) hosts placed has in
      let told = from_assoc basis (link_to basis region values) found.0 placed found.2 in
      record { host = found.0; assoc = told.0; there = found.1; here = told.1; is = told.2 }

  -- of one association there is one
  given_once : AllPairs (λ x y. x.assoc.index < y.assoc.index) links
  given_once = pairs_of_hosts basis (link_to basis region values) (λ x y. x.assoc.index < y.assoc.index) hosts made.order (λ host other assoc also has_host has_other here there less. less)

  alone : (R : Link → Link → Type 0) (a : AssocId) → AllPairs R (links_of links a)
  alone R a = link_pairs R links a (λ i j d below within first second.
      let less = given_once i j d below within in
      let same_index = ap (λ (b : AssocId). b.index) (first ∙ sym second) in
      absurd (omega (arith, less, same_index)))

  -- both its ends stand
  link_ends : (placed : PlacedLink) → Contains links placed → (assoc : Assoc) → At basis.schema.model.assocs placed.assoc.index assoc → (side : Bool)
      → StandsAtEnd basis.schema.model outer given keys (end_of side assoc) (end_key side placed.link)
  link_ends placed has assoc here side =
      let by : IsGivenLink placed = given_link placed has in
      let host : Host = by.host in
      let P : PlacedLink → Type 0 = λ one. At basis.schema.model.assocs one.assoc.index assoc in
      let same_assoc : by.assoc ≡ assoc = at_once basis.schema.model.assocs host.assoc.index by.assoc assoc by.here (subst P by.is here) in
      let is_host : IsLinkedHost basis s region host assoc = subst (IsLinkedHost basis s region host) same_assoc (linked_host host by.there by.assoc by.here) in
      let told : placed.link ≡ (link_to basis region values host assoc).link = ap (λ (one : PlacedLink). one.link) by.is
      ∙ ap (λ a. (link_to basis region values host a).link) same_assoc in
      let Stands : Bool → List Value → Type 0 = λ b key. StandsAtEnd basis.schema.model outer given keys (end_of b assoc) key in
      let near : Stands host.first_hosts focus_key = near_there host assoc is_host in
      let far : Stands (not host.first_hosts) (told_key basis values host assoc) =
      subst (λ (end : End). StandsAtEnd basis.schema.model outer given keys end (told_key basis values host assoc)) (partner_side host.first_hosts assoc) (partner_there host by.there assoc is_host.is_assoc) in
      ⊎_elim
      (λ (is : side ≡ host.first_hosts).
      subst (λ b. Stands b (end_key b placed.link)) (sym is)
      (subst (Stands host.first_hosts) (sym (ap (end_key host.first_hosts) told ∙ near_key host.first_hosts focus_key (told_key basis values host assoc))) near))
      (λ (is : side ≡ not host.first_hosts).
      subst (λ b. Stands b (end_key b placed.link)) (sym is)
      (subst (Stands (not host.first_hosts)) (sym (ap (end_key (not host.first_hosts)) told ∙ far_key host.first_hosts focus_key (told_key basis values host assoc))) far))
      (side_cases side host.first_hosts)
    where
      near_there : (host : Host) (assoc : Assoc) → IsLinkedHost basis s region host assoc → StandsAtEnd basis.schema.model outer given keys (end_of host.first_hosts assoc) focus_key
      near_there host assoc by =
          let end : End = end_of host.first_hosts assoc in
          some_member (λ e. IsA basis.schema.model e.ty end.ty × (key_of basis.schema.model e ≡ focus_key)) (stands_in basis.schema.model outer given keys end.set) entity
          (subst (λ u. Contains (stands_in basis.schema.model outer given keys u) entity) (sym (near_set basis made.of.is s region made.of.listed host assoc by)) focus_there)
          (near_covers basis made.of.is s region made.of.listed host assoc by, refl)

  pub links_well : AreLinked basis.schema.model outer given keys links
  links_well = record {
    once = λ a. alone (λ x y. x ≢ y) a;
    ends = λ a assoc here link has side. (
        let found = link_from links a link has in
        let Here : AssocId → Type 0 = λ b. At basis.schema.model.assocs b.index assoc in
        let P : Link → Type 0 = λ l. StandsAtEnd basis.schema.model outer given keys (end_of side assoc) (end_key side l) in
        subst P found.3 (link_ends found.0 found.1 assoc (subst Here (sym found.2) here) side));
    few = λ a assoc here side not_many. alone (λ x y. end_key side x ≢ end_key side y) a;
  }

  pub state_legal : IsLegal basis.schema.model state
  state_legal = supported_legal basis.schema.model outer (numbers basis outer s region made.of) given keys links given_well keys_well links_well

  -- a hosted association
  module _ (host : Host) (hosted : Contains (basis.hosts s) host) (assoc : Assoc) (here : At basis.schema.model.assocs host.assoc.index assoc) where
    abbrev first : Bool
    first = host.first_hosts

    abbrev own : List Link
    own = links_of links host.assoc

    -- a link that is added to the given ones
    abbrev Added : Bool → Link → Type 0
    Added side link = IsAdded basis.schema.model outer given keys host.assoc assoc own side link

    -- a link is a given one, or added
    pub link_cases : (link : Link) → Contains (links_in state host.assoc) link → Contains own link ⊎ (side : Bool) × Added side link
    link_cases link has =
        let more : Bool → List Link = λ side. added_at basis.schema.model outer given keys side host.assoc assoc own in
        ⊎_elim
        (λ (one : Contains own link). inl one)
        (λ (rest : Contains (more true ++ more false) link). ⊎_elim
        (λ (one : Contains (more true) link). inr (true, is_added basis.schema.model outer given keys host.assoc assoc own true link one))
        (λ (one : Contains (more false) link). inr (false, is_added basis.schema.model outer given keys host.assoc assoc own false link one))
        (Contains-append_cases (more true) (more false) link rest))
        (Contains-append_cases own (more true ++ more false) link
        (subst (λ list. Contains list link) (links_are basis.schema.model outer given keys links host.assoc ∙ linked_is basis.schema.model outer given keys links host.assoc assoc here
        (independent basis made.of.is s host hosted assoc here)) has))

    -- no key of numbers is the entity's
    pub focus_not_numbered : (number : ℕ) → number < number_count basis.schema.model → (u : SetId) → u ≡ s → focus_key ≢ numbered_key basis.schema.model outer u number
    focus_not_numbered number below u is equal =
        given_well.not_numbered s entity focus_given number below (equal ∙ ap (λ v. numbered_key basis.schema.model outer v number) is)

    -- a link that is added for the partner's end leads to an entity of a number
    pub not_for_partner : (link : Link) → Added (not first) link → end_key first link ≢ focus_key
    not_for_partner link by equal =
        let end : End = end_of (not (not first)) assoc in
        let far = added_far basis.schema.model outer (numbers basis outer s region made.of) given keys given_well keys_well links links_well host.assoc assoc here
        (independent basis made.of.is s host hosted assoc here) (not first) link by in
        let K : Bool → Type 0 = λ b. end_key b link ≡ numbered_key basis.schema.model outer (end_of b assoc).set (end_number b host.assoc) in
        let told : K first = subst K (twice_not first) far in
        focus_not_numbered (end_number first host.assoc) (end_within basis.schema.model made.of.is.sound.model host.assoc assoc here first) (end_of first assoc).set
        (ap (λ (e : End). e.set) (sym (host_side first assoc)) ∙ at_set basis made.of.is s host hosted assoc here)
        (sym equal ∙ told)

    -- one that is added for the entity itself is asked by an end `1`, and no given link is its own
    pub record IsAskedHere (link : Link) : Type 0 where
      pub far_one : (end_of (not first) assoc).mult ≡ One
      pub covers : IsA basis.schema.model region.ty (end_of first assoc).ty
      pub lacks : Any (λ one. end_key first one ≡ focus_key) own → ⊥

    pub for_focus : (link : Link) → Added first link → end_key first link ≡ focus_key → IsAskedHere link
    for_focus link by equal =
        let independent_ = independent basis made.of.is s host hosted assoc here in
        let near = added_near basis.schema.model outer (numbers basis outer s region made.of) given keys given_well keys_well links links_well host.assoc assoc here independent_ first link by in
        let set = in_set basis outer s region made.of in
        let at : (end_of first assoc).set ≡ s = ap (λ (e : End). e.set) (sym (host_side first assoc)) ∙ at_set basis made.of.is s host hosted assoc here in
        let stands : Contains (stands_in basis.schema.model outer given keys s) by.entity = subst (λ u. Contains (stands_in basis.schema.model outer given keys u) by.entity) at by.stands in
        let same_key_ : key_of basis.schema.model by.entity ≡ focus_key = sym near ∙ equal in
        let is : by.entity ≡ entity = same_by_key (key_of basis.schema.model) (stands_in basis.schema.model outer given keys s) by.entity entity
        (differ basis.schema.model outer (numbers basis outer s region made.of) given keys given_well keys_well s set.0 set.1) stands focus_there same_key_ in
        let told = (and_parts (derives basis.schema.model by.entity.ty (end_of first assoc).ty) _ by.lacks).0 in
        record {
          far_one = by.far_one;
          covers = subst (λ (e : Entity). IsA basis.schema.model e.ty (end_of first assoc).ty) is (((decides_types basis.schema.model made.of.is.sound.model).tells by.entity.ty (end_of first assoc).ty).0 told);
          lacks = λ any. none_own basis.schema.model outer (numbers basis outer s region made.of) given keys given_well keys_well links links_well host.assoc assoc here independent_ first link by
              (subst (λ key. Any (λ one. end_key first one ≡ key) own) (sym same_key_) any);
        }

    -- the given link of an association whose link is made
    pub link_there : Contains hosts host → Contains own (link_to basis region values host assoc).link
    link_there there = from_link links (link_to basis region values host assoc)
        (contains_flat_map (by_assoc basis (link_to basis region values)) hosts host (link_to basis region values host assoc) there (to_assoc basis (link_to basis region values) host assoc here))

    -- and there is no other
    pub own_is : (link : Link) → Contains own link → Contains hosts host × (link ≡ (link_to basis region values host assoc).link)
    own_is link has =
        let found = link_from links host.assoc link has in
        let by : IsGivenLink found.0 = given_link found.0 found.1 in
        let same_id : by.host.assoc ≡ host.assoc = sym (ap (λ (one : PlacedLink). one.assoc) by.is) ∙ found.2 in
        let same_host : by.host ≡ host = one_host (basis.hosts s) (made.of.is.order s) by.host host (made.each by.host by.there).0 hosted same_id in
        let P : Host → Type 0 = λ h. At basis.schema.model.assocs h.assoc.index by.assoc in
        let same_assoc : by.assoc ≡ assoc = at_once basis.schema.model.assocs host.assoc.index by.assoc assoc (subst P same_host by.here) here in (
          subst (Contains hosts) same_host by.there,
          sym found.3 ∙ ap (λ (one : PlacedLink). one.link) by.is ∙ ap (λ h. (link_to basis region values h by.assoc).link) same_host
              ∙ ap (λ a. (link_to basis region values host a).link) same_assoc,
        )

    -- a given link stands
    pub own_stands : (link : Link) → Contains own link → Contains (links_in state host.assoc) link
    own_stands link has =
        subst (λ list. Contains list link)
        (sym (links_are basis.schema.model outer given keys links host.assoc ∙ linked_is basis.schema.model outer given keys links host.assoc assoc here
        (independent basis made.of.is s host hosted assoc here)))
        (Contains-append_left own (added_at basis.schema.model outer given keys true host.assoc assoc own ++ added_at basis.schema.model outer given keys false host.assoc assoc own) link has)
