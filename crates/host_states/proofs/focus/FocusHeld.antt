-- The state with an entity of a region and its partners holds it, with just one link for each flag of the region.
use Rattle.std.proofs.Common.{◌≡◌, ◌≢◌, ◌⊎◌, ⊎_elim, inl, inr, ℕ, ◌<◌, List, [], ◌∷◌, filter, get_or, AllPairs, Any, Contains, Bool, true, false, not, if◌then◌else◌, refl, sym, ap, subst, ◌∙◌, arith}
use Rattle.std.proofs.lemmas.List.Elements.{Contains-get_or}
use Rattle.emc_base.specs.Lists.{AtMostOne}
use Rattle.emc_base.proofs.FoundItems.{some_member}
use Rattle.emc_base.proofs.Lists.{at_once}
use Rattle.emc_base.proofs.facts.Tests.{not_is}
use Rattle.round_trip.specs.Words.{SetId, AssocId, PropId, Value, Assoc, End, Entity, Link, State, At, IsA, IsLegal, entities_in, key_of, key_props, links_in, value_beside}
use Rattle.edm_types.specs.declared.model.Mult.TheVariants.{One, ZeroOrOne, Many}
use Rattle.schema_laws.specs.state_demand.Selecting.{same_key}
use Rattle.schema_laws.proofs.state_demand.owners.Owners.{beside_map}
use Rattle.schema_laws.proofs.state_demand.writings.Selecting.{Decides-key}
use Rattle.regions.specs.declared.region.Region.{Region}
use Rattle.regions.specs.Basis.{Basis, Host, host_end, host_key, partner_end, partner_key}
use Rattle.regions.specs.Patterns.{Valuation}
use Rattle.regions.specs.region_laws.IsBasis.{IsHostOf}
use Rattle.regions.specs.region_laws.Partners.{HasPartners, TellsPartner}
use Rattle.regions.specs.region_laws.RegionAt.{links_at}
use Rattle.regions.proofs.region_laws.entities.Hosting.{independent}
use Rattle.regions.proofs.region_laws.listing.Possible.{must_link}
use Rattle.regions.proofs.region_laws.lists.Found.{filter_none, filter_one}
use Rattle.region_states.specs.Entities.{focus_entity}
use Rattle.region_states.specs.HoldsFocus.{HoldsFocus}
use Rattle.population.specs.Numbered.{end_of}
use Rattle.population.specs.declared.placed.PlacedKey.{PlacedKey}
use Rattle.population.specs.Supported.{end_key, links_of}
use Rattle.population.proofs.supporting.Links.{IsAdded, far_key, near_key}
use Rattle.population.proofs.plain.Lists.{most_one}
use Rattle.host_states.specs.FocusStates.{link_to, links_by, state_by, told_key}
use Rattle.host_states.proofs.focus.Focus.{IsMade, region_set}
use Rattle.host_states.proofs.focus.FocusLinks.{focus_stands, for_focus, given, keys, link_cases, link_there, not_for_partner, own_is, own_stands, side_cases, state_legal}
use Rattle.host_states.proofs.focus.HostEnds.{host_key_is, host_side, partner_key_is, partner_side}

-- an end `1` isn't one of a free partner
pub one_not_free : One ≢ ZeroOrOne
one_not_free never = let nothing : One ≡ ZeroOrOne = never in cc

module _ (basis : Basis) (outer : ℕ) (s : SetId) (region : Region) (values : Valuation) (hosts : List Host) (wanted : List PlacedKey)
    (made : IsMade basis outer s region values hosts wanted) where
  abbrev state : State
  state = state_by basis outer hosts wanted region values

  abbrev entity : Entity
  entity = focus_entity basis region values

  abbrev focus_key : List Value
  focus_key = key_of basis.schema.model entity

  legal : IsLegal basis.schema.model state
  legal = state_legal basis outer s region values hosts wanted made

  module _ (host : Host) (hosted : Contains (basis.hosts s) host) (assoc : Assoc) (here : At basis.schema.model.assocs host.assoc.index assoc) where
    abbrev first : Bool
    first = host.first_hosts

    abbrev own : List Link
    own = links_of (links_by basis region values hosts) host.assoc

    abbrev pub AtEntity : Link → Type 0
    AtEntity link = host_key first link ≡ focus_key

    abbrev Added : Bool → Link → Type 0
    Added side link = IsAdded basis.schema.model outer (given basis outer s region values hosts wanted made) (keys basis outer s region values hosts wanted made) host.assoc assoc own side link

    at_end : (link : Link) → AtEntity link → end_key first link ≡ focus_key
    at_end link at = sym (host_key_is first link) ∙ at

    abbrev pub the_link : Link
    the_link = (link_to basis region values host assoc).link

    -- a link that is added and stands at the entity is asked by an end `1`, and no given link is its own
    asked : (link : Link) → AtEntity link → (side : Bool) → Added side link
        → ((end_of (not first) assoc).mult ≡ One) × IsA basis.schema.model region.ty (end_of first assoc).ty × (Any (λ one. end_key first one ≡ focus_key) own → ⊥)
    asked link at side by = ⊎_elim
        (λ (is : side ≡ first).
        let told = for_focus basis outer s region values hosts wanted made host hosted assoc here link (subst (λ b. Added b link) is by) (at_end link at) in
        (told.far_one, told.covers, told.lacks))
        (λ (is : side ≡ not first).
        absurd (not_for_partner basis outer s region values hosts wanted made host hosted assoc here link (subst (λ b. Added b link) is by) (at_end link at)))
        (side_cases side first)

    -- where the association's link is made, it stands
    pub link_stands : Contains hosts host → Contains (links_in state host.assoc) the_link × AtEntity the_link
    link_stands there = (
      own_stands basis outer s region values hosts wanted made host hosted assoc here the_link (link_there basis outer s region values hosts wanted made host hosted assoc here there),
      host_key_is first the_link ∙ near_key first focus_key (told_key basis values host assoc),
    )

    -- and no other stands at the entity
    pub link_alone : Contains hosts host → (link : Link) → Contains (links_in state host.assoc) link → AtEntity link → link ≡ the_link
    link_alone there link has at = ⊎_elim
        (λ (one : Contains own link). (own_is basis outer s region values hosts wanted made host hosted assoc here link one).1)
        (λ (more : (side : Bool) × Added side link).
        absurd ((asked link at more.0 more.1).2 (some_member (λ one. end_key first one ≡ focus_key) own the_link
        (link_there basis outer s region values hosts wanted made host hosted assoc here there) (near_key first focus_key (told_key basis values host assoc)))))
        (link_cases basis outer s region values hosts wanted made host hosted assoc here link has)

    -- where it isn't made, none stands there but what an end `1` asks for
    pub none_but_asked : ¬ Contains hosts host → (link : Link) → Contains (links_in state host.assoc) link → AtEntity link
        → ((end_of (not first) assoc).mult ≡ One) × IsA basis.schema.model region.ty (end_of first assoc).ty
    none_but_asked not_there link has at = ⊎_elim
        (λ (one : Contains own link). absurd (not_there (own_is basis outer s region values hosts wanted made host hosted assoc here link one).0))
        (λ (more : (side : Bool) × Added side link). let told = asked link at more.0 more.1 in (told.0, told.1))
        (link_cases basis outer s region values hosts wanted made host hosted assoc here link has)

    -- in all, just this one
    pub only_link : Contains hosts host → links_at state host focus_key ≡ the_link ∷ []
    only_link there =
        let stands = link_stands there in
        filter_one (λ (one : Link). same_key (host_key first one) focus_key) AtEntity (λ one. Decides-key (host_key first one) focus_key) (links_in state host.assoc)
        (most_one AtEntity (links_in state host.assoc) (λ i j d below within at_i at_j.
        (legal.links host.assoc assoc here (independent basis made.of.is s host hosted assoc here)).once i j d below within
        (link_alone there (get_or (links_in state host.assoc) i d) (Contains-get_or (links_in state host.assoc) i d (omega (arith, below, within))) at_i
        ∙ sym (link_alone there (get_or (links_in state host.assoc) j d) (Contains-get_or (links_in state host.assoc) j d within) at_j))))
        the_link stands.0 stands.1

    -- to the partner that is told
    pub tells_partner : TellsPartner basis host the_link values.part
    tells_partner other there p part =
        let same_assoc : assoc ≡ other = at_once basis.schema.model.assocs host.assoc.index assoc other here there in
        let parts : List PropId = key_props basis.schema.model (partner_end first assoc).ty in
        let Told : Assoc → Type 0 = λ one. (q : PropId) → Contains (key_props basis.schema.model (partner_end first one).ty) q → values.part host.assoc (if first then false else true) q
        ≡ value_beside q (key_props basis.schema.model (partner_end first one).ty) (partner_key first the_link) in
        let told : Told assoc = λ q among.
        ap (λ b. values.part host.assoc b q) (sym (not_is first)) ∙ sym (beside_map (values.part host.assoc (not first)) parts q among)
        ∙ ap (value_beside q parts) (sym (partner_key_is first the_link ∙ far_key first focus_key (told_key basis values host assoc))) in
        subst Told same_assoc told p part

  -- where the links of all its flags are made, the state holds the entity with its partners
  module _ (all : (host : Host) → Contains (basis.hosts s) host → Contains region.linked host.assoc → Contains hosts host) where
    held_partners : HasPartners basis state s entity region values.part
    held_partners = record {
      one = λ host hosted linked. (
          let by : IsHostOf basis.schema s host = (made.of.is.hosts s host).0 hosted in
          let there = all host hosted linked in
          (the_link host hosted by.assoc by.is_assoc, only_link host hosted by.assoc by.is_assoc there, tells_partner host hosted by.assoc by.is_assoc));
      none = λ host hosted not_linked. (
          let by : IsHostOf basis.schema s host = (made.of.is.hosts s host).0 hosted in
          filter_none (λ (one : Link). same_key (host_key host.first_hosts one) focus_key) (AtEntity host hosted by.assoc by.is_assoc) (λ one. Decides-key (host_key host.first_hosts one) focus_key)
          (links_in state host.assoc) (λ link has at.
          let told = none_but_asked host hosted by.assoc by.is_assoc (λ there. not_linked (made.each host there).1) link has at in
          not_linked (must_link basis made.of.is s region made.of.listed (record { host = host; hosts = hosted; assoc = by.assoc; is_assoc = by.is_assoc })
          (subst (λ (end : End). IsA basis.schema.model region.ty end.ty) (sym (host_side host.first_hosts by.assoc)) told.1)
          (λ free. one_not_free (sym told.0 ∙ ap (λ (end : End). end.mult) (sym (partner_side host.first_hosts by.assoc)) ∙ free)))));
    }

    pub holds_focus : HoldsFocus basis region values state
    holds_focus = record {
      legal = legal;
      stands = subst (λ u. Contains (entities_in state u) entity) (sym (region_set basis outer s region made.of)) (focus_stands basis outer s region values hosts wanted made);
      partners = subst (λ u. HasPartners basis state u entity region values.part) (sym (region_set basis outer s region made.of)) held_partners;
    }
