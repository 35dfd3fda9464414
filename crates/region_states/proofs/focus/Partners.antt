-- An entity that a region holds with its partners: the region holds it with the links that it hosts, and has a flag just where one is there.
use Rattle.std.proofs.Common.{◌≡◌, ⊎_elim, List, [], Bool, Any, Contains, refl, sym, ap, subst, ◌∙◌}
use Rattle.emc_base.proofs.Lists.{all_from_members}
use Rattle.emc_base.proofs.Mapped.{contains_filter}
use Rattle.emc_base.proofs.Numbered.{filter_contains}
use Rattle.emc_base.proofs.facts.Tests.{not_is}
use Rattle.round_trip.specs.Words.{SetId, AssocId, PropId, Entity, Hosted, Link, State, Value, key_of, links_in}
use Rattle.schema_laws.specs.state_demand.Selecting.{same_key}
use Rattle.schema_laws.proofs.state_demand.writings.Decisions.{so_or_not}
use Rattle.schema_laws.proofs.state_demand.lists.Lists.{any_of, head_stands, none_in_nil, of_any}
use Rattle.schema_laws.proofs.state_demand.writings.Selecting.{Decides-key}
use Rattle.regions.specs.declared.region.Region.{Region}
use Rattle.regions.specs.Basis.{Basis, Host, IsHostedLink, host_key, partner_key}
use Rattle.regions.specs.Regions.{Holds, TellsLinks}
use Rattle.regions.specs.Symbols.{is_linked}
use Rattle.regions.specs.region_laws.IsBasis.{AreHostedLinks, IsBasis}
use Rattle.regions.specs.region_laws.Partners.{HasPartners, TellsPartner}
use Rattle.regions.specs.region_laws.RegionAt.{hosted_links, links_at}
use Rattle.regions.proofs.region_laws.entities.Hosting.{hosted_are}
use Rattle.regions.specs.region_laws.pattern.Allowed.{ArePartners, IsAllowed}
use Rattle.regions.specs.region_laws.Held.{IsHeldAt, LinkedEntity, PartneredEntity}
use Rattle.regions.proofs.region_laws.pattern.symbols.Origins.{linked_decided}
use Rattle.regions.proofs.region_laws.pattern.types.Regions.{parts_of}
use Rattle.regions.specs.Patterns.{by_entity}
use Rattle.regions.proofs.region_laws.pattern.values.Allowed.{region_allowed}

-- the flag of a host tells whether a link stands at the entity
module _ (basis : Basis) (state : State) (s : SetId) (entity : Entity) (region : Region) (part : AssocId → Bool → PropId → Value)
    (partners : HasPartners basis state s entity region part) (host : Host) (hosts : Contains (basis.hosts s) host) where
  abbrev at_key : Link → Bool
  at_key link = same_key (host_key host.first_hosts link) (key_of basis.schema.model entity)

  abbrev pub IsAtEntity : Link → Type 0
  IsAtEntity link = Contains (links_in state host.assoc) link × (host_key host.first_hosts link ≡ key_of basis.schema.model entity)

  pub linked_link : Contains region.linked host.assoc → (link : Link) × IsAtEntity link × TellsPartner basis host link part
  linked_link linked =
      let one = partners.one host hosts linked in
      let kept = filter_contains at_key (links_in state host.assoc) one.0 (subst (λ list. Contains list one.0) (sym one.1) (head_stands one.0 [])) in
      (one.0, (kept.0, (Decides-key (host_key host.first_hosts one.0) (key_of basis.schema.model entity)).0 kept.1), one.2)

  pub link_linked : (link : Link) → IsAtEntity link → Contains region.linked host.assoc
  link_linked link at =
      let among : Contains (links_at state host (key_of basis.schema.model entity)) link = contains_filter at_key (links_in state host.assoc) link at.0
      ((Decides-key (host_key host.first_hosts link) (key_of basis.schema.model entity)).1 at.1) in
      ⊎_elim
      (λ (linked : Contains region.linked host.assoc). linked)
      (λ (not_linked : ¬ Contains region.linked host.assoc).
      absurd (none_in_nil link (subst (λ list. Contains list link) (partners.none host hosts not_linked) among)))
      (so_or_not (is_linked basis region.linked host.assoc) (linked_decided basis region.linked host.assoc))

module _ (basis : Basis) (is : IsBasis basis) (state : State) (s : SetId) (entity : Entity) (region : Region) (part : AssocId → Bool → PropId → Value)
    (held : IsHeldAt basis state s entity region part) where
  abbrev pub links : List Hosted
  links = hosted_links basis state s (key_of basis.schema.model entity)

  pub are_hosted : AreHostedLinks basis state s entity links
  are_hosted = hosted_are basis state s entity

  host_of : (host : Host) → Contains (basis.hosts region.set) host → Contains (basis.hosts s) host
  host_of host has = subst (λ u. Contains (basis.hosts u) host) (parts_of basis s region held.listed).of_set has

  abbrev seen : Host → Link → Hosted
  seen host link = record { assoc = host.assoc; partner = partner_key host.first_hosts link }

  seen_among : (host : Host) (hosts : Contains (basis.hosts s) host) (link : Link) → IsAtEntity basis state s entity region part held.partners host hosts link
      → Contains links (seen host link)
  seen_among host hosts link at = (are_hosted.tells (seen host link)).1
      (record { host = host; link = link; is_host = hosts; stands = at.0; at_key = at.1; seen = refl })

  -- so the region holds the entity with all the links that it hosts
  pub holds_hosted : Holds basis region entity links
  holds_hosted = record {
    typed = held.holds.typed;
    atoms = held.holds.atoms;
    flags = all_from_members (TellsLinks basis region links) (basis.hosts region.set) (λ host has assoc here few. (there host (host_of host has), back host (host_of host has)));
  }
    where
      there : (host : Host) → Contains (basis.hosts s) host → Contains region.linked host.assoc → Any (λ hosted. hosted.assoc ≡ host.assoc) links
      there host hosts linked =
          let found = linked_link basis state s entity region part held.partners host hosts linked in
          any_of (λ (hosted : Hosted). hosted.assoc ≡ host.assoc) links (seen host found.0) (seen_among host hosts found.0 found.1) refl

      back : (host : Host) → Contains (basis.hosts s) host → Any (λ hosted. hosted.assoc ≡ host.assoc) links → Contains region.linked host.assoc
      back host hosts any =
          let found = of_any (λ (hosted : Hosted). hosted.assoc ≡ host.assoc) links any in
          let by : IsHostedLink state (basis.hosts s) (key_of basis.schema.model entity) found.0 = (are_hosted.tells found.0).0 found.1 in
          let named : by.host.assoc ≡ host.assoc = sym (ap (λ (one : Hosted). one.assoc) by.seen) ∙ found.2 in
          subst (Contains region.linked) named (link_linked basis state s entity region part held.partners by.host by.is_host by.link (by.stands, by.at_key))

  -- and the parts are those of the keys of partners by these links
  pub are_partners : ArePartners basis region links part
  are_partners = record {
    tells = λ host assoc is_host linked here. (
        let hosts : Contains (basis.hosts s) host = host_of host is_host in
        let found = linked_link basis state s entity region part held.partners host hosts linked in (
          seen host found.0,
          seen_among host hosts found.0 found.1,
          refl,
          λ p key. ap (λ b. part host.assoc b p) (not_is host.first_hosts) ∙ found.2 assoc here p key,
        ));
  }

module _ (basis : Basis) (is : IsBasis basis) (linked : LinkedEntity basis) where
  -- the region holds the entity with its hosted links, and the parts are those of its partners' keys
  abbrev pub partnered : PartneredEntity basis
  partnered = record {
    held = record {
      state = linked.state;
      legal = linked.legal;
      s = linked.s;
      entity = linked.entity;
      region = linked.region;
      of_region = record {
        stands = linked.held.stands;
        listed = linked.held.listed;
        links = links basis is linked.state linked.s linked.entity linked.region linked.part linked.held;
        hosted = are_hosted basis is linked.state linked.s linked.entity linked.region linked.part linked.held;
        holds = holds_hosted basis is linked.state linked.s linked.entity linked.region linked.part linked.held;
      };
    };
    part = linked.part;
    partners = are_partners basis is linked.state linked.s linked.entity linked.region linked.part linked.held;
  }

  -- so its values are such as the region allows
  pub linked_allowed : IsAllowed basis linked.region (by_entity basis.schema.model linked.entity linked.part)
  linked_allowed = region_allowed basis is partnered
