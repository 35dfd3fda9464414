-- An entity that a region holds with its links is held with their partners, each told by the first link of its association.
use Rattle.std.proofs.Common.{◌≡◌, ◌==◌, List, [], ◌∷◌, find, slice_get, Bool, true, false, if◌then◌else◌, Contains, Option, Some, None, refl, sym, ap, subst, ◌∙◌}
use Rattle.std.specs.Option.{option_map_or}
use Rattle.std.proofs.lemmas.Bool.Decides.{Decides-eqb}
use Rattle.emc_base.proofs.Lists.{only_member}
use Rattle.emc_base.proofs.Mapped.{contains_filter}
use Rattle.emc_base.proofs.Numbered.{filter_contains}
use Rattle.round_trip.specs.Words.{SetId, AssocId, PropId, Assoc, End, Entity, Hosted, IsLegal, Link, State, Value, Null, key_of, key_props, links_in, value_beside}
use Rattle.schema_laws.specs.state_demand.Selecting.{same_key}
use Rattle.schema_laws.proofs.state_demand.lists.Lists.{head_stands}
use Rattle.schema_laws.proofs.state_demand.writings.Selecting.{Decides-key}
use Rattle.regions.specs.declared.region.Region.{Region}
use Rattle.regions.specs.Basis.{Basis, Host, IsHostedLink, host_key, partner_end, partner_key}
use Rattle.regions.specs.region_laws.IsBasis.{IsBasis}
use Rattle.regions.specs.region_laws.Partners.{HasFewPartners, TellsPartner}
use Rattle.regions.specs.region_laws.RegionAt.{links_at}
use Rattle.regions.specs.region_laws.pattern.Allowed.{end_at, partner_parts}
use Rattle.regions.specs.region_laws.Held.{IsHeldAt, HeldEntity}
use Rattle.regions.proofs.region_laws.pattern.Choices.{found_passes, none_passes}
use Rattle.regions.proofs.region_laws.pattern.symbols.Hosting.{one_host}
use Rattle.region_states.proofs.focus.Flags.{flagged_one, unflagged}
use Rattle.case_laws.specs.filled_rows.Demanded.{IsHeldWith}

-- the end that doesn't host is the partner's
end_is : (first_hosts : Bool) (assoc : Assoc) → end_at (if first_hosts then false else true) assoc ≡ partner_end first_hosts assoc
end_is true assoc = refl
end_is false assoc = refl

module _ (basis : Basis) (is : IsBasis basis) (state : State) (s : SetId) (entity : Entity) (links : List Hosted) (region : Region)
    (held : IsHeldWith basis state s entity links region) where
  abbrev key : List Value
  key = key_of basis.schema.model entity

  abbrev pub parts : AssocId → Bool → PropId → Value
  parts = partner_parts basis.schema.model links

  module _ (host : Host) (hosts : Contains (basis.hosts s) host) (link : Link) (one : links_at state host (key_of basis.schema.model entity) ≡ link ∷ []) where
    abbrev of_assoc : Hosted → Bool
    of_assoc hosted = hosted.assoc.index == host.assoc.index

    abbrev at_key : Link → Bool
    at_key other = same_key (host_key host.first_hosts other) key

    abbrev seen : Hosted
    seen = record { assoc = host.assoc; partner = partner_key host.first_hosts link }

    -- the one link is among those that the entity hosts
    seen_among : Contains links seen
    seen_among =
        let kept = filter_contains at_key (links_in state host.assoc) link (subst (λ list. Contains list link) (sym one) (head_stands link [])) in
        (held.hosted.tells seen).1 (record {
          host = host;
          link = link;
          is_host = hosts;
          stands = kept.0;
          at_key = (Decides-key (host_key host.first_hosts link) key).0 kept.1;
          seen = refl;
        })

    -- and each of the association is it
    partner_is : (hosted : Hosted) → Contains links hosted → of_assoc hosted ≡ true → hosted.partner ≡ partner_key host.first_hosts link
    partner_is hosted among told =
        let by : IsHostedLink state (basis.hosts s) key hosted = (held.hosted.tells hosted).0 among in
        let number = (Decides-eqb hosted.assoc.index host.assoc.index).0 told in
        let named : hosted.assoc ≡ host.assoc = λ k. record { index = number k } in
        let same : by.host ≡ host = one_host basis is s by.host host by.is_host hosts (sym (ap (λ (h : Hosted). h.assoc) by.seen) ∙ named) in
        let Stands : Host → Type 0 = λ h. Contains (links_in state h.assoc) by.link × (host_key h.first_hosts by.link ≡ key) in
        let there : Stands host = subst Stands same (by.stands, by.at_key) in
        let kept : Contains (links_at state host key) by.link =
        contains_filter at_key (links_in state host.assoc) by.link there.0 ((Decides-key (host_key host.first_hosts by.link) key).1 there.1) in
        let alike : by.link ≡ link = only_member (links_at state host key) link by.link one kept in
        ap (λ (h : Hosted). h.partner) by.seen ∙ ap (λ (h : Host). partner_key h.first_hosts by.link) same ∙ ap (partner_key host.first_hosts) alike

    value_told : (hosted : Hosted) → find of_assoc links ≡ Some hosted → TellsPartner basis host link parts
    value_told hosted found assoc here p among =
        let first : Bool = if host.first_hosts then false else true in
        let of_link : Option Assoc → Hosted → Value = λ at one_of. option_map_or (λ other. value_beside p (key_props basis.schema.model (end_at first other).ty) one_of.partner) at Null in
        let passes = found_passes of_assoc links hosted found in
        ap (λ one_of. option_map_or (of_link (slice_get basis.schema.model.assocs host.assoc.index)) one_of Null) found
        ∙ ap (λ at. of_link at hosted) here
        ∙ ap (λ (end : End). value_beside p (key_props basis.schema.model end.ty) hosted.partner) (end_is host.first_hosts assoc)
        ∙ ap (value_beside p (key_props basis.schema.model (partner_end host.first_hosts assoc).ty)) (partner_is hosted passes.0 passes.1)

    pub parts_told : TellsPartner basis host link parts
    parts_told = by (find of_assoc links) refl
      where
        by : (found : Option Hosted) → find of_assoc links ≡ found → TellsPartner basis host link parts
        by None none = absurd (none_passes of_assoc links seen none seen_among ((Decides-eqb host.assoc.index host.assoc.index).1 refl))
        by (Some hosted) found = value_told hosted found

  -- so the entity is held with its partners
  pub held_with_partners : IsLegal basis.schema.model state → HasFewPartners basis s → IsHeldAt basis state s entity region parts
  held_with_partners legal few =
      let of : HeldEntity basis = record {
        state = state;
        legal = legal;
        s = s;
        entity = entity;
        region = region;
        of_region = record { stands = held.stands; listed = held.listed; links = links; hosted = held.hosted; holds = held.holds };
      } in
      record {
        stands = held.stands;
        listed = held.listed;
        links = links;
        holds = held.holds;
        partners = record {
          one = λ host hosts linked. (
              let by = (is.hosts s host).0 hosts in
              let found = flagged_one basis is of (record { host = host; hosts = hosts; assoc = by.assoc; is_assoc = by.is_assoc }) linked
              (few host hosts by.assoc by.is_assoc) in
              (found.0, found.1, parts_told host hosts found.0 found.1));
          none = λ host hosts not_linked. unflagged basis is of host hosts not_linked;
        };
      }
