-- The partners of an entity of a legal state, where each association lets it have few.
use Rattle.std.proofs.Common.{◌≡◌, ◌<◌, ⊎_elim, List, [], ◌∷◌, find, Contains, Option, Some, Bool, ◌==◌, sym, ap, ◌∙◌}
use Rattle.std.specs.Option.{option_map_or}
use Rattle.std.proofs.lemmas.Bool.{cond_both}
use Rattle.std.proofs.lemmas.Bool.Decides.{not_from_Decides}
use Rattle.round_trip.specs.Words.{PropId, AssocId, Value, Null, Assoc, Link, key_of}
use Rattle.schema_laws.proofs.state_demand.lists.Lists.{member_cases, none_in_nil}
use Rattle.regions.specs.Basis.{Basis, Host, partner_end}
use Rattle.regions.specs.Regions.{model_of}
use Rattle.regions.specs.region_laws.IsBasis.{IsBasis, IsHostOf}
use Rattle.regions.specs.region_laws.Partners.{HasFewPartners, HasPartners, TellsPartner, part_at, part_by, part_in}
use Rattle.regions.specs.region_laws.RegionAt.{links_at}
use Rattle.regions.proofs.region_laws.lists.Choices.{pairs_tail}
use Rattle.regions.proofs.region_laws.entities.Flags.{InOrder, no_later}
use Rattle.regions.proofs.region_laws.entities.Regions.{flag_none, flag_one}
use Rattle.regions.specs.region_laws.Held.{HeldEntity}
use Rattle.schema_laws.proofs.state_demand.lists.Ids.{Decides-assoc}

-- a host is found by its association
found_host : (hosts : List Host) → InOrder hosts → (host : Host) → Contains hosts host → find (λ (one : Host). one.assoc.index == host.assoc.index) hosts ≡ Some host
found_host [] order host has = absurd (none_in_nil host has)
found_host (other ∷ hosts) order host has =
    let P : Option Host → Type 0 = λ found. found ≡ Some host in
    cond_both (other.assoc.index == host.assoc.index) (Some other) (find (λ (one : Host). one.assoc.index == host.assoc.index) hosts) P
    (λ told. ⊎_elim
    (λ (here : host ≡ other). ap Some (sym here))
    (λ (later : Contains hosts host). absurd (no_later other hosts order host later (sym ((Decides-assoc other.assoc host.assoc).0 told))))
    (member_cases other hosts host has))
    (λ told. ⊎_elim
    (λ (here : host ≡ other). absurd (not_from_Decides (other.assoc.index == host.assoc.index) (Decides-assoc other.assoc host.assoc) told (sym (ap
    (λ (h : Host). h.assoc) here))))
    (λ (later : Contains hosts host). found_host hosts (pairs_tail (λ (one next : Host). one.assoc.index < next.assoc.index) other hosts order) host later)
    (member_cases other hosts host has))

module _ (basis : Basis) (is : IsBasis basis) (held : HeldEntity basis) (few : HasFewPartners basis held.s) where
  abbrev key : List Value
  key = key_of (model_of basis) held.entity

  abbrev part : AssocId → Bool → PropId → Value
  part = part_by basis held.state held.s key

  told : (host : Host) → Contains (basis.hosts held.s) host → (link : Link) → links_at held.state host key ≡ link ∷ [] → TellsPartner basis host link part
  told host hosts link is_one assoc here p has =
      ap (λ found. option_map_or (part_at basis held.state key p) found Null) (found_host (basis.hosts held.s) (is.order held.s) host hosts)
      ∙ ap (λ found. option_map_or (λ (one : Assoc). part_in (model_of basis) (partner_end host.first_hosts one).ty host.first_hosts p
      (links_at held.state host key)) found Null) here
      ∙ ap (part_in (model_of basis) (partner_end host.first_hosts assoc).ty host.first_hosts p) is_one

  pub has_partners : HasPartners basis held.state held.s held.entity held.region (part_by basis held.state held.s (key_of (model_of basis) held.entity))
  has_partners = record {
    one = λ host hosts linked. (
        let by : IsHostOf basis.schema held.s host = (is.hosts held.s host).0 hosts in
        let found = flag_one basis is held (record { host = host; hosts = hosts; assoc = by.assoc; is_assoc = by.is_assoc }) (few host hosts by.assoc by.is_assoc) linked in
        (found.0, found.1, told host hosts found.0 found.1));
    none = λ host hosts not_linked. (
        let by : IsHostOf basis.schema held.s host = (is.hosts held.s host).0 hosts in
        flag_none basis is held (record { host = host; hosts = hosts; assoc = by.assoc; is_assoc = by.is_assoc }) (few host hosts by.assoc by.is_assoc) not_linked);
  }
