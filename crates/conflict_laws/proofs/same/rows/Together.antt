-- Entities of one key in two states with the same links: regions with the same flags hold them, with the same partners.
use Rattle.std.proofs.Common.{◌≡◌, ◌∷◌, [], List, Bool, Contains, sym, ap, subst, ◌∙◌}
use Rattle.std.specs.Option.{option_map_or}
use Rattle.emc_base.proofs.Lists.{only_member, only_stands}
use Rattle.emc_base.proofs.facts.Images.{flat_map_agree}
use Rattle.round_trip.specs.Words.{SetId, AssocId, PropId, Assoc, Entity, Hosted, IsLegal, Link, State, TypeId, Value, entities_in, key_of, links_in}
use Rattle.regions.specs.declared.region.Region.{Region}
use Rattle.regions.specs.Basis.{Basis, Host, IsHostedLink, host_end, partner_end}
use Rattle.regions.specs.Regions.{flagged}
use Rattle.regions.specs.region_laws.IsBasis.{AreHostedLinks, IsBasis, IsHostOf}
use Rattle.regions.specs.region_laws.Partners.{HasFewPartners, HasPartners, part_by}
use Rattle.regions.specs.region_laws.RegionAt.{flag_by, flag_in, has_link, hosted_links, links_at, region_at}
use Rattle.regions.specs.region_laws.Held.{IsHeldAt, IsOfRegion}
use Rattle.regions.proofs.region_laws.entities.Flags.{flag_is}
use Rattle.regions.proofs.region_laws.entities.Hosting.{hosted_are}
use Rattle.regions.proofs.region_laws.entities.Regions.{region_held}
use Rattle.region_states.proofs.focus.Flags.{held_at}
use Rattle.conflict_laws.proofs.same.states.HostedAt.{at_host, host_at}

-- each link of an association that is hosted at the set stands in the second state too
abbrev pub HasLinksToo : Basis → SetId → State → State → Type 0
HasLinksToo basis s c d = (host : Host) → Contains (basis.hosts s) host → (link : Link) → Contains (links_in c host.assoc) link → Contains (links_in d host.assoc) link

-- regions that hold the two entities, with the same flags and the same partners
pub record StandTogether (basis : Basis) (s : SetId) (c d : State) (x y : Entity) : Type 0 where
  pub one : Region
  pub two : Region
  pub part : AssocId → Bool → PropId → Value
  pub held_x : IsHeldAt basis c s x one part
  pub held_y : IsHeldAt basis d s y two part
  pub linked : one.linked ≡ two.linked

module _ (basis : Basis) (is : IsBasis basis) (s : SetId) (few : HasFewPartners basis s) (c d : State)
    (legal_c : IsLegal basis.schema.model c) (legal_d : IsLegal basis.schema.model d) (there : HasLinksToo basis s c d) (back : HasLinksToo basis s d c) (x y : Entity)
    (has_x : Contains (entities_in c s) x) (has_y : Contains (entities_in d s) y) (same : key_of basis.schema.model x ≡ key_of basis.schema.model y) where
  -- the links that the first entity hosts
  abbrev links : List Hosted
  links = hosted_links basis c s (key_of basis.schema.model x)

  hosted_x : AreHostedLinks basis c s x links
  hosted_x = hosted_are basis c s x

  -- the second entity hosts the same
  hosted_y : AreHostedLinks basis d s y links
  hosted_y = record {
    tells = λ hosted. (
      (λ has. (let by : IsHostedLink c (basis.hosts s) (key_of basis.schema.model x) hosted = (hosted_x.tells hosted).0 has in record {
        host = by.host;
        link = by.link;
        is_host = by.is_host;
        stands = there by.host by.is_host by.link by.stands;
        at_key = by.at_key ∙ same;
        seen = by.seen;
      })),
      (λ by. (hosted_x.tells hosted).1 (record {
        host = by.host;
        link = by.link;
        is_host = by.is_host;
        stands = back by.host by.is_host by.link by.stands;
        at_key = by.at_key ∙ sym same;
        seen = by.seen;
      })),
    );
  }

  -- the region of each entity
  abbrev region_x : Region
  region_x = region_at basis s x links

  abbrev region_y : Region
  region_y = region_at basis s y links

  -- holds it with these links
  of_x : IsOfRegion basis c s x region_x
  of_x = let by = region_held basis is (record { state = c; legal = legal_c; s = s; entity = x; stands = has_x }) links hosted_x in
      record { stands = has_x; listed = by.0; links = links; hosted = hosted_x; holds = by.1 }

  of_y : IsOfRegion basis d s y region_y
  of_y = let by = region_held basis is (record { state = d; legal = legal_d; s = s; entity = y; stands = has_y }) links hosted_y in
      record { stands = has_y; listed = by.0; links = links; hosted = hosted_y; holds = by.1 }

  -- a flag is told by the links alone, where the partners are few
  flag_told : (t : TypeId) (host : Host) → Contains (basis.hosts s) host → flag_in basis t links host ≡ flagged host.assoc (has_link links host.assoc)
  flag_told t host hosts =
      let by : IsHostOf basis.schema s host = (is.hosts s host).0 hosts in
      ap (λ found. option_map_or (λ (a : Assoc). flagged host.assoc (flag_by (basis.is_a t (host_end host.first_hosts a).ty) (partner_end host.first_hosts a).mult
      (has_link links host.assoc))) found []) by.is_assoc
      ∙ ap (flagged host.assoc) (flag_is (basis.is_a t (host_end host.first_hosts by.assoc).ty) (partner_end host.first_hosts by.assoc).mult (has_link links host.assoc)
      (few host hosts by.assoc by.is_assoc))

  -- so the regions have the same flags
  same_flags : region_x.linked ≡ region_y.linked
  same_flags = flat_map_agree (flag_in basis x.ty links) (flag_in basis y.ty links) (basis.hosts s) (λ host hosts. flag_told x.ty host hosts ∙ sym (flag_told y.ty host hosts))

  -- the parts of the keys of the first entity's partners
  abbrev part : AssocId → Bool → PropId → Value
  part = part_by basis c s (key_of basis.schema.model x)

  held_x : IsHeldAt basis c s x region_x part
  held_x = held_at basis is (record { state = c; legal = legal_c; s = s; entity = x; region = region_x; of_region = of_x }) few

  -- the second entity has its own partners
  held_own : IsHeldAt basis d s y region_y (part_by basis d s (key_of basis.schema.model y))
  held_own = held_at basis is (record { state = d; legal = legal_d; s = s; entity = y; region = region_y; of_region = of_y }) few

  -- and these are the first one's
  partners_y : HasPartners basis d s y region_y part
  partners_y = record {
    one = λ host hosts linked.
        let mine = held_x.partners.one host hosts (subst (λ flags. Contains flags host.assoc) (sym same_flags) linked) in
        let theirs = held_own.partners.one host hosts linked in
        let stands = host_at c host (key_of basis.schema.model x) mine.0 (only_stands (links_at c host (key_of basis.schema.model x)) mine.0 mine.1) in
        let moved : Contains (links_at d host (key_of basis.schema.model y)) mine.0 =
        at_host d host (key_of basis.schema.model y) mine.0 (there host hosts mine.0 stands.0) (stands.1 ∙ same) in
        let is_theirs : mine.0 ≡ theirs.0 = only_member (links_at d host (key_of basis.schema.model y)) theirs.0 mine.0 theirs.1 moved in
        (mine.0, theirs.1 ∙ ap (λ link. link ∷ []) (sym is_theirs), mine.2);
    none = held_own.partners.none;
  }

  -- and so both stand together
  pub stand_together : StandTogether basis s c d x y
  stand_together = record {
    one = region_x;
    two = region_y;
    part = part;
    held_x = held_x;
    held_y = record { stands = has_y; listed = held_own.listed; links = held_own.links; holds = held_own.holds; partners = partners_y };
    linked = same_flags;
  }
