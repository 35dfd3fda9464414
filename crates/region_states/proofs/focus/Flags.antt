-- What the flags of an entity's region tell of the links that it hosts.
use Rattle.std.proofs.Common.{◌≡◌, ◌≢◌, List, [], ◌∷◌, Bool, true, false, true≢false, Contains, refl, sym, ap, subst}
use Rattle.edm_types.specs.declared.model.Mult.TheVariants.{One, ZeroOrOne, Many}
use Rattle.round_trip.specs.Words.{Hosted, Link, Mult, TypeId, Value, IsA, key_of}
use Rattle.regions.specs.declared.region.Region.{Region}
use Rattle.regions.specs.Basis.{Basis, Host, host_end, partner_end, HostedAssoc}
use Rattle.regions.specs.region_laws.IsBasis.{IsBasis, IsHostOf}
use Rattle.regions.specs.region_laws.Partners.{HasFewPartners, part_by}
use Rattle.regions.specs.region_laws.RegionAt.{hosted_links, links_at, region_at}
use Rattle.regions.proofs.region_laws.entities.Hosting.{covered, hosted_are, no_link}
use Rattle.regions.proofs.region_laws.entities.Partners.{has_partners}
use Rattle.regions.proofs.region_laws.listing.Possible.{must_link}
use Rattle.regions.proofs.region_laws.entities.Regions.{flag_none, flag_one, region_held}
use Rattle.regions.proofs.region_laws.pattern.types.Regions.{PartsOf, parts_of}
use Rattle.regions.specs.region_laws.Held.{Standing, HeldEntity, IsHeldAt, IsOfRegion}

abbrev is_any : Mult → Bool
is_any One = false
is_any ZeroOrOne = false
is_any Many = true

one_few : One ≢ Many
one_few same = true≢false (sym (ap is_any same))

optional_few : ZeroOrOne ≢ Many
optional_few same = true≢false (sym (ap is_any same))

many_more : Many ≢ ZeroOrOne
many_more same = true≢false (ap is_any same)

module _ (basis : Basis) (is : IsBasis basis) where
  -- the region of an entity is one that holds it
  pub some_region : (standing : Standing basis) → (region : Region) × IsOfRegion basis standing.state standing.s standing.entity region
  some_region standing =
      let links : List Hosted = hosted_links basis standing.state standing.s (key_of basis.schema.model standing.entity) in
      let are = hosted_are basis standing.state standing.s standing.entity in
      let held = region_held basis is standing links are in (
        region_at basis standing.s standing.entity links,
        record { stands = standing.stands; listed = held.0; links = links; hosted = are; holds = held.1 },
      )

  module _ (held : HeldEntity basis) where
    abbrev key : List Value
    key = key_of basis.schema.model held.entity

    abbrev parts : PartsOf basis held.s held.region
    parts = parts_of basis held.s held.region held.of_region.listed

    -- where hosted associations let an entity have few partners, these are those of its links
    pub held_at : HasFewPartners basis held.s
        → IsHeldAt basis held.state held.s held.entity held.region (part_by basis held.state held.s (key_of basis.schema.model held.entity))
    held_at few = record {
      stands = held.of_region.stands;
      listed = held.of_region.listed;
      links = held.of_region.links;
      holds = held.of_region.holds;
      partners = has_partners basis is held few;
    }

    module _ (host : Host) (hosts : Contains (basis.hosts held.s) host) where
      abbrev by : IsHostOf basis.schema held.s host
      by = (is.hosts held.s host).0 hosts

      abbrev at : HostedAssoc basis held.s
      at = record { host = host; hosts = hosts; assoc = by.assoc; is_assoc = by.is_assoc }

      few_none : ¬ Contains held.region.linked host.assoc → (partner_end host.first_hosts by.assoc).mult ≢ Many → links_at held.state host key ≡ []
      few_none not_linked few = flag_none basis is held at few not_linked

      -- an entity without a flag of an association that lets it have any number of partners isn't of the end's type, and so has no link
      any_none : ¬ Contains held.region.linked host.assoc → (partner_end host.first_hosts by.assoc).mult ≡ Many → links_at held.state host key ≡ []
      any_none not_linked many =
          no_link basis is held.s host hosts by.assoc by.is_assoc held.state held.legal parts.set parts.is_set held.entity held.of_region.stands (λ link has at_key.
          let Under : TypeId → Type 0 = λ t. IsA basis.schema.model t (host_end host.first_hosts by.assoc).ty in
          let under : Under held.region.ty = subst Under held.of_region.holds.typed
          (covered basis is held.s host hosts by.assoc by.is_assoc held.state held.legal parts.set parts.is_set held.entity held.of_region.stands link has at_key) in
          not_linked (must_link basis is held.s held.region held.of_region.listed at under
          (let P : Mult → Type 0 = λ mult. mult ≢ ZeroOrOne in subst P (sym many) many_more)))

      pub unflagged : ¬ Contains held.region.linked host.assoc → links_at held.state host (key_of basis.schema.model held.entity) ≡ []
      unflagged not_linked = by_mult (partner_end host.first_hosts by.assoc).mult refl
        where
          by_mult : (mult : Mult) → (partner_end host.first_hosts by.assoc).mult ≡ mult → links_at held.state host (key_of basis.schema.model held.entity) ≡ []
          by_mult One is_one = few_none not_linked (let P : Mult → Type 0 = λ mult. mult ≢ Many in subst P (sym is_one) one_few)
          by_mult ZeroOrOne is_optional = few_none not_linked (let P : Mult → Type 0 = λ mult. mult ≢ Many in subst P (sym is_optional) optional_few)
          by_mult Many is_many = any_none not_linked is_many

    pub flagged_one : (at : HostedAssoc basis held.s) → Contains held.region.linked at.host.assoc → (partner_end at.host.first_hosts at.assoc).mult ≢ Many
        → (link : Link) × (links_at held.state at.host (key_of basis.schema.model held.entity) ≡ link ∷ [])
    flagged_one at linked few = flag_one basis is held at few linked
