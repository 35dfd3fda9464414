-- The links that cells answer are those that the basis lets an entity host.
use Rattle.std.proofs.Common.{◌≡◌, inl, inr, List, Bool, true, false, Contains, refl, sym, ap, subst, ◌∙◌, if◌then◌else◌}
use Rattle.round_trip.specs.Words.{Assoc, AssocId, At, Entity, Hosted, Link, LinkFragment, Schema, SetId, State, Value, key_of, links_in}
use Rattle.round_trip.specs.FailsAt.{IsHostedAt}
use Rattle.cells.specs.declared.parts.Parts.{Parts}
use Rattle.cells.specs.HostedLinks.{hosted_links}
use Rattle.cells.specs.HostedLinks as told
use Rattle.cells.specs.Parts.{AreParts, schema_in}
use Rattle.cells.proofs.Hosting.{hosted_here}
use Rattle.regions.specs.Basis.{Host, IsHostedLink, host_end, host_key, partner_key}
use Rattle.regions.specs.region_laws.IsBasis.{AreHostedLinks}
use Rattle.region_states.specs.region_basis.BasisOf.{basis_of, hosts_in}
use Rattle.region_states.proofs.region_basis.Hosts.{hosted_is, is_hosted}

module _ (schema : Schema) (state : State) (s : SetId) (key : List Value) (hosted : Hosted) where
  -- a link that is hosted at this end
  at_end : (first_hosts : Bool) (fragment : LinkFragment) (assoc : Assoc) (link : Link) → Contains schema.mapping.links fragment
      → At schema.model.assocs fragment.assoc.index assoc → Contains (links_in state fragment.assoc) link
      → IsHostedAt schema fragment.table (if first_hosts then fragment.first else fragment.second) → (host_end first_hosts assoc).set ≡ s → host_key first_hosts link ≡ key
      → hosted.assoc ≡ fragment.assoc → partner_key first_hosts link ≡ hosted.partner → told.IsHostedLink schema state s key hosted
  at_end true fragment assoc link has here stands at of_set of_key is partner = record {
    fragment = fragment;
    assoc = assoc;
    link = link;
    is_fragment = has;
    is_assoc = here;
    stands = stands;
    of_assoc = is;
    end = inl (at, of_set, of_key, partner);
  }
  at_end false fragment assoc link has here stands at of_set of_key is partner = record {
    fragment = fragment;
    assoc = assoc;
    link = link;
    is_fragment = has;
    is_assoc = here;
    stands = stands;
    of_assoc = is;
    end = inr (at, of_set, of_key, partner);
  }

module _ (parts : Parts) (are : AreParts parts) (state : State) (s : SetId) (key : List Value) (hosted : Hosted) where
  abbrev schema : Schema
  schema = schema_in parts

  abbrev hosts : List Host
  hosts = hosts_in schema.model parts.cells.now.places s

  -- a link of the mapping is one of a host of the basis
  by_host : (first_hosts : Bool) (fragment : LinkFragment) (assoc : Assoc) (link : Link) → Contains schema.mapping.links fragment
      → At schema.model.assocs fragment.assoc.index assoc → Contains (links_in state fragment.assoc) link
      → IsHostedAt schema fragment.table (if first_hosts then fragment.first else fragment.second) → (host_end first_hosts assoc).set ≡ s → host_key first_hosts link ≡ key
      → hosted.assoc ≡ fragment.assoc → partner_key first_hosts link ≡ hosted.partner → IsHostedLink state hosts key hosted
  by_host first_hosts fragment assoc link has here stands at of_set of_key is partner =
      let host : Host = record { assoc = fragment.assoc; first_hosts = first_hosts } in
      record {
        host = host;
        link = link;
        is_host = is_hosted schema are.sound parts.cells.now.places are.cells.places s host
            (record { assoc = assoc; fragment = fragment; is_assoc = here; is_fragment = has; of_assoc = refl; hosted = at; at_set = of_set });
        stands = stands;
        at_key = of_key;
        seen = let other = sym partner in λ i. record { assoc = is i; partner = other i };
      }

  from_told : told.IsHostedLink schema state s key hosted → IsHostedLink state hosts key hosted
  from_told is = elim is.end [
    | inl first ↦ by_host true is.fragment is.assoc is.link is.is_fragment is.is_assoc is.stands first.0 first.1 first.2 is.of_assoc first.3
    | inr second ↦ by_host false is.fragment is.assoc is.link is.is_fragment is.is_assoc is.stands second.0 second.1 second.2 is.of_assoc second.3
  ]

  to_told : IsHostedLink state hosts key hosted → told.IsHostedLink schema state s key hosted
  to_told is =
      let host = is.host in
      let of = hosted_is schema are.sound parts.cells.now.places are.cells.places s host is.is_host in
      let Known : AssocId → Type 0 = λ id. At schema.model.assocs id.index of.assoc in
      let Stands : AssocId → Type 0 = λ id. Contains (links_in state id) is.link in
      at_end schema state s key hosted host.first_hosts of.fragment of.assoc is.link of.is_fragment (subst Known (sym of.of_assoc) of.is_assoc)
      (subst Stands (sym of.of_assoc) is.stands) of.hosted of.at_set is.at_key (ap (λ (one : Hosted). one.assoc) is.seen ∙ sym of.of_assoc)
      (sym (ap (λ (one : Hosted). one.partner) is.seen))

pub links_of_basis : (parts : Parts) → AreParts parts → (state : State) (s : SetId) (entity : Entity) → AreHostedLinks (basis_of parts) state s entity
    (hosted_links (schema_in parts).model parts.cells.now state s (key_of (schema_in parts).model entity))
links_of_basis parts are state s entity = record {
  tells = λ hosted.
      (let key = key_of (schema_in parts).model entity in
      let here = hosted_here (schema_in parts) are.sound parts.cells.now are.cells state s key hosted in (
        λ has. from_told parts are state s key hosted (here.0 has),
        λ is. here.1 (to_told parts are state s key hosted is),
      ));
}
