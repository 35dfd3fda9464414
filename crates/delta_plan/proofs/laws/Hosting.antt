-- The links that cells answer are those that a basis of their schema lets an entity host.
use Rattle.std.proofs.Common.{◌≡◌, ◌∙◌, inl, inr, List, Bool, true, false, Contains, refl, sym, ap, subst, if◌then◌else◌}
use Rattle.round_trip.specs.Words.{Assoc, AssocId, At, Entity, Hosted, Link, LinkFragment, SetId, State, Value, key_of, links_in}
use Rattle.round_trip.specs.FailsAt.{IsHostedAt}
use Rattle.cells.specs.declared.cells.Cells.{Cells}
use Rattle.cells.specs.Cells.{TellsCells}
use Rattle.cells.specs.HostedLinks.{hosted_links}
use Rattle.cells.specs.HostedLinks as told
use Rattle.cells.proofs.Hosting.{hosted_here}
use Rattle.regions.specs.Basis.{Basis, Host, IsHostedLink, host_end, host_key, partner_key}
use Rattle.regions.specs.region_laws.IsBasis.{AreHostedLinks, IsBasis}

module _ (basis : Basis) (is : IsBasis basis) (state : State) (s : SetId) (key : List Value) (hosted : Hosted) where
  -- a fragment lets the entity of the key host the link, at this end
  record IsHostedBy (first_hosts : Bool) (fragment : LinkFragment) (assoc : Assoc) (link : Link) : Type 0 where
    is_fragment : Contains basis.schema.mapping.links fragment
    is_assoc : At basis.schema.model.assocs fragment.assoc.index assoc
    stands : Contains (links_in state fragment.assoc) link
    at_end : IsHostedAt basis.schema fragment.table (if first_hosts then fragment.first else fragment.second)
    of_set : (host_end first_hosts assoc).set ≡ s
    of_key : host_key first_hosts link ≡ key
    of_assoc : hosted.assoc ≡ fragment.assoc
    of_partner : partner_key first_hosts link ≡ hosted.partner

  by_host : (first_hosts : Bool) (fragment : LinkFragment) (assoc : Assoc) (link : Link) → IsHostedBy first_hosts fragment assoc link
      → IsHostedLink state (basis.hosts s) key hosted
  by_host first_hosts fragment assoc link by =
      let host : Host = record { assoc = fragment.assoc; first_hosts = first_hosts } in
      record {
        host = host;
        link = link;
        is_host = (is.hosts s host).1 (record {
          assoc = assoc;
          fragment = fragment;
          is_assoc = by.is_assoc;
          is_fragment = by.is_fragment;
          of_assoc = refl;
          hosted = by.at_end;
          at_set = by.of_set;
        });
        stands = by.stands;
        at_key = by.of_key;
        seen = (let same = by.of_assoc in let partner = sym by.of_partner in λ i. record { assoc = same i; partner = partner i });
      }

  by_fragment : (first_hosts : Bool) (fragment : LinkFragment) (assoc : Assoc) (link : Link) → IsHostedBy first_hosts fragment assoc link
      → told.IsHostedLink basis.schema state s key hosted
  by_fragment true fragment assoc link by = record {
    fragment = fragment;
    assoc = assoc;
    link = link;
    is_fragment = by.is_fragment;
    is_assoc = by.is_assoc;
    stands = by.stands;
    of_assoc = by.of_assoc;
    end = inl (by.at_end, by.of_set, by.of_key, by.of_partner);
  }
  by_fragment false fragment assoc link by = record {
    fragment = fragment;
    assoc = assoc;
    link = link;
    is_fragment = by.is_fragment;
    is_assoc = by.is_assoc;
    stands = by.stands;
    of_assoc = by.of_assoc;
    end = inr (by.at_end, by.of_set, by.of_key, by.of_partner);
  }

  from_told : told.IsHostedLink basis.schema state s key hosted → IsHostedLink state (basis.hosts s) key hosted
  from_told of = elim of.end [
    | inl first ↦ by_host true of.fragment of.assoc of.link (record {
      is_fragment = of.is_fragment;
      is_assoc = of.is_assoc;
      stands = of.stands;
      at_end = first.0;
      of_set = first.1;
      of_key = first.2;
      of_assoc = of.of_assoc;
      of_partner = first.3;
    })
    | inr second ↦ by_host false of.fragment of.assoc of.link (record {
      is_fragment = of.is_fragment;
      is_assoc = of.is_assoc;
      stands = of.stands;
      at_end = second.0;
      of_set = second.1;
      of_key = second.2;
      of_assoc = of.of_assoc;
      of_partner = second.3;
    })
  ]

  to_told : IsHostedLink state (basis.hosts s) key hosted → told.IsHostedLink basis.schema state s key hosted
  to_told of =
      let host = of.host in
      let by = (is.hosts s host).0 of.is_host in
      let Known : AssocId → Type 0 = λ a. At basis.schema.model.assocs a.index by.assoc in
      let Stands : AssocId → Type 0 = λ a. Contains (links_in state a) of.link in
      by_fragment host.first_hosts by.fragment by.assoc of.link (record {
        is_fragment = by.is_fragment;
        is_assoc = subst Known (sym by.of_assoc) by.is_assoc;
        stands = subst Stands (sym by.of_assoc) of.stands;
        at_end = by.hosted;
        of_set = by.at_set;
        of_key = of.at_key;
        of_assoc = ap (λ (one : Hosted). one.assoc) of.seen ∙ sym by.of_assoc;
        of_partner = sym (ap (λ (one : Hosted). one.partner) of.seen);
      })

pub are_hosted : (basis : Basis) → IsBasis basis → (cells : Cells) → TellsCells basis.schema cells → (state : State) (s : SetId) (entity : Entity)
    → AreHostedLinks basis state s entity (hosted_links basis.schema.model cells state s (key_of basis.schema.model entity))
are_hosted basis is cells tells state s entity = record {
  tells = λ hosted.
      (let key = key_of basis.schema.model entity in
      let here = hosted_here basis.schema is.sound cells tells state s key hosted in
      (λ has. from_told basis is state s key hosted (here.0 has), λ of. here.1 (to_told basis is state s key hosted of)));
}
