-- Where the associations that are hosted at a set let an entity have few partners, an entity hosts few links; and whether they do is decided.
use Rattle.std.proofs.Common.{◌≡◌, ◌≢◌, ◌⊎◌, ⊎_elim, inl, inr, List, slice_get, Option, Some, None, Contains, refl, sym, ap, ◌∙◌}
use Rattle.emc_base.proofs.Lists.{at_once, only_member}
use Rattle.emc_base.proofs.Numbered.{filter_contains}
use Rattle.edm_types.specs.declared.model.Mult.TheVariants.{One, ZeroOrOne, Many}
use Rattle.round_trip.specs.Words.{SetId, AssocId, Value, Assoc, Entity, EntitySet, Link, Mult, State, At, IsLegal, entities_in, key_of, links_in}
use Rattle.schema_laws.specs.state_demand.Selecting.{same_key}
use Rattle.schema_laws.proofs.state_demand.lists.Lists.{any_or_none}
use Rattle.schema_laws.proofs.state_demand.writings.Selecting.{Decides-key}
use Rattle.regions.specs.Basis.{Basis, Host, HostedAssoc, host_key, partner_end}
use Rattle.regions.specs.region_laws.IsBasis.{IsBasis, IsHostOf}
use Rattle.regions.specs.region_laws.Partners.{HasFewPartners}
use Rattle.regions.specs.region_laws.RegionAt.{links_at}
use Rattle.regions.proofs.region_laws.entities.Hosting.{one_link}
use Rattle.region_states.specs.conflicts.There.{HasFewLinks}
use Rattle.failure_laws.specs.Facts.{HasManyPartners}

-- a multiplicity is any number, or it isn't
pub many_or_not : (mult : Mult) → (mult ≡ Many) ⊎ (mult ≢ Many)
many_or_not One = inr (λ same. cc)
many_or_not ZeroOrOne = inr (λ same. cc)
many_or_not Many = inl refl

module _ (basis : Basis) (is : IsBasis basis) (s : SetId) where
  abbrev IsMany : Host → Type 0
  IsMany host = (assoc : Assoc) × At basis.schema.model.assocs host.assoc.index assoc × ((partner_end host.first_hosts assoc).mult ≡ Many)

  is_many_or_not : (host : Host) → IsMany host ⊎ ¬ IsMany host
  is_many_or_not host = by (slice_get basis.schema.model.assocs host.assoc.index) refl
    where
      by : (found : Option Assoc) → slice_get basis.schema.model.assocs host.assoc.index ≡ found → IsMany host ⊎ ¬ IsMany host
      by None none = inr (λ many. let never : None ≡ Some many.0 = sym none ∙ many.1 in cc)
      by (Some assoc) here = ⊎_elim
          (λ many. inl (assoc, here, many))
          (λ (few : (partner_end host.first_hosts assoc).mult ≢ Many). inr (λ many. few
          (ap (λ (one : Assoc). (partner_end host.first_hosts one).mult) (at_once basis.schema.model.assocs host.assoc.index assoc many.0 here many.1) ∙ many.2)))
          (many_or_not (partner_end host.first_hosts assoc).mult)

  -- some association that is hosted at the set lets an entity have any number of partners, or none does
  pub many_or_few : ((a : AssocId) × HasManyPartners basis a) ⊎ HasFewPartners basis s
  many_or_few = ⊎_elim
      (λ (found : (host : Host) × Contains (basis.hosts s) host × IsMany host).
      let at : HostedAssoc basis s = record { host = found.0; hosts = found.1; assoc = found.2.0; is_assoc = found.2.1 } in
      inl (found.0.assoc, record { s = s; at = at; of_assoc = refl; many = found.2.2 }))
      (λ (none : (host : Host) → Contains (basis.hosts s) host → ¬ IsMany host). inr (λ host has assoc here many. none host has (assoc, here, many)))
      (any_or_none IsMany is_many_or_not (basis.hosts s))

  -- where none does, an entity of a legal state hosts few links
  pub few_links : HasFewPartners basis s → (state : State) → IsLegal basis.schema.model state → (set : EntitySet) → At basis.schema.model.sets s.index set
      → (entity : Entity) → Contains (entities_in state s) entity → HasFewLinks basis state s entity
  few_links few state legal set is_set entity stands host hosts one two has_one has_two =
      let by : IsHostOf basis.schema s host = (is.hosts s host).0 hosts in
      let key : List Value = key_of basis.schema.model entity in
      let kept = filter_contains (λ (link : Link). same_key (host_key host.first_hosts link) key) (links_in state host.assoc) one has_one in
      let alone = one_link basis is s host hosts by.assoc by.is_assoc state legal set is_set entity stands (few host hosts by.assoc by.is_assoc) one kept.0
      ((Decides-key (host_key host.first_hosts one) key).0 kept.1) in
      sym (only_member (links_at state host key) one two alone has_two)
