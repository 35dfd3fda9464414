-- The ends of hosted associations: told by who hosts, and told as the first and the second.
use Rattle.std.proofs.Common.{◌≡◌, List, [], ◌∷◌, ◌++◌, filter, flat_map, slice_get, Bool, true, false, not, All, AllPairs, Contains, Option, Some, None, refl, sym, ap, subst, ◌∙◌, ◌<◌, arith}
use Rattle.std.specs.Option.{option_map_or}
use Rattle.std.proofs.lemmas.List.Elements.{All-contains}
use Rattle.std.proofs.lemmas.List.Kept.{AllPairs-cons, AllPairs-filter}
use Rattle.emc_base.proofs.Joined.{apart-append, in_flat_map, pairs_head, pairs_tail}
use Rattle.emc_base.proofs.Lists.{all_from_members, only_member}
use Rattle.emc_base.proofs.Members.{contains_head, contains_nil, contains_tail}
use Rattle.emc_base.proofs.FoundItems.{contains_flat_map}
use Rattle.emc_base.proofs.Mapped.{contains_filter}
use Rattle.emc_base.proofs.Numbered.{filter_contains}
use Rattle.round_trip.specs.Words.{SetId, Assoc, End, Link, At, IsA, IsIndependent, Value}
use Rattle.round_trip.specs.soundness.models.Constraints.{IsSoundEnd}
use Rattle.emc_base.proofs.Mapped.{contains_at}
use Rattle.regions.specs.declared.region.Region.{Region}
use Rattle.regions.specs.Basis.{Basis, Host, host_end, host_key, partner_end, partner_key}
use Rattle.regions.specs.Regions.{regions_of}
use Rattle.regions.specs.Symbols.{is_linked}
use Rattle.regions.specs.region_laws.IsBasis.{IsBasis, IsHostOf}
use Rattle.regions.proofs.region_laws.entities.Hosting.{at_set, independent}
use Rattle.regions.proofs.region_laws.listing.Listed.{set_is}
use Rattle.regions.proofs.region_laws.listing.Possible.{may_link}
use Rattle.regions.proofs.region_laws.pattern.symbols.Origins.{linked_decided}
use Rattle.population.specs.Numbered.{end_of}
use Rattle.population.specs.Supported.{end_key}
use Rattle.population.proofs.plain.Numbered.{sound_end}
use Rattle.host_states.specs.FocusStates.{by_assoc, few_hosts, has_few, linked_hosts}

pub host_side : (first : Bool) (assoc : Assoc) → host_end first assoc ≡ end_of first assoc
host_side true assoc = refl
host_side false assoc = refl

pub partner_side : (first : Bool) (assoc : Assoc) → partner_end first assoc ≡ end_of (not first) assoc
partner_side true assoc = refl
partner_side false assoc = refl

pub host_key_is : (first : Bool) (link : Link) → host_key first link ≡ end_key first link
host_key_is true link = refl
host_key_is false link = refl

pub partner_key_is : (first : Bool) (link : Link) → partner_key first link ≡ end_key (not first) link
partner_key_is true link = refl
partner_key_is false link = refl

pub twice_not : (b : Bool) → not (not b) ≡ b
twice_not true = refl
twice_not false = refl

-- an association that is hosted at the set, of which the region has a link
pub record IsLinkedHost (basis : Basis) (s : SetId) (region : Region) (host : Host) (assoc : Assoc) : Type 0 where
  pub hosts : Contains (basis.hosts s) host
  pub linked : Contains region.linked host.assoc
  pub is_assoc : At basis.schema.model.assocs host.assoc.index assoc

module _ (basis : Basis) where
  -- what is made of hosted associations
  pub from_assoc : {X : Type 0} (make : Host → Assoc → X) (host : Host) (x : X) → Contains (by_assoc basis make host) x
      → (assoc : Assoc) × At basis.schema.model.assocs host.assoc.index assoc × (x ≡ make host assoc)
  from_assoc make host x = by (slice_get basis.schema.model.assocs host.assoc.index) refl
    where
      by : (found : Option Assoc) → slice_get basis.schema.model.assocs host.assoc.index ≡ found → Contains (option_map_or (λ assoc. make host assoc ∷ []) found []) x
          → (assoc : Assoc) × At basis.schema.model.assocs host.assoc.index assoc × (x ≡ make host assoc)
      by None none in_none = absurd (contains_nil x in_none)
      by (Some assoc) here in_some = (assoc, here, only_member (make host assoc ∷ []) (make host assoc) x refl in_some)

  pub to_assoc : {X : Type 0} (make : Host → Assoc → X) (host : Host) (assoc : Assoc) → At basis.schema.model.assocs host.assoc.index assoc
      → Contains (by_assoc basis make host) (make host assoc)
  to_assoc make host assoc here = subst (λ found. Contains (option_map_or (λ one. make host one ∷ []) found []) (make host assoc)) (sym here) (contains_head (make host assoc) [])

  -- pairs of what is made of hosted associations in their order
  pub pairs_of_hosts : {X : Type 0} (make : Host → Assoc → X) (R : X → X → Type 0) (hosts : List Host) → AllPairs (λ one next. one.assoc.index < next.assoc.index) hosts
      → ((host other : Host) (assoc also : Assoc) → Contains hosts host → Contains hosts other → At basis.schema.model.assocs host.assoc.index assoc
      → At basis.schema.model.assocs other.assoc.index also → host.assoc.index < other.assoc.index → R (make host assoc) (make other also))
      → AllPairs R (flat_map (by_assoc basis make) hosts)
  pairs_of_hosts make R [] up each = λ i j d below within. absurd (omega (arith, within))
  pairs_of_hosts {X} make R (host ∷ hosts) up each =
      let rest : List X = flat_map (by_assoc basis make) hosts in
      apart-append R (by_assoc basis make host) rest (one_alone (slice_get basis.schema.model.assocs host.assoc.index))
      (pairs_of_hosts make R hosts (pairs_tail (λ (one next : Host). one.assoc.index < next.assoc.index) host hosts up)
      (λ one other assoc also has_one has_other. each one other assoc also (contains_tail host hosts one has_one) (contains_tail host hosts other has_other)))
      (all_from_members (λ x. All (R x) rest) (by_assoc basis make host) (λ x has_x. all_from_members (R x) rest (λ y has_y.
      let one = from_assoc make host x has_x in
      let found = in_flat_map (by_assoc basis make) hosts y has_y in
      let two = from_assoc make found.0 y found.2 in
      let less = All-contains (λ (next : Host). host.assoc.index < next.assoc.index) hosts found.0 (pairs_head (λ (a next : Host). a.assoc.index < next.assoc.index) host hosts up) found.1 in
      subst (λ z. R z y) (sym one.2) (subst (R (make host one.0)) (sym two.2)
      (each host found.0 one.0 two.0 (contains_head host hosts) (contains_tail host hosts found.0 found.1) one.1 two.1 less)))))
    where
      one_alone : (found : Option Assoc) → AllPairs R (option_map_or (λ assoc. make host assoc ∷ []) found [])
      one_alone None = λ i j d below within. absurd (omega (arith, within))
      one_alone (Some assoc) = AllPairs-cons R (make host assoc) [] (λ i d below. absurd (omega (arith, below))) (λ i j d below within. absurd (omega (arith, within)))

module _ (basis : Basis) (is : IsBasis basis) (s : SetId) (region : Region) (has : Contains (regions_of basis s) region) where
  -- those of which the region has a link
  pub linked_is : (host : Host) → Contains (linked_hosts basis region) host → Contains (basis.hosts s) host × Contains region.linked host.assoc
  linked_is host there =
      let kept = filter_contains (λ (one : Host). is_linked basis region.linked one.assoc) (basis.hosts region.set) host there in
      (subst (λ u. Contains (basis.hosts u) host) (set_is basis s region has) kept.0, (linked_decided basis region.linked host.assoc).0 kept.1)

  pub is_linked_host : (host : Host) → Contains (basis.hosts s) host → Contains region.linked host.assoc → Contains (linked_hosts basis region) host
  is_linked_host host hosts linked =
      contains_filter (λ (one : Host). is_linked basis region.linked one.assoc) (basis.hosts region.set) host
      (subst (λ u. Contains (basis.hosts u) host) (sym (set_is basis s region has)) hosts) ((linked_decided basis region.linked host.assoc).1 linked)

  pub linked_order : AllPairs (λ one next. one.assoc.index < next.assoc.index) (linked_hosts basis region)
  linked_order = AllPairs-filter (λ (one next : Host). one.assoc.index < next.assoc.index) (λ (one : Host). is_linked basis region.linked one.assoc) (basis.hosts region.set)
      (is.order region.set)

  pub few_is : (host : Host) → Contains (few_hosts basis region) host → Contains (linked_hosts basis region) host × (has_few basis host ≡ true)
  few_is host there = filter_contains (has_few basis) (linked_hosts basis region) host there

  pub few_order : AllPairs (λ one next. one.assoc.index < next.assoc.index) (few_hosts basis region)
  few_order = AllPairs-filter (λ (one next : Host). one.assoc.index < next.assoc.index) (has_few basis) (linked_hosts basis region) linked_order

  module _ (host : Host) (assoc : Assoc) (by : IsLinkedHost basis s region host assoc) where
    -- the entities of the region stand at the end that hosts
    pub near_set : (end_of host.first_hosts assoc).set ≡ s
    near_set = ap (λ (end : End). end.set) (sym (host_side host.first_hosts assoc)) ∙ at_set basis is s host by.hosts assoc by.is_assoc

    pub near_covers : IsA basis.schema.model region.ty (end_of host.first_hosts assoc).ty
    near_covers = subst (λ (end : End). IsA basis.schema.model region.ty end.ty) (host_side host.first_hosts assoc) (may_link basis is s region has (record { host = host; hosts = by.hosts; assoc = assoc; is_assoc = by.is_assoc }) by.linked)

    pub no_constraint : IsIndependent assoc
    no_constraint = independent basis is s host by.hosts assoc by.is_assoc

    pub far_sound : IsSoundEnd basis.schema.model (partner_end host.first_hosts assoc)
    far_sound = subst (IsSoundEnd basis.schema.model) (sym (partner_side host.first_hosts assoc))
        (sound_end basis.schema.model is.sound.model assoc (contains_at basis.schema.model.assocs host.assoc.index assoc by.is_assoc) (not host.first_hosts))
