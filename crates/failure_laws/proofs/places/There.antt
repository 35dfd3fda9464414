-- A legal state that fails does so at a set, or at the links of an association.
use Rattle.std.proofs.Common.{◌≡◌, ◌≢◌, ◌⊎◌, ⊎_elim, inl, inr, List, [], if◌then◌else◌, Bool, true, false, Contains, refl, subst, arith}
use Rattle.emc_base.proofs.Lists.{item_at}
use Rattle.round_trip.specs.Words.{Assoc, AssocId, At, EntitySet, FailsAt, FailsBy, ForeignKey, IsLegal, LinkFragment, Place, SetId, State, TableId, Value, place_at}
use Rattle.round_trip.specs.FailsAt.{Disagrees, IsHostedAt, IsSameAs}
use Rattle.round_trip.specs.declared.FailKind.{FailKind}
use Rattle.round_trip.specs.declared.FailKind.TheVariants as variant
use Rattle.round_trip.specs.soundness.mappings.Owners.{IsPlaced}
use Rattle.round_trip.specs.soundness.models.Constraints.{IsSoundEnd}
use Rattle.schema_laws.proofs.state_demand.lists.Lists.{none_in_nil}
use Rattle.schema_laws.proofs.sound_demand.Fitting.{sound_fragment, sound_link}
use Rattle.schema_laws.proofs.sound_demand.owners.Owned.{joined_to}
use Rattle.schema_laws.proofs.sound_demand.owners.Pairing.{sound_assoc}
use Rattle.cells.specs.Limits.{IsWithinLimits}
use Rattle.regions.specs.Basis.{Basis, Host, host_end}
use Rattle.regions.specs.region_laws.Held.{IsAtLinkRow, IsAtRow}
use Rattle.regions.specs.region_laws.IsBasis.{IsBasis}
use Rattle.regions.specs.region_laws.Partners.{HasFewPartners}
use Rattle.region_states.specs.focus.Held.{IsRowOfOne}
use Rattle.region_states.specs.conflicts.Conflicts.{IsTableOf}
use Rattle.region_states.specs.conflicts.There.{FailsByLinks, FailsByThere, FailsThere, IsRowOf, LinksFailThere, NoneFailsBefore, NoneFailsBy}
use Rattle.region_states.proofs.focus.Demanded.{row_of_one}
use Rattle.host_states.specs.Hosting.{HaveFewPartners}
use Rattle.host_states.proofs.FewPartners.{few_by_clear}
use Rattle.failure_laws.specs.Facts.{HasManyPartners}
use Rattle.failure_laws.proofs.links.LinkFacts.{Decides-many_links}
use Rattle.failure_laws.proofs.links.LinkThere.{many_there}
use Rattle.failure_laws.proofs.places.FewLinks.{few_links, many_or_few}

-- some set of the model fails by the kind, or the links of some association do
abbrev pub IsSomewhere : Basis → FailKind → Type 0
IsSomewhere basis kind = ((s : SetId) × (set : EntitySet) × At basis.schema.model.sets s.index set × FailsThere basis s kind)
    ⊎ ((a : AssocId) × (assoc : Assoc) × At basis.schema.model.assocs a.index assoc × LinksFailThere basis a kind)

module _ (basis : Basis) (is : IsBasis basis) where
  module _ (kind : FailKind) (place : Place) (c d : State) (legal : IsLegal basis.schema.model c) where
    at_set : (s : SetId) (set : EntitySet) → At basis.schema.model.sets s.index set → FailsByThere basis s kind place c d → IsSomewhere basis kind
    at_set s set is_set fails = inl (s, set, is_set, record { place = place; c = c; d = d; legal = legal; fails = fails })

    at_links : (a : AssocId) (assoc : Assoc) → At basis.schema.model.assocs a.index assoc → FailsByLinks basis a kind place c d → IsSomewhere basis kind
    at_links a assoc here fails = inr (a, assoc, here, record { place = place; c = c; d = d; legal = legal; fails = fails })

  -- the row of an entity that hosts few links
  row_of : (state : State) → IsLegal basis.schema.model state → (t : TableId) (key : List Value) (s : SetId) (entity : _) → (at : IsAtRow basis state s entity t key)
      → HasFewPartners basis s → IsRowOf basis state s t key
  row_of state legal t key s entity at few = record {
    pairing = at.pairing;
    owned = at.owned;
    entity = entity;
    at = at.at;
    few = few_links basis is s few state legal at.owned.set at.owned.is_set entity at.at.stands;
  }

  -- a table that a link writes as its own is the association's
  table_of : (state : State) (t : TableId) (key : List Value) (fragment : LinkFragment) (assoc : Assoc) (link : _) → IsAtLinkRow basis state fragment assoc link t key
      → IsTableOf basis fragment.assoc t
  table_of state t key fragment assoc link at = record { fragment = fragment; assoc = assoc; joined = at.joined; of_assoc = refl }

  -- a cell with two values is in the row of an entity, or of a link; or two links of an entity clash
  clash_at : IsWithinLimits basis.schema → (place : Place) (c d : State) → IsLegal basis.schema.model c → FailsBy basis.schema variant.Clash place c d → IsSomewhere basis variant.Clash
  clash_at limits place c d legal fails = by (row_of_one basis is c legal fails.t fails.key (fails.demands_one.0, fails.demands_one.1))
    where
      by : IsRowOfOne basis c fails.t fails.key → IsSomewhere basis variant.Clash
      by (inl (s, entity, at)) = ⊎_elim
          (λ (many : (a : AssocId) × HasManyPartners basis a).
          let P : AssocId → Type 0 = λ a. At basis.schema.model.assocs a.index many.1.at.assoc in
          inr (many.0, many.1.at.assoc, subst P many.1.of_assoc many.1.at.is_assoc, many_there basis is limits many.0 many.0 refl ((Decides-many_links basis many.0 is).1 many.1)))
          (λ (few : HasFewPartners basis s). at_set variant.Clash place c d legal s at.owned.set at.owned.is_set (fails, row_of c legal fails.t fails.key s entity at few))
          (many_or_few basis is s)
      by (inr (fragment, assoc, link, at)) =
          at_links variant.Clash place c d legal fragment.assoc assoc at.joined.is_assoc (fails, inl (table_of c fails.t fails.key fragment assoc link at))

  -- a null that isn't allowed is in such a row too
  null_at : HaveFewPartners basis → (place : Place) (c d : State) → IsLegal basis.schema.model c → FailsBy basis.schema variant.Null place c d → IsSomewhere basis variant.Null
  null_at few place c d legal fails = by (row_of_one basis is c legal fails.t fails.key fails.demands_row)
    where
      by : IsRowOfOne basis c fails.t fails.key → IsSomewhere basis variant.Null
      by (inl (s, entity, at)) = at_set variant.Null place c d legal s at.owned.set at.owned.is_set (fails, row_of c legal fails.t fails.key s entity at (few s))
      by (inr (fragment, assoc, link, at)) =
          at_links variant.Null place c d legal fragment.assoc assoc at.joined.is_assoc (fails, table_of c fails.t fails.key fragment assoc link at)

  -- a disagreement is at a fragment of entities; or at one of links, which are hosted at a set or have a table of their own
  module _ (place : Place) (c d : State) (legal : IsLegal basis.schema.model c) (fails : Disagrees basis.schema c place) (fragment : LinkFragment) (assoc : Assoc) (keys : List Value)
      (mapped : Contains basis.schema.mapping.links fragment) (here : At basis.schema.model.assocs fragment.assoc.index assoc) (place_is : place ≡ place_at fragment.place keys []) where
    at_host : (first_hosts : Bool) → IsHostedAt basis.schema fragment.table (if first_hosts then fragment.first else fragment.second) → IsSoundEnd basis.schema.model (host_end first_hosts assoc)
        → IsSomewhere basis variant.Disagrees
    at_host first_hosts hosted end =
        let host : Host = record { assoc = fragment.assoc; first_hosts = first_hosts } in
        let s : SetId = (host_end first_hosts assoc).set in
        let hosts : Contains (basis.hosts s) host = (is.hosts s host).1 (record {
          assoc = assoc;
          fragment = fragment;
          is_assoc = here;
          is_fragment = mapped;
          of_assoc = refl;
          hosted = hosted;
          at_set = refl;
        }) in
        at_set variant.Disagrees place c d legal s end.under.0 end.under.1 (fails, inr (fragment, host, keys, mapped, hosts, refl, place_is))

    at_link : IsPlaced basis.schema fragment assoc → IsSomewhere basis variant.Disagrees
    at_link (inl hosted) = at_host true hosted (sound_assoc basis.schema is.sound fragment assoc here).first
    at_link (inr (inl hosted)) = at_host false hosted (sound_assoc basis.schema is.sound fragment assoc here).second
    at_link (inr (inr joined)) =
        let of_table : IsTableOf basis fragment.assoc fragment.table = record {
          fragment = fragment;
          assoc = assoc;
          joined = joined_to basis.schema is.sound fragment.table fragment assoc (record { is_fragment = mapped; is_assoc = here; to_table = refl }) joined;
          of_assoc = refl;
        } in
        at_links variant.Disagrees place c d legal fragment.assoc assoc here
        (fails, record { t = fragment.table; of_table = of_table; fragment = fragment; keys = keys; mapped = mapped; of_assoc = refl; place_is = place_is })

  disagrees_at : (place : Place) (c d : State) → IsLegal basis.schema.model c → Disagrees basis.schema c place → IsSomewhere basis variant.Disagrees
  disagrees_at place c d legal fails = elim fails.broken [
    | inl (fragment, mapped, differs, place_is) ↦
        let found = item_at basis.schema.model.sets fragment.set.index (sound_fragment basis.schema is.sound fragment mapped).ids.set in
        at_set variant.Disagrees place c d legal fragment.set found.0 found.1 (fails, inl (fragment, _, mapped, refl, place_is))
    | inr (fragment, assoc, mapped, here, differs, place_is) ↦
        at_link place c d legal fails fragment assoc _ mapped here place_is (sound_link basis.schema is.sound fragment mapped assoc here).placed
  ]

  -- two states with the same tables differ at a set, or at an association that nothing maps
  same_at : (place : Place) (c d : State) → IsLegal basis.schema.model c → IsSameAs basis.schema c d place → IsSomewhere basis variant.Same
  same_at place c d legal fails = elim fails.differ [
    | inl (s, set, key, is_set, differs, place_is) ↦ at_set variant.Same place c d legal s set is_set (fails, (set, key, is_set, place_is))
    | inr (a, assoc, unmapped, differs, place_is) ↦ at_links variant.Same place c d legal a assoc unmapped.is_assoc (fails, (assoc, unmapped, place_is))
  ]

  module _ (limits : IsWithinLimits basis.schema) where
    -- so it is with each kind but dangling
    fails_there : (kind : FailKind) → kind ≢ variant.Dangling → NoneFailsBefore basis.schema kind → (place : Place) (c d : State) → IsLegal basis.schema.model c
        → FailsBy basis.schema kind place c d → IsSomewhere basis kind
    fails_there variant.Clash other before place c d legal fails = clash_at limits place c d legal fails
    fails_there variant.Null other before place c d legal fails = null_at (few_by_clear basis is limits (before variant.Clash (omega arith))) place c d legal fails
    fails_there variant.Disagrees other before place c d legal fails = disagrees_at place c d legal fails
    fails_there variant.Dangling other before place c d legal fails = absurd (other refl)
    fails_there variant.Same other before place c d legal fails = same_at place c d legal fails

    pub there : (kind : FailKind) → kind ≢ variant.Dangling → NoneFailsBefore basis.schema kind → (place : Place) (c d : State) → FailsAt basis.schema kind place c d
        → IsSomewhere basis kind
    there kind other before place c d fails = fails_there kind other before place c d fails.legal fails.fails

    -- where none fails at a set or at links, none fails
    pub none_fails : (kind : FailKind) → kind ≢ variant.Dangling → NoneFailsBefore basis.schema kind
        → ((s : SetId) (set : EntitySet) → At basis.schema.model.sets s.index set → ¬ FailsThere basis s kind)
        → ((a : AssocId) (assoc : Assoc) → At basis.schema.model.assocs a.index assoc → ¬ LinksFailThere basis a kind) → NoneFailsBy basis.schema kind
    none_fails kind other before no_set no_links place c d fails = elim (there kind other before place c d fails) [
      | inl (s, set, is_set, by) ↦ no_set s set is_set by
      | inr (a, assoc, here, by) ↦ no_links a assoc here by
    ]

module _ (basis : Basis) where
  -- what fails at a set fails
  fails_by : (s : SetId) (kind : FailKind) (place : Place) (c d : State) → FailsByThere basis s kind place c d → FailsBy basis.schema kind place c d
  fails_by s variant.Clash place c d fails = fails.0
  fails_by s variant.Null place c d fails = fails.0
  fails_by s variant.Disagrees place c d fails = fails.0
  fails_by s variant.Dangling place c d fails = absurd fails
  fails_by s variant.Same place c d fails = fails.0

  pub set_fails : (s : SetId) (kind : FailKind) → FailsThere basis s kind → (place : Place) × (c : State) × (d : State) × FailsAt basis.schema kind place c d
  set_fails s kind fails = (fails.place, fails.c, fails.d, record { legal = fails.legal; fails = fails_by s kind fails.place fails.c fails.d fails.fails })

  -- and so does what fails at links
  links_by : (a : AssocId) (kind : FailKind) (place : Place) (c d : State) → FailsByLinks basis a kind place c d → FailsBy basis.schema kind place c d
  links_by a variant.Clash place c d fails = fails.0
  links_by a variant.Null place c d fails = fails.0
  links_by a variant.Disagrees place c d fails = fails.0
  links_by a variant.Dangling place c d fails = absurd fails
  links_by a variant.Same place c d fails = fails.0

  pub links_fail : (a : AssocId) (kind : FailKind) → LinksFailThere basis a kind → (place : Place) × (c : State) × (d : State) × FailsAt basis.schema kind place c d
  links_fail a kind fails = (fails.place, fails.c, fails.d, record { legal = fails.legal; fails = links_by a kind fails.place fails.c fails.d fails.fails })

  -- without a foreign key no row refers
  pub none_dangles : basis.schema.store.keys ≡ [] → NoneFailsBy basis.schema variant.Dangling
  none_dangles no_keys place c d fails =
      let P : List ForeignKey → Type 0 = λ keys. Contains keys fails.fails.key in none_in_nil fails.fails.key (subst P no_keys fails.fails.is_key)
