-- What a legal state holds of the links that an entity hosts.
use Rattle.std.proofs.Common.{◌≡◌, ◌≢◌, List, [], ◌∷◌, map, Any, Contains, Bool, true, false, refl, sym, ap, subst, ◌∙◌}
use Rattle.std.proofs.lemmas.List.Elements.{All-contains}
use Rattle.emc_base.specs.Lists.{AtMostOne}
use Rattle.emc_base.proofs.Lists.{at_once}
use Rattle.emc_base.proofs.Mapped.{contains_filter, contains_map}
use Rattle.emc_base.proofs.Numbered.{filter_contains, map_contains}
use Rattle.round_trip.specs.Words.{SetId, AssocId, Value, EntityModel, EntitySet, Assoc, End, Entity, Hosted, Link, Mult, State, At, IsA, IsIndependent, IsLegal, AreLegalLinks, HasCount, HasEntityAt, entities_in, key_of, links_in}
use Rattle.edm_types.specs.declared.model.Mult.TheVariants.{One, ZeroOrOne, Many}
use Rattle.schema_laws.specs.state_demand.Selecting.{same_key}
use Rattle.schema_laws.proofs.state_demand.lists.Lists.{contains_flat_map, member_of_flat_map, of_any, same_by_key}
use Rattle.schema_laws.proofs.state_demand.writings.Selecting.{Decides-key}
use Rattle.schema_laws.proofs.sound_demand.Fitting.{sound_link}
use Rattle.regions.specs.Basis.{Basis, Host, IsHostedLink, host_end, host_key, partner_end, partner_key}
use Rattle.regions.specs.Regions.{model_of}
use Rattle.regions.specs.region_laws.IsBasis.{AreHostedLinks, IsBasis, IsHostOf}
use Rattle.regions.specs.region_laws.RegionAt.{hosted_links, links_at}
use Rattle.regions.proofs.region_laws.entities.Flags.{one_host}
use Rattle.regions.proofs.region_laws.lists.Found.{filter_none, filter_one}

-- each link has an entity at the end that hosts it
end_by : (model : EntityModel) (state : State) (assoc : Assoc) (links : List Link) → AreLegalLinks model state assoc links → (b : Bool) (link : Link) → Contains links link
    → HasEntityAt model state (host_end b assoc) (host_key b link)
end_by model state assoc links legal b link has =
    let Ends : Link → Type 0 = λ one. HasEntityAt model state assoc.first one.first × HasEntityAt model state assoc.second one.second in
    let both = All-contains Ends links link legal.ends has in
    go b both.0 both.1
  where
    go : (b : Bool) → HasEntityAt model state assoc.first link.first → HasEntityAt model state assoc.second link.second
        → HasEntityAt model state (host_end b assoc) (host_key b link)
    go true first second = first
    go false first second = second

-- and each entity at that end as many as the other end allows
count_by : (model : EntityModel) (state : State) (assoc : Assoc) (links : List Link) → AreLegalLinks model state assoc links → (b : Bool) (entity : Entity)
    → Contains (entities_in state (host_end b assoc).set) entity → IsA model entity.ty (host_end b assoc).ty
    → HasCount (partner_end b assoc).mult (λ link. host_key b link ≡ key_of model entity) links
count_by model state assoc links legal true entity has under =
    let Counts : Entity → Type 0 = λ one. IsA model one.ty assoc.first.ty → HasCount assoc.second.mult (λ link. link.first ≡ key_of model one) links in
    All-contains Counts (entities_in state assoc.first.set) entity legal.first_partners has under
count_by model state assoc links legal false entity has under =
    let Counts : Entity → Type 0 = λ one. IsA model one.ty assoc.second.ty → HasCount assoc.first.mult (λ link. link.second ≡ key_of model one) links in
    All-contains Counts (entities_in state assoc.second.set) entity legal.second_partners has under

-- a count of one has one
some_by : (P : Link → Type 0) (links : List Link) (mult : Mult) → mult ≡ One → HasCount mult P links → Any P links
some_by P links mult is count = (subst (λ m. HasCount m P links) is count).0

-- and a count of few has at most one
most_by : (P : Link → Type 0) (links : List Link) (mult : Mult) → mult ≢ Many → HasCount mult P links → AtMostOne P links
most_by P links One few count = count.1
most_by P links ZeroOrOne few count = count
most_by P links Many few count = absurd (few refl)

-- the listed links are those that the entity hosts
pub hosted_are : (basis : Basis) (state : State) (s : SetId) (entity : Entity) → AreHostedLinks basis state s entity (hosted_links basis state s (key_of
    (model_of basis) entity))
hosted_are basis state s entity = record { tells = λ hosted. (told hosted, tells hosted) }
  where
    key : List Value
    key = key_of (model_of basis) entity

    as_seen : Host → Link → Hosted
    as_seen host link = record { assoc = host.assoc; partner = partner_key host.first_hosts link }

    told : (hosted : Hosted) → Contains (hosted_links basis state s (key_of (model_of basis) entity)) hosted
        → IsHostedLink state (basis.hosts s) (key_of (model_of basis) entity) hosted
    told hosted has =
        let by_host = member_of_flat_map (λ (host : Host). map (as_seen host) (links_at state host key)) (basis.hosts s) hosted has in
        let host : Host = by_host.0 in
        let by_link = map_contains (as_seen host) (links_at state host key) hosted by_host.2 in
        let there = filter_contains (λ (link : Link). same_key (host_key host.first_hosts link) key) (links_in state host.assoc) by_link.0 by_link.1 in
        record {
          host = host;
          link = by_link.0;
          is_host = by_host.1;
          stands = there.0;
          at_key = (Decides-key (host_key host.first_hosts by_link.0) key).0 there.1;
          seen = sym by_link.2;
        }

    tells : (hosted : Hosted) → IsHostedLink state (basis.hosts s) (key_of (model_of basis) entity) hosted
        → Contains (hosted_links basis state s (key_of (model_of basis) entity)) hosted
    tells hosted by =
        subst (Contains (hosted_links basis state s key)) (sym by.seen)
        (contains_flat_map (λ (host : Host). map (as_seen host) (links_at state host key)) (basis.hosts s) by.host (as_seen by.host by.link) by.is_host
        (contains_map (as_seen by.host) (links_at state by.host key) by.link
        (contains_filter (λ (link : Link). same_key (host_key by.host.first_hosts link) key) (links_in state by.host.assoc) by.link by.stands
        ((Decides-key (host_key by.host.first_hosts by.link) key).1 by.at_key))))

module _ (basis : Basis) (is : IsBasis basis) (s : SetId) (host : Host) (hosts : Contains (basis.hosts s) host) (assoc : Assoc)
    (here : At (model_of basis).assocs host.assoc.index assoc) where
  pub host_of : IsHostOf basis.schema s host
  host_of = (is.hosts s host).0 hosts

  pub at_set : (host_end host.first_hosts assoc).set ≡ s
  at_set =
      let same : host_of.assoc ≡ assoc = at_once (model_of basis).assocs host.assoc.index host_of.assoc assoc host_of.is_assoc here in
      let P : Assoc → Type 0 = λ one. (host_end host.first_hosts one).set ≡ s in
      subst P same host_of.at_set

  pub independent : IsIndependent assoc
  independent =
      let P : AssocId → Type 0 = λ a. At (model_of basis).assocs a.index assoc in
      (sound_link basis.schema is.sound host_of.fragment host_of.is_fragment assoc (subst P (sym host_of.of_assoc) here)).independent

  module _ (state : State) (legal : IsLegal (model_of basis) state) where
    pub legal_links : AreLegalLinks (model_of basis) state assoc (links_in state host.assoc)
    legal_links = legal.links host.assoc assoc here independent

    module _ (set : EntitySet) (is_set : At (model_of basis).sets s.index set) (entity : Entity) (stands : Contains (entities_in state s) entity) where
      -- the key of the entity at the end that hosts
      abbrev pub AtEntity : Link → Type 0
      AtEntity link = host_key host.first_hosts link ≡ key_of (model_of basis) entity

      pub stands_at_end : Contains (entities_in state (host_end host.first_hosts assoc).set) entity
      stands_at_end = subst (λ one. Contains (entities_in state one) entity) (sym at_set) stands

      -- who has a link is of the type of the end
      pub covered : (link : Link) → Contains (links_in state host.assoc) link → AtEntity link → IsA (model_of basis) entity.ty (host_end host.first_hosts assoc).ty
      covered link has at_key =
          let end : End = host_end host.first_hosts assoc in
          let Here : Entity → Type 0 = λ x. IsA (model_of basis) x.ty end.ty × (key_of (model_of basis) x ≡ host_key host.first_hosts link) in
          let found = of_any Here (entities_in state end.set) (end_by (model_of basis) state assoc (links_in state host.assoc) legal_links host.first_hosts link has) in
          let there : Contains (entities_in state s) found.0 = subst (λ one. Contains (entities_in state one) found.0) at_set found.1 in
          let same : found.0 ≡ entity = same_by_key (key_of (model_of basis)) (entities_in state s) found.0 entity (legal.sets s set is_set).keys there stands
          (found.2.1 ∙ at_key) in
          subst (λ (x : Entity). IsA (model_of basis) x.ty end.ty) same found.2.0

      pub counts : IsA (model_of basis) entity.ty (host_end host.first_hosts assoc).ty → HasCount (partner_end host.first_hosts assoc).mult AtEntity (links_in state host.assoc)
      counts under = count_by (model_of basis) state assoc (links_in state host.assoc) legal_links host.first_hosts entity stands_at_end under

      -- a mandatory partner
      pub there : IsA (model_of basis) entity.ty (host_end host.first_hosts assoc).ty → (partner_end host.first_hosts assoc).mult ≡ One
          → (link : Link) × Contains (links_in state host.assoc) link × AtEntity link
      there under one = of_any AtEntity (links_in state host.assoc) (some_by AtEntity (links_in state host.assoc) (partner_end host.first_hosts assoc).mult one (counts under))

      -- of few partners, the one
      pub one_link : (partner_end host.first_hosts assoc).mult ≢ Many → (link : Link) → Contains (links_in state host.assoc) link → AtEntity link
          → links_at state host (key_of (model_of basis) entity) ≡ link ∷ []
      one_link few link has at_key =
          let key : List Value = key_of (model_of basis) entity in
          filter_one (λ (one : Link). same_key (host_key host.first_hosts one) key) AtEntity (λ one. Decides-key (host_key host.first_hosts one) key)
          (links_in state host.assoc) (most_by AtEntity (links_in state host.assoc) (partner_end host.first_hosts assoc).mult few (counts
          (covered link has at_key))) link has at_key

      pub no_link : ((link : Link) → Contains (links_in state host.assoc) link → AtEntity link → ⊥) → links_at state host (key_of (model_of basis) entity) ≡ []
      no_link none =
          let key : List Value = key_of (model_of basis) entity in
          filter_none (λ (one : Link). same_key (host_key host.first_hosts one) key) AtEntity
          (λ one. Decides-key (host_key host.first_hosts one) key) (links_in state host.assoc) none

      module _ (links : List Hosted) (hosted : AreHostedLinks basis state s entity links) where
        abbrev pub OfHost : Hosted → Type 0
        OfHost one = one.assoc ≡ host.assoc

        -- a link of the association among those that the entity hosts is one of the state
        pub link_of : Any OfHost links → (link : Link) × Contains (links_in state host.assoc) link × AtEntity link
        link_of any =
            let found = of_any OfHost links any in
            let by : IsHostedLink state (basis.hosts s) (key_of (model_of basis) entity) found.0 = (hosted.tells found.0).0 found.1 in
            let named : by.host.assoc ≡ host.assoc = sym (ap (λ (one : Hosted). one.assoc) by.seen) ∙ found.2 in
            let same : by.host ≡ host = one_host (basis.hosts s) (is.order s) by.host host by.is_host hosts named in
            let P : Host → Type 0 = λ one. Contains (links_in state one.assoc) by.link × (host_key one.first_hosts by.link ≡ key_of (model_of basis) entity) in
            let told : P host = subst P same (by.stands, by.at_key) in
            (by.link, told.0, told.1)

        -- and a link of the state at the entity is among those
        pub link_among : (link : Link) → Contains (links_in state host.assoc) link → AtEntity link → Any OfHost links
        link_among link has at_key =
            let seen : Hosted = record { assoc = host.assoc; partner = partner_key host.first_hosts link } in
            let among : Contains links seen = (hosted.tells seen).1 (record { host = host; link = link; is_host = hosts; stands = has; at_key = at_key; seen = refl }) in
            (among.0, seen, among.1, among.2, refl)
