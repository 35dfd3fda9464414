-- Two supported states whose given entities and keys are the same but at one key of one set: so are their entities, and their links.
use Rattle.std.proofs.Common.{◌≡◌, ◌≢◌, ◌⊎◌, ⊎_elim, inl, inr, ℕ, ◌==◌, List, [], ◌++◌, map, filter, Any, Contains, Bool, true, false, not, refl, sym, ap, subst, ◌∙◌}
use Rattle.std.proofs.lemmas.Option.{MatchOption-at_none}
use Rattle.std.proofs.lemmas.List.Elements.{All-contains, Contains-append_cases, Contains-append_left, Contains-append_right}
use Rattle.emc_base.proofs.Mapped.{contains_at, contains_filter, contains_map}
use Rattle.emc_base.proofs.Numbered.{filter_contains}
use Rattle.round_trip.specs.Words.{SetId, TableId, AssocId, Value, EntityModel, Assoc, End, Entity, Link, LinkFragment, State, At, IsIndependent, entities_in, key_of, links_in}
use Rattle.edm_types.specs.declared.model.Mult.TheVariants.{One, Many}
use Rattle.round_trip.specs.FailsAt.{IsHostedAt}
use Rattle.round_trip.specs.soundness.models.Constraints.{HasIndependentMults, IsSoundAssoc, IsSoundConstraint}
use Rattle.round_trip.specs.soundness.mappings.Owners.{IsJoined, IsPlaced, LinkMaps}
use Rattle.schema_laws.specs.state_demand.Owners.{IsJoinedTo}
use Rattle.schema_laws.specs.state_demand.Selecting.{same_key}
use Rattle.schema_laws.proofs.sound_demand.Fitting.{sound_link}
use Rattle.schema_laws.proofs.sound_demand.owners.OneOwner.{owned_or_joined}
use Rattle.schema_laws.proofs.sound_demand.owners.Owned.{owned}
use Rattle.schema_laws.proofs.state_demand.lists.Ids.{Decides-set}
use Rattle.schema_laws.proofs.state_demand.writings.Decisions.{both_or_not, key_or_not, so_or_not}
use Rattle.schema_laws.proofs.state_demand.writings.Selecting.{Decides-key}
use Rattle.regions.specs.Basis.{Basis, Host, host_end, host_key, partner_end}
use Rattle.regions.specs.region_laws.IsBasis.{IsBasis}
use Rattle.regions.specs.region_laws.RegionAt.{links_at}
use Rattle.regions.proofs.region_laws.entities.Hosting.{at_set, independent}
use Rattle.regions.proofs.region_laws.pattern.symbols.Origins.{side}
use Rattle.host_states.specs.Hosting.{HaveFewPartners}
use Rattle.population.specs.Numbered.{end_number, end_of, numbered, numbered_key}
use Rattle.population.specs.Plain.{plain}
use Rattle.population.specs.declared.placed.PlacedKey.{PlacedKey}
use Rattle.population.specs.Supported.{added_at, added_link, end_key, given_in, keys_in, lacks_link, links_of, stands_in, supported}
use Rattle.population.specs.declared.placed.Placed.{Placed}
use Rattle.population.specs.declared.placed.PlacedLink.{PlacedLink}
use Rattle.population.proofs.supporting.Entities.{entities_are, given_stands, key_stands, links_are, number_stands, of_given, of_key, of_number, set_there, stands_cases, Stands}
use Rattle.population.proofs.supporting.Links.{IsAdded, added_are, is_added, linked_is, near_key, none_added}
use Rattle.host_states.proofs.focus.FocusLinks.{side_cases}
use Rattle.host_states.proofs.focus.HostEnds.{host_key_is, host_side, partner_side, twice_not}

-- a joined association has no end `1`
pub joined_no_one : (basis : Basis) → IsBasis basis → (t : TableId) (fragment : LinkFragment) (assoc : Assoc) → IsJoinedTo basis.schema t fragment assoc
    → (assoc.first.mult ≢ One) × (assoc.second.mult ≢ One)
joined_no_one basis is t fragment assoc joined =
    let maps : LinkMaps basis.schema t fragment assoc = record { is_fragment = joined.is_fragment; is_assoc = joined.is_assoc; to_table = joined.to_table } in
    by maps (sound_link basis.schema is.sound fragment joined.is_fragment assoc joined.is_assoc).placed
  where
    never : (maps : LinkMaps basis.schema t fragment assoc) (first : Bool) → IsHostedAt basis.schema fragment.table (side first fragment) → ⊥
    never maps true at =
        let own = owned basis.schema is.sound t assoc.first.set fragment.first (inr (fragment, assoc, maps, inl (subst (λ u. IsHostedAt basis.schema u fragment.first) joined.to_table at, refl, refl))) in
        owned_or_joined basis.schema is.sound t assoc.first.set own.0 fragment assoc own.1 joined
    never maps false at =
        let own = owned basis.schema is.sound t assoc.second.set fragment.second (inr (fragment, assoc, maps, inr (subst (λ u. IsHostedAt basis.schema u fragment.second) joined.to_table at, refl, refl))) in
        owned_or_joined basis.schema is.sound t assoc.second.set own.0 fragment assoc own.1 joined

    by : LinkMaps basis.schema t fragment assoc → IsPlaced basis.schema fragment assoc → (assoc.first.mult ≢ One) × (assoc.second.mult ≢ One)
    by maps (inl at) = absurd (never maps true at)
    by maps (inr (inl at)) = absurd (never maps false at)
    by maps (inr (inr is_joined)) = (is_joined.first, is_joined.second)

-- an entity at the key of the set
abbrev pub IsAt : EntityModel → SetId → List Value → SetId → Entity → Type 0
IsAt model s key u entity = (u ≡ s) × (key_of model entity ≡ key)

-- the given entities and the keys of the one are those of the other, but at this key of the set
pub record AreBut (model : EntityModel) (s : SetId) (key : List Value) (given others : List Placed) (keys more : List PlacedKey) : Type 0 where
  pub given_to : (u : SetId) (entity : Entity) → Contains (given_in given u) entity → IsAt model s key u entity ⊎ Contains (given_in others u) entity
  pub keys_to : (u : SetId) (one : List Value) → Contains (keys_in keys u) one → Contains (keys_in more u) one

module _ (model : EntityModel) (outer : ℕ) (s : SetId) (key : List Value) (given others : List Placed) (keys more : List PlacedKey) (but : AreBut model s key given others keys more)
    (links : List PlacedLink) where
  abbrev c : State
  c = supported model outer given keys links

  abbrev d : State
  d = supported model outer others more links

  at_or_not : (u : SetId) (entity : Entity) → IsAt model s key u entity ⊎ ¬ IsAt model s key u entity
  at_or_not u entity = both_or_not (so_or_not (u.index == s.index) (Decides-set u s)) (key_or_not (key_of model entity) key)

  -- an entity that stands elsewhere in the one stands in the other
  pub stands_to : (u : SetId) (entity : Entity) → ¬ IsAt model s key u entity → Contains (stands_in model outer given keys u) entity → Contains (stands_in model outer others more u) entity
  stands_to u entity elsewhere has =
      let set = set_there model outer given keys u entity has in
      by set.0 set.1 entity elsewhere (stands_cases model outer given keys u set.0 set.1 entity has)
    where
      by : (set : _) (here : At model.sets u.index set) (one : Entity) → ¬ IsAt model s key u one → Stands model outer given keys u set here one → Contains (stands_in model outer others more u) one
      by set here _ apart (of_number number below) = number_stands model outer others more u set here number below
      by set here one apart (of_given _ is_given) = ⊎_elim
          (λ (at : IsAt model s key u one). absurd (apart at))
          (λ (other : Contains (given_in others u) one). given_stands model outer others more u set here one other)
          (but.given_to u one is_given)
      by set here _ apart (of_key k is_key) = key_stands model outer others more u set here k (but.keys_to u k is_key)

  pub entity_to : (u : SetId) (entity : Entity) → ¬ IsAt model s key u entity → Contains (entities_in c u) entity → Contains (entities_in d u) entity
  entity_to u entity elsewhere has =
      subst (λ list. Contains list entity) (sym (entities_are model outer others more links u))
      (stands_to u entity elsewhere (subst (λ list. Contains list entity) (entities_are model outer given keys links u) has))

  module _ (a : AssocId) (assoc : Assoc) (here : At model.assocs a.index assoc) (independent_ : IsIndependent assoc) where
    abbrev own : List Link
    own = links_of links a

    abbrev Added : Bool → Link → Type 0
    Added side link = IsAdded model outer given keys a assoc own side link

    in_other : (link : Link) → Contains (own ++ (added_at model outer others more true a assoc own ++ added_at model outer others more false a assoc own)) link → Contains (links_in d a) link
    in_other link has = subst (λ list. Contains list link) (sym (links_are model outer others more links a ∙ linked_is model outer others more links a assoc here independent_)) has

    -- a link that is added for an entity which stands in the other too
    added_stays : (side : Bool) (link : Link) (by : Added side link) → Contains (stands_in model outer others more (end_of side assoc).set) by.entity → Contains (links_in d a) link
    added_stays side link by stands =
        let list : List Entity = stands_in model outer others more (end_of side assoc).set in
        let listed : Contains (added_at model outer others more side a assoc own) link =
        subst (λ all. Contains all link) (sym (added_are model outer others more a assoc own side by.far_one))
        (subst (Contains (map (added_link model outer side a assoc) (filter (lacks_link model side assoc own) list))) (sym by.is)
        (contains_map (added_link model outer side a assoc) (filter (lacks_link model side assoc own) list) by.entity (contains_filter (lacks_link model side assoc own) list by.entity stands by.lacks))) in
        in_other link (among side listed)
      where
        among : (b : Bool) → Contains (added_at model outer others more b a assoc own) link
            → Contains (own ++ (added_at model outer others more true a assoc own ++ added_at model outer others more false a assoc own)) link
        among true has =
            Contains-append_right own (added_at model outer others more true a assoc own ++ added_at model outer others more false a assoc own) link
            (Contains-append_left (added_at model outer others more true a assoc own) (added_at model outer others more false a assoc own) link has)
        among false has =
            Contains-append_right own (added_at model outer others more true a assoc own ++ added_at model outer others more false a assoc own) link
            (Contains-append_right (added_at model outer others more true a assoc own) (added_at model outer others more false a assoc own) link has)

    -- a link is given, or added
    link_cases : (link : Link) → Contains (links_in c a) link → Contains own link ⊎ (side : Bool) × Added side link
    link_cases link has =
        let more_of : Bool → List Link = λ side. added_at model outer given keys side a assoc own in
        ⊎_elim
        (λ (one : Contains own link). inl one)
        (λ (rest : Contains (more_of true ++ more_of false) link). ⊎_elim
        (λ (one : Contains (more_of true) link). inr (true, is_added model outer given keys a assoc own true link one))
        (λ (one : Contains (more_of false) link). inr (false, is_added model outer given keys a assoc own false link one))
        (Contains-append_cases (more_of true) (more_of false) link rest))
        (Contains-append_cases own (more_of true ++ more_of false) link
        (subst (λ list. Contains list link) (links_are model outer given keys links a ∙ linked_is model outer given keys links a assoc here independent_) has))

    -- a link of the one stands in the other, unless it was added for the entity at the key
    pub link_to : (link : Link) → Contains (links_in c a) link
        → ((side : Bool) → (end_of (not side) assoc).mult ≡ One → (end_of side assoc).set ≡ s → end_key side link ≡ key → ⊥) → Contains (links_in d a) link
    link_to link has barred = ⊎_elim
        (λ (one : Contains own link).
        in_other link (Contains-append_left own (added_at model outer others more true a assoc own ++ added_at model outer others more false a assoc own) link one))
        (λ (added : (side : Bool) × Added side link).
        let side : Bool = added.0 in
        let by : Added side link = added.1 in
        let near : end_key side link ≡ key_of model by.entity = ap (end_key side) by.is ∙ near_key side (key_of model by.entity) (numbered_key model outer (end_of (not side) assoc).set (end_number (not side) a)) in
        ⊎_elim
        (λ (at : IsAt model s key (end_of side assoc).set by.entity). absurd (barred side by.far_one at.0 (near ∙ at.1)))
        (λ (elsewhere : ¬ IsAt model s key (end_of side assoc).set by.entity).
        added_stays side link by (stands_to (end_of side assoc).set by.entity elsewhere by.stands))
        (at_or_not (end_of side assoc).set by.entity))
        (link_cases link has)

-- hosted and joined links
module _ (basis : Basis) (is : IsBasis basis) (few : HaveFewPartners basis) (outer : ℕ) (s : SetId) (key : List Value) (given others : List Placed) (keys more : List PlacedKey)
    (but : AreBut basis.schema.model s key given others keys more) (links : List PlacedLink) where
  abbrev one_state : State
  one_state = supported basis.schema.model outer given keys links

  abbrev other_state : State
  other_state = supported basis.schema.model outer others more links

  -- opposite `1` stands `*`
  opposite_of : (near : Bool) (assoc : Assoc) (a : AssocId) → At basis.schema.model.assocs a.index assoc → IsIndependent assoc → (end_of (not near) assoc).mult ≡ One → (end_of near assoc).mult ≡ Many
  opposite_of near assoc a here free one = by near one
    where
      mults : HasIndependentMults assoc
      mults = MatchOption-at_none (HasIndependentMults assoc) (IsSoundConstraint basis.schema.model assoc) free
          (All-contains (IsSoundAssoc basis.schema.model) basis.schema.model.assocs assoc is.sound.model.assocs (contains_at basis.schema.model.assocs a.index assoc here)).kind

      by : (b : Bool) → (end_of (not b) assoc).mult ≡ One → (end_of b assoc).mult ≡ Many
      by true told = mults.second told
      by false told = mults.first told

  pub hosted_to : (u : SetId) (host : Host) → Contains (basis.hosts u) host → (other : List Value) → ¬ ((u ≡ s) × (other ≡ key))
      → (link : Link) → Contains (links_at one_state host other) link → Contains (links_at other_state host other) link
  hosted_to u host hosted other elsewhere link has =
      let by = (is.hosts u host).0 hosted in
      let first : Bool = host.first_hosts in
      let test : Link → Bool = λ one. same_key (host_key first one) other in
      let kept = filter_contains test (links_in one_state host.assoc) link has in
      let at : host_key first link ≡ other = (Decides-key (host_key first link) other).0 kept.1 in
      let free = independent basis is u host hosted by.assoc by.is_assoc in
      contains_filter test (links_in other_state host.assoc) link
      (link_to basis.schema.model outer s key given others keys more but links host.assoc by.assoc by.is_assoc free link kept.0
      (λ side far_one here same. ⊎_elim
      (λ (is_first : side ≡ first).
      elsewhere (
        sym (at_set basis is u host hosted by.assoc by.is_assoc) ∙ ap (λ (end : End). end.set) (host_side first by.assoc) ∙ ap (λ b. (end_of b by.assoc).set) (sym is_first) ∙ here,
        sym at ∙ host_key_is first link ∙ ap (λ b. end_key b link) (sym is_first) ∙ same,
      ))
      (λ (is_other : side ≡ not first).
      let One_at : Bool → Type 0 = λ b. (end_of (not b) by.assoc).mult ≡ One in
      let near_one : (end_of (not (not first)) by.assoc).mult ≡ One = subst One_at is_other far_one in
      let many : (end_of (not first) by.assoc).mult ≡ Many = opposite_of (not first) by.assoc host.assoc by.is_assoc free near_one in
      few u host hosted by.assoc by.is_assoc (ap (λ (end : End). end.mult) (partner_side first by.assoc) ∙ many))
      (side_cases side first)))
      kept.1

  pub joined_links_to : (t : TableId) (fragment : LinkFragment) (assoc : Assoc) → IsJoinedTo basis.schema t fragment assoc
      → (link : Link) → Contains (links_in one_state fragment.assoc) link → Contains (links_in other_state fragment.assoc) link
  joined_links_to t fragment assoc joined link has =
      let no_one = joined_no_one basis is t fragment assoc joined in
      let free = (sound_link basis.schema is.sound fragment joined.is_fragment assoc joined.is_assoc).independent in
      link_to basis.schema.model outer s key given others keys more but links fragment.assoc assoc joined.is_assoc free link has (λ side far_one here same. never no_one side far_one)
    where
      never : (assoc.first.mult ≢ One) × (assoc.second.mult ≢ One) → (side : Bool) → (end_of (not side) assoc).mult ≡ One → ⊥
      never no_one true one = no_one.1 one
      never no_one false one = no_one.0 one
