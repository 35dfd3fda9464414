-- The entities that the query view of a set gives are those of the legal state.
use Rattle.std.proofs.Common.{◌≡◌, ◌≢◌, ℕ, List, get_or, AllPairs, Bool, Contains, IsPermutation, sym, ap, subst, ◌∙◌, arith}
use Rattle.std.proofs.lemmas.Option.{get_or_from_slice_get, slice_get-get_or, slice_get_within}
use Rattle.graphs.proofs.base_chains.orders.Orders.{place_of_member}
use Rattle.emc_base.proofs.Mapped.{contains_at}
use Rattle.emc_base.proofs.facts.Keys.{never_before}
use Rattle.emc_base.proofs.facts.Zipped.{zipped_left, zipped_right}
use Rattle.round_trip.specs.Words.{SetId, TableId, ColId, Entity, EntitySet, Hosted, At, IsLegal, RoundTrips, State, Tables, Value, entities_in, key_of}
use Rattle.cells.specs.Limits.{IsWithinLimits}
use Rattle.schema_laws.proofs.kept_states.Entities.{apart_by_key}
use Rattle.schema_laws.proofs.state_demand.lists.Permutations.{same_members_permute}
use Rattle.regions.specs.Basis.{Basis, IsHostedLink}
use Rattle.regions.specs.region_laws.IsBasis.{IsBasis}
use Rattle.case_laws.specs.candidates.Candidates.{AreViewed}
use Rattle.case_laws.specs.candidates.Viewed.{IsViewed, IsViewedLink}
use Rattle.case_laws.specs.candidates.ViewedLinks.{IsBefore}
use Rattle.case_laws.specs.Reading.{DecidesFree, HasStateTables}
use Rattle.case_laws.proofs.candidate_laws.OwnView.{entity_at, has_rows, links_are_own, view_is_own}

-- so rising keys are different
keys_apart : (keys : List (List Value)) → AllPairs IsBefore keys → AllPairs (λ key other. key ≢ other) keys
keys_apart keys rising i j d below within same =
    never_before (get_or keys j d) (subst (λ key. IsBefore key (get_or keys j d)) same (rising i j d below within))

module _ (basis : Basis) (is : IsBasis basis) (limits : IsWithinLimits basis.schema) (round : RoundTrips basis.schema)
    (is_free : TableId → ColId → Bool) (decides : DecidesFree basis.schema is_free) (state : State) (legal : IsLegal basis.schema.model state)
    (tables : Tables) (has : HasStateTables basis.schema state tables) (s : SetId) (entities : List Entity) (viewed : AreViewed basis is_free tables s entities) where
  abbrev Views : List Value → Entity → Type 0
  Views = IsViewed basis is_free tables s

  -- the entity of a key is one of the state, with this key
  own_entity : (key : List Value) (entity : Entity) → Contains viewed.keys key → Views key entity → Contains (entities_in state s) entity × (key_of basis.schema.model entity ≡ key)
  own_entity key entity among view =
      let found = entity_at basis is limits round is_free decides state legal tables has s key ((viewed.are key).0 among) in
      let View : List Value → Type 0 = λ one. Views one entity in
      let same : entity ≡ found.0 = view_is_own basis is limits round is_free decides state legal tables has s found.0 found.1 entity (subst View (sym found.2) view) in
      (subst (Contains (entities_in state s)) (sym same) found.1, ap (key_of basis.schema.model) same ∙ found.2)

  -- the key beside it
  key_at : (i : ℕ) (entity : Entity) → At entities i entity → At viewed.keys i (key_of basis.schema.model entity) × Contains (entities_in state s) entity
  key_at i entity here =
      let found = zipped_right Views viewed.keys entities viewed.each i entity here in
      let own = own_entity found.0 entity (contains_at viewed.keys i found.0 found.1) found.2 in
      (subst (At viewed.keys i) (sym own.1) found.1, own.0)

  -- so each is one of the state's
  to_state : (entity : Entity) → Contains entities entity → Contains (entities_in state s) entity
  to_state entity among = (key_at among.0 entity (place_of_member entities entity among)).1

  -- and each of the state's is one of them: it has a key with rows, and is given there with the links that it hosts
  module _ (entity : Entity) (stands : Contains (entities_in state s) entity) where
    abbrev its_key : List Value
    its_key = key_of basis.schema.model entity

    found_at : (other : Entity) × Contains entities other × Views its_key other
    found_at =
        let among : Contains viewed.keys its_key = (viewed.are its_key).1 (has_rows basis is limits round is_free decides state legal tables has s entity stands) in
        let found = zipped_left Views viewed.keys entities viewed.each among.0 its_key (place_of_member viewed.keys its_key among) in
        (found.0, contains_at entities among.0 found.0 found.1, found.2)

    from_state : Contains entities entity
    from_state = subst (Contains entities) (view_is_own basis is limits round is_free decides state legal tables has s entity stands found_at.0 found_at.2) found_at.1

    pub link_there : (hosted : Hosted) → IsHostedLink state (basis.hosts s) its_key hosted → IsViewedLink basis is_free tables s its_key hosted
    link_there hosted by = record {
      case = found_at.2.case;
      first_met = found_at.2.first_met;
      told = (links_are_own basis is limits round is_free decides state legal tables has s entity stands found_at.2.case found_at.2.first_met hosted).1 by;
    }

  -- no entity is given twice
  once : AllPairs (λ entity other. entity ≢ other) entities
  once i j d below within same =
      let early = key_at i (get_or entities i d) (slice_get-get_or entities i d (omega arith)) in
      let late = key_at j (get_or entities j d) (slice_get-get_or entities j d within) in
      let key : List Value = key_of basis.schema.model (get_or entities j d) in
      let is_early = get_or_from_slice_get viewed.keys i (key_of basis.schema.model (get_or entities i d)) key early.0 in
      let is_late = get_or_from_slice_get viewed.keys j key key late.0 in
      keys_apart viewed.keys viewed.rising i j key below (slice_get_within viewed.keys j key late.0) (is_early ∙ ap (key_of basis.schema.model) same ∙ sym is_late)

  -- they are the state's, in some order
  pub same_entities : (set : EntitySet) → At basis.schema.model.sets s.index set → IsPermutation (entities_in state s) entities
  same_entities set here = same_members_permute (entities_in state s) entities
      (apart_by_key (key_of basis.schema.model) (entities_in state s) (legal.sets s set here).keys) once from_state to_state
