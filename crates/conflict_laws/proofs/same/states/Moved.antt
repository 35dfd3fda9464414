-- What is written elsewhere than at one key of a set is written by each of two states that differ at most there.
use Rattle.std.proofs.Common.{◌≡◌, ◌⊎◌, inl, inr, ⊎_elim, List, ◌==◌, Contains, sym, ap, subst, ◌∙◌}
use Rattle.std.proofs.lemmas.Bool.Decides.{Decides-eqb, Decides-like}
use Rattle.round_trip.specs.Words.{SetId, TableId, Entity, IsLegal, Link, State, Value, Writing, WritesRow, entities_in, key_of, links_in, written_key}
use Rattle.schema_laws.specs.state_demand.Owners.{StandsAt}
use Rattle.schema_laws.specs.state_demand.Writings.{link_writing}
use Rattle.schema_laws.proofs.state_demand.writings.Decisions.{both_or_not, key_or_not, so_or_not}
use Rattle.schema_laws.proofs.sound_demand.Local.{is_local_to_links}
use Rattle.regions.specs.Basis.{Basis}
use Rattle.regions.specs.region_laws.Concrete.{IsWritingAt}
use Rattle.regions.specs.region_laws.IsBasis.{IsBasis}
use Rattle.regions.specs.region_laws.RegionAt.{links_at}
use Rattle.regions.specs.region_laws.Held.{IsAtRow}
use Rattle.regions.proofs.region_laws.writings.Owned.{row_writings}
use Rattle.region_states.specs.focus.Held.{IsRowOfOne}
use Rattle.region_states.proofs.focus.Demanded.{row_of_one}
use Rattle.host_states.specs.Hosting.{DifferAtMostAt}
use Rattle.conflict_laws.proofs.same.states.HostedAt.{at_host, host_at}

-- sets are one or not
pub set_or_not : (s u : SetId) → (s ≡ u) ⊎ ¬ (s ≡ u)
set_or_not s u = so_or_not (s.index == u.index)
    (Decides-like (s.index == u.index) (λ number k. record { index = number k }) (λ same. ap (λ (one : SetId). one.index) same) (Decides-eqb s.index u.index))

-- an entity of this key of the set stands at the row
pub record IsAtFocus (basis : Basis) (s : SetId) (focus_key : List Value) (state : State) (t : TableId) (key : List Value) : Type 0 where
  pub entity : Entity
  pub at_row : IsAtRow basis state s entity t key
  pub keyed : key_of basis.schema.model entity ≡ focus_key

-- seen from the other state it is the same
pub mirrored : (basis : Basis) (s : SetId) (key : List Value) (c d : State) → DifferAtMostAt basis s key c d → DifferAtMostAt basis s key d c
mirrored basis s key c d alike = record {
  entities = λ u entity elsewhere. (let both = alike.entities u entity elsewhere in (both.1, both.0));
  hosted = λ u host hosts other elsewhere link. (let both = alike.hosted u host hosts other elsewhere link in (both.1, both.0));
  joined = λ t fragment assoc joined link. (let both = alike.joined t fragment assoc joined link in (both.1, both.0));
}

module _ (basis : Basis) (is : IsBasis basis) (s : SetId) (focus_key : List Value) (c d : State) (legal_c : IsLegal basis.schema.model c) (legal_d : IsLegal basis.schema.model d)
    (alike : DifferAtMostAt basis s focus_key c d) where
  -- a writing of an entity elsewhere
  entity_moved : (u : SetId) (entity : Entity) → ¬ ((u ≡ s) × (key_of basis.schema.model entity ≡ focus_key)) → (writing : Writing) → IsWritingAt basis c u entity writing
      → IsWritingAt basis d u entity writing
  entity_moved u entity elsewhere writing (inl by) =
      let There : State → Type 0 = λ state. Contains (entities_in state by.fragment.set) entity in
      let at_u : Contains (entities_in c u) entity = subst (λ one. Contains (entities_in c one) entity) by.of_set by.writes.stands in
      let moved_u : Contains (entities_in d u) entity = (alike.entities u entity elsewhere).0 at_u in
      inl (record {
        fragment = by.fragment;
        of_set = by.of_set;
        writes = record {
          mapped = by.writes.mapped;
          stands = subst (λ one. Contains (entities_in d one) entity) (sym by.of_set) moved_u;
          selected = by.writes.selected;
        };
        is = by.is;
      })
  entity_moved u entity elsewhere writing (inr by) =
      let key : List Value = key_of basis.schema.model entity in
      let stands_c : Contains (links_in c by.host.assoc) by.link = subst (λ a. Contains (links_in c a) by.link) by.of_assoc by.writes.stands in
      let moved_link : Contains (links_at d by.host key) by.link =
      (alike.hosted u by.host by.hosts key elsewhere by.link).0 (at_host c by.host key by.link stands_c by.at_key) in
      inr (record {
        host = by.host;
        fragment = by.fragment;
        assoc = by.assoc;
        link = by.link;
        hosts = by.hosts;
        of_assoc = by.of_assoc;
        writes = record {
          mapped = by.writes.mapped;
          is_assoc = by.writes.is_assoc;
          stands = subst (λ a. Contains (links_in d a) by.link) (sym by.of_assoc) (host_at d by.host key by.link moved_link).0;
        };
        at_key = by.at_key;
        is = by.is;
      })

  -- a writing to a row elsewhere
  pub moved : (t : TableId) (key : List Value) (writing : Writing) → WritesRow basis.schema c t key writing
      → IsAtFocus basis s focus_key c t key ⊎ WritesRow basis.schema d t key writing
  moved t key writing writes = by (row_of_one basis is c legal_c t key (writing, writes))
    where
      by : IsRowOfOne basis c t key → IsAtFocus basis s focus_key c t key ⊎ WritesRow basis.schema d t key writing
      by (inl (u, entity, at)) = ⊎_elim
          (λ (here : (u ≡ s) × (key_of basis.schema.model entity ≡ focus_key)).
          inl (record { entity = entity; at_row = subst (λ one. IsAtRow basis c one entity t key) here.0 at; keyed = here.1 }))
          (λ (elsewhere : ¬ ((u ≡ s) × (key_of basis.schema.model entity ≡ focus_key))).
          let told = (row_writings basis is (record { state = c; legal = legal_c; s = u; entity = entity; stands = at.at.stands }) t key at writing).0 writes in
          let at_d : StandsAt basis.schema d u at.pairing key entity = record { stands = (alike.entities u entity elsewhere).0 at.at.stands; at_key = at.at.at_key } in
          inr ((row_writings basis is (record { state = d; legal = legal_d; s = u; entity = entity; stands = at_d.stands }) t key
          (record { pairing = at.pairing; owned = at.owned; at = at_d }) writing).1 (told.0, entity_moved u entity elsewhere writing told.1)))
          (both_or_not (set_or_not u s) (key_or_not (key_of basis.schema.model entity) focus_key))
      by (inr (fragment, assoc, link, at)) =
          let found = (is_local_to_links basis.schema is.sound c legal_c t fragment assoc at.joined).local key writing writes in
          let other : Link = found.0 in
          let row : List Value = written_key basis.schema.store (link_writing basis.schema.model fragment assoc other) in
          let there = (is_local_to_links basis.schema is.sound d legal_d t fragment assoc at.joined).writes other ((alike.joined t fragment assoc at.joined other).0 found.1) in
          let same_key : row ≡ key = ap (written_key basis.schema.store) (sym found.2) ∙ writes.to_key in
          let P : List Value → Writing → Type 0 = λ k w. WritesRow basis.schema d t k w in
          inr (subst (λ k. P k writing) same_key (subst (P row) (sym found.2) there))
