-- The links that the query views give are those of the legal state whose tables these are.
use Rattle.std.proofs.Common.{◌≡◌, ◌≢◌, ⊎_elim, inl, inr, ◌⊎◌, ◌==◌, List, [], ◌∷◌, get_or, ◌<◌, length, All, AllPairs, Any, Bool, true, false, Contains, IsPermutation, if◌then◌else◌, refl, sym, ap, subst, ◌∙◌, arith}
use Rattle.std.specs.List.{list_any}
use Rattle.std.proofs.lemmas.List.Elements.{All-contains}
use Rattle.emc_base.proofs.Lists.{all_from_members}
use Rattle.emc_base.proofs.facts.Keys.{never_before}
use Rattle.round_trip.specs.Words.{SetId, TableId, ColId, AssocId, Assoc, Entity, EntitySet, At, End, IsA, IsIndependent, IsLegal, IsLink, Link, LinkFragment, RoundTrips, State, Tables, HasEntityAt, Value, entities_in, key_of, links_in}
use Rattle.round_trip.specs.FailsAt.{IsHostedAt, IsUnmapped}
use Rattle.round_trip.specs.declared.FailKind.TheVariants as kind
use Rattle.round_trip.specs.soundness.mappings.Owners.{IsPlaced}
use Rattle.round_trip.specs.soundness.models.Constraints.{IsSoundEnd}
use Rattle.cells.specs.Limits.{IsWithinLimits}
use Rattle.schema_laws.proofs.state_demand.lists.Ids.{Decides-assoc}
use Rattle.schema_laws.proofs.state_demand.lists.Lists.{Decides-any, any_of, head_stands, of_any}
use Rattle.schema_laws.proofs.state_demand.lists.Permutations.{same_members_permute}
use Rattle.schema_laws.proofs.state_demand.writings.Decisions.{so_or_not}
use Rattle.schema_laws.proofs.sound_demand.Fitting.{sound_link}
use Rattle.schema_laws.proofs.sound_demand.owners.Owned.{joined_to}
use Rattle.schema_laws.proofs.sound_demand.owners.Pairing.{sound_assoc}
use Rattle.regions.specs.Basis.{Basis, Host, host_key}
use Rattle.regions.specs.region_laws.IsBasis.{IsBasis}
use Rattle.population.specs.Numbered.{end_of}
use Rattle.population.specs.Supported.{end_key}
use Rattle.region_states.specs.conflicts.There.{LinksFailThere}
use Rattle.region_states.specs.declared.conflicts.conflict.Conflict.TheVariants as conflict
use Rattle.failure_laws.proofs.links.LinkExact.{links_exact}
use Rattle.failure_laws.proofs.links.LinkFacts.{Decides-unmapped}
use Rattle.case_laws.specs.candidates.Candidates.{IsCandidate}
use Rattle.case_laws.specs.candidates.ViewedLinks.{AreViewedLinks, IsHostedView, IsJoinedView, IsBefore, IsLinkBefore}
use Rattle.case_laws.specs.Reading.{DecidesFree, HasStateTables}
use Rattle.case_laws.proofs.candidate_laws.HostedLinks.{hosted_stands, hosted_view}
use Rattle.case_laws.proofs.candidate_laws.JoinedLinks.{joined_stands, row_tells}

-- where no legal state fails, each independent association is mapped
pub never_unmapped : (basis : Basis) → IsBasis basis → IsWithinLimits basis.schema → RoundTrips basis.schema → (a : AssocId) (assoc : Assoc) → ¬ IsUnmapped basis.schema a assoc
never_unmapped basis is limits round a assoc unmapped =
    let fails : LinksFailThere basis a kind.Same = (links_exact basis is limits kind.Same (λ earlier less place c d. round earlier place c d) a).0
    (conflict.Unmapped a, record { of_kind = refl; of_links = refl; holds = (Decides-unmapped basis a).1 (assoc, unmapped) }) in
    round kind.Same fails.place fails.c fails.d (record { legal = fails.legal; fails = fails.fails.0 })

-- a link doesn't come before itself
once_rising : (links : List Link) → AllPairs IsLinkBefore links → AllPairs (λ link other. link ≢ other) links
once_rising links rising i j d below within same = by (get_or links i d) (get_or links j d) (rising i j d below within) same
  where
    by : (one later : Link) → IsLinkBefore one later → one ≡ later → ⊥
    by one later (inl before) alike = never_before later.first (subst (λ (link : Link). IsBefore link.first later.first) alike before)
    by one later (inr (first, before)) alike = never_before later.second (subst (λ (link : Link). IsBefore link.second later.second) alike before)

module _ (basis : Basis) (is : IsBasis basis) (limits : IsWithinLimits basis.schema) (round : RoundTrips basis.schema) (is_free : TableId → ColId → Bool)
    (decides : DecidesFree basis.schema is_free) (state : State) (legal : IsLegal basis.schema.model state) (tables : Tables) (has : HasStateTables basis.schema state tables)
    (candidate : State) (of_tables : IsCandidate basis is_free tables candidate) where
  abbrev IsView : AssocId → Link → Type 0
  IsView a link = IsHostedView basis is_free tables a link ⊎ IsJoinedView basis is_free tables a link

  -- a link that is given stands in the state
  view_stands : (a : AssocId) (link : Link) → IsView a link → Contains (links_in state a) link
  view_stands a link (inl view) = hosted_stands basis is limits round is_free decides state legal tables has a link view
  view_stands a link (inr view) = joined_stands is_free basis is decides state legal tables has a link view

  -- a link of the state is given, by the entity that hosts it or by its row
  module _ (fragment : LinkFragment) (mapped : Contains basis.schema.mapping.links fragment) (assoc : Assoc) (here : At basis.schema.model.assocs fragment.assoc.index assoc)
      (link : Link) (stands : Contains (links_in state fragment.assoc) link) where
    is_link : IsLink basis.schema.model assoc link
    is_link = All-contains (IsLink basis.schema.model assoc) (links_in state fragment.assoc) link (legal.shape.links fragment.assoc assoc here) stands

    -- the entity at an end
    end_there : (first : Bool) → (entity : Entity) × Contains (entities_in state (end_of first assoc).set) entity × (end_key first link ≡ key_of basis.schema.model entity)
    end_there first =
        let ends = All-contains (λ (one : Link). HasEntityAt basis.schema.model state assoc.first one.first × HasEntityAt basis.schema.model state assoc.second one.second)
        (links_in state fragment.assoc) link (legal.links fragment.assoc assoc here is_link.independent).ends stands in
        by first ends
      where
        found : (end : End) (key : List Value) → HasEntityAt basis.schema.model state end key
            → (entity : Entity) × Contains (entities_in state end.set) entity × (key ≡ key_of basis.schema.model entity)
        found end key any =
            let at = of_any (λ (entity : Entity). IsA basis.schema.model entity.ty end.ty × (key_of basis.schema.model entity ≡ key)) (entities_in state end.set) any in
            (at.0, at.1, sym at.2.1)

        by : (b : Bool) → HasEntityAt basis.schema.model state assoc.first link.first × HasEntityAt basis.schema.model state assoc.second link.second
            → (entity : Entity) × Contains (entities_in state (end_of b assoc).set) entity × (end_key b link ≡ key_of basis.schema.model entity)
        by true ends = found assoc.first link.first ends.0
        by false ends = found assoc.second link.second ends.1

    hosted : (host : Host) → host.assoc ≡ fragment.assoc → (s : SetId) → Contains (basis.hosts s) host → (set : EntitySet) → At basis.schema.model.sets s.index set → (entity : Entity)
        → Contains (entities_in state s) entity → host_key host.first_hosts link ≡ key_of basis.schema.model entity → IsView fragment.assoc link
    hosted host same s hosts set is_set entity among at_key =
        let Stands : AssocId → Type 0 = λ b. Contains (links_in state b) link in
        let View : AssocId → Type 0 = λ b. IsView b link in
        subst View same (inl (hosted_view basis is limits round is_free decides state legal tables has s set is_set (entities_in candidate s) (of_tables.entities.sets s set is_set) host hosts link
        (subst Stands (sym same) stands) entity among at_key))

    -- hosted at an end
    at_first : IsHostedAt basis.schema fragment.table fragment.first → IsSoundEnd basis.schema.model assoc.first → IsView fragment.assoc link
    at_first at end =
        let entity = end_there true in
        let host : Host = record { assoc = fragment.assoc; first_hosts = true } in
        let hosts : Contains (basis.hosts assoc.first.set) host = (is.hosts assoc.first.set host).1
        (record { assoc = assoc; fragment = fragment; is_assoc = here; is_fragment = mapped; of_assoc = refl; hosted = at; at_set = refl }) in
        hosted host refl assoc.first.set hosts end.under.0 end.under.1 entity.0 entity.1 entity.2

    at_second : IsHostedAt basis.schema fragment.table fragment.second → IsSoundEnd basis.schema.model assoc.second → IsView fragment.assoc link
    at_second at end =
        let entity = end_there false in
        let host : Host = record { assoc = fragment.assoc; first_hosts = false } in
        let hosts : Contains (basis.hosts assoc.second.set) host = (is.hosts assoc.second.set host).1
        (record { assoc = assoc; fragment = fragment; is_assoc = here; is_fragment = mapped; of_assoc = refl; hosted = at; at_set = refl }) in
        hosted host refl assoc.second.set hosts end.under.0 end.under.1 entity.0 entity.1 entity.2

    stands_view : IsView fragment.assoc link
    stands_view = by (sound_link basis.schema is.sound fragment mapped assoc here).placed
      where
        by : IsPlaced basis.schema fragment assoc → IsView fragment.assoc link
        by (inl at) = at_first at (sound_assoc basis.schema is.sound fragment assoc here).first
        by (inr (inl at)) = at_second at (sound_assoc basis.schema is.sound fragment assoc here).second
        by (inr (inr joined)) = inr (row_tells is_free basis is decides state legal tables has fragment.table fragment assoc
            (joined_to basis.schema is.sound fragment.table fragment assoc (record { is_fragment = mapped; is_assoc = here; to_table = refl }) joined) link stands)

  module _ (a : AssocId) (assoc : Assoc) (is_assoc : At basis.schema.model.assocs a.index assoc) where
    abbrev viewed : AreViewedLinks basis is_free tables a (links_in candidate a)
    viewed = of_tables.assocs a assoc is_assoc

    abbrev Of : LinkFragment → Type 0
    Of fragment = fragment.assoc ≡ a

    -- a link fragment maps an association of which there are links
    fragment_there : IsIndependent assoc → (fragment : LinkFragment) × Contains basis.schema.mapping.links fragment × Of fragment
    fragment_there independent = ⊎_elim
        (λ (any : Any Of basis.schema.mapping.links). of_any Of basis.schema.mapping.links any)
        (λ (none : ¬ Any Of basis.schema.mapping.links). absurd (never_unmapped basis is limits round a assoc (record {
          is_assoc = is_assoc;
          independent = independent;
          unmapped = all_from_members (λ (fragment : LinkFragment). fragment.assoc ≢ a) basis.schema.mapping.links
              (λ fragment among same. none (any_of Of basis.schema.mapping.links fragment among same));
        })))
        (so_or_not (list_any (λ (fragment : LinkFragment). fragment.assoc.index == a.index) basis.schema.mapping.links)
        (Decides-any (λ (fragment : LinkFragment). fragment.assoc.index == a.index) Of (λ fragment. Decides-assoc fragment.assoc a) basis.schema.mapping.links))

    independent_by : (link : Link) → Contains (links_in state a) link → IsIndependent assoc
    independent_by link stands = (All-contains (IsLink basis.schema.model assoc) (links_in state a) link (legal.shape.links a assoc is_assoc) stands).independent

    to_candidate : (link : Link) → Contains (links_in state a) link → Contains (links_in candidate a) link
    to_candidate link stands =
        let found = fragment_there (independent_by link stands) in
        let Here : AssocId → Type 0 = λ b. At basis.schema.model.assocs b.index assoc × Contains (links_in state b) link in
        let View : AssocId → Type 0 = λ b. IsView b link in
        let there : Here found.0.assoc = subst Here (sym found.2) (is_assoc, stands) in
        (viewed.are link).1 (subst View found.2 (stands_view found.0 found.1 assoc there.0 link there.1))

    to_state : (link : Link) → Contains (links_in candidate a) link → Contains (links_in state a) link
    to_state link among = view_stands a link ((viewed.are link).0 among)

    once_here : AllPairs (λ link other. link ≢ other) (links_in state a)
    once_here = by (links_in state a) refl
      where
        by : (links : List Link) → links_in state a ≡ links → AllPairs (λ link other. link ≢ other) (links_in state a)
        by [] none = subst (λ list. AllPairs (λ link other. link ≢ other) list) (sym none) (λ i j d below within same. omega (arith, within))
        by (link ∷ rest) some = (legal.links a assoc is_assoc (independent_by link (subst (λ list. Contains list link) (sym some) (head_stands link rest)))).once

    pub same_links : IsPermutation (links_in state a) (links_in candidate a)
    same_links = same_members_permute (links_in state a) (links_in candidate a) once_here (once_rising (links_in candidate a) viewed.rising) to_candidate to_state
