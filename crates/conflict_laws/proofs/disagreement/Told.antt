-- Where a legal state and a fragment of a set, or of links that are hosted at it, disagree, so do the fragment and a region of the set.
use Rattle.std.proofs.Common.{◌≡◌, ◌⊎◌, inl, inr, ℕ, ◌==◌, List, [], Bool, true, false, Contains, refl, sym, ap, subst, ◌∙◌}
use Rattle.std.proofs.lemmas.Bool.{and_from}
use Rattle.std.proofs.lemmas.Bool.Decides.{Decides-eqb}
use Rattle.emc_base.proofs.Lists.{item_at}
use Rattle.round_trip.specs.Words.{SetId, Assoc, Entity, Fragment, IsLegal, IsShownLinkTuple, IsShownTuple, IsWrittenLinkTuple, IsWrittenTuple, LinkFragment, Pair, Place, Row, State, Table, TableId, Tables, Value, At, entities_in, key_of, place_at}
use Rattle.round_trip.specs.FailsAt.{Disagrees, IsHostedAt, IsInOneOnly, element_of, key_in_tuple, keys_in_tuple}
use Rattle.round_trip.specs.soundness.mappings.Owners.{LinkMaps, Owns}
use Rattle.round_trip.specs.declared.FailKind.TheVariants as kind
use Rattle.schema_laws.specs.state_demand.Owners.{IsOwned}
use Rattle.schema_laws.specs.sound_demand.Disagreeing.{DisagreesAtEntity, DisagreesAtHost}
use Rattle.schema_laws.specs.sound_demand.Fragments.{IsHostedFragment, IsOwnedFragment, IsStoredIn}
use Rattle.schema_laws.proofs.sound_demand.tuples.Disagreeing.{tuples_of_entities, tuples_of_hosts}
use Rattle.schema_laws.proofs.sound_demand.Fitting.{link_ids, sound_fragment}
use Rattle.schema_laws.proofs.sound_demand.owners.Owned.{owned}
use Rattle.regions.specs.declared.region.Region.{Region}
use Rattle.regions.specs.declared.pattern.Focus.TheVariants as focus
use Rattle.regions.specs.Basis.{Basis, Host}
use Rattle.regions.specs.Regions.{regions_of}
use Rattle.regions.specs.Symbols.{is_linked, selects_region}
use Rattle.regions.specs.region_laws.Partners.{HasFewPartners, part_by}
use Rattle.regions.specs.region_laws.pattern.Allowed.{end_at}
use Rattle.regions.specs.region_laws.Held.{IsHeldAt, LinkedEntity}
use Rattle.regions.proofs.region_laws.pattern.symbols.Hosting.{assoc_here, host_set, hosted_side, the_assoc}
use Rattle.regions.proofs.region_laws.pattern.symbols.Origins.{side}
use Rattle.regions.proofs.region_laws.pattern.types.Regions.{parts_of}
use Rattle.region_states.specs.focus.Agreeing.{IsRowOfEntity}
use Rattle.region_states.proofs.focus.Flags.{held_at, some_region}
use Rattle.region_states.specs.conflicts.Conflicts.{IsConflictAt}
use Rattle.region_states.specs.conflicts.Facts.{differ, is_hosted, shows_link_pattern, shows_pattern}
use Rattle.region_states.specs.conflicts.There.{FailsThere, IsAtFragment}
use Rattle.region_states.specs.declared.conflicts.conflict.Conflict.{Conflict}
use Rattle.region_states.specs.declared.conflicts.conflict.Conflict.TheVariants as conflict
use Rattle.conflict_laws.proofs.clash.Clear.{region_clear}
use Rattle.conflict_laws.proofs.disagreement.Deciding.{Decides-disagrees, Decides-hosted, SomeDiffers, SomeLinksDiffer}
use Rattle.conflict_laws.proofs.disagreement.Differing.{entity_differs, host_differs}
use Rattle.conflict_laws.proofs.disagreement.Places.{no_fragment, one_fragment, one_link_fragment}
use Rattle.conflict_laws.specs.States.{ClearStates}
use Rattle.conflict_laws.specs.rival.Alike.{IsClear}

module _ (basis : Basis) (states : ClearStates basis) (s : SetId) (few : HasFewPartners basis s) where
  abbrev SomeConflict : Type 0
  SomeConflict = (one : Conflict) × IsConflictAt basis s kind.Disagrees one

  -- a fragment at this place that differs from a region is a conflict
  conflict_at : (region : Region) → Contains (regions_of basis s) region → (place : List ℕ) → SomeDiffers basis region place ⊎ SomeLinksDiffer basis region place → SomeConflict
  conflict_at region has place found = (
    conflict.Disagree (focus.Entity region) place,
    record { of_kind = refl; of_set = has; holds = (Decides-disagrees basis region place).1 found },
  )

  module _ (c : State) (legal : IsLegal basis.schema.model c) (tables : Tables) (in_tables : IsStoredIn basis.schema c tables) where
    -- a region that holds an entity of the set with its partners, and whose pattern doesn't clash
    record HeldBy (entity : Entity) : Type 0 where
      region : Region
      held : IsHeldAt basis c s entity region (part_by basis c s (key_of basis.schema.model entity))
      clear : IsClear basis region

    abbrev linked_by : (entity : Entity) → HeldBy entity → LinkedEntity basis
    linked_by entity of = record {
      state = c;
      legal = legal;
      s = s;
      entity = entity;
      region = of.region;
      part = part_by basis c s (key_of basis.schema.model entity);
      held = of.held;
    }

    -- there is one
    held_by : (t : TableId) (pairing : List Pair) → IsOwned basis.schema t s pairing → (entity : Entity) → Contains (entities_in c s) entity → HeldBy entity
    held_by t pairing own entity stands =
        let found = some_region basis states.given.is_basis (record { state = c; legal = legal; s = s; entity = entity; stands = stands }) in
        record {
          region = found.0;
          held = held_at basis states.given.is_basis (record { state = c; legal = legal; s = s; entity = entity; region = found.0; of_region = found.1 }) few;
          clear = region_clear basis states s found.0 found.1.listed;
        }

    module _ (fragment : Fragment) (mapped : Contains basis.schema.mapping.fragments fragment) (of_set : fragment.set ≡ s) where
      the_table : (table : Table) × At basis.schema.store.tables fragment.table.index table
      the_table = item_at basis.schema.store.tables fragment.table.index (sound_fragment basis.schema states.given.is_basis.sound fragment mapped).ids.table

      -- the set owns the fragment's table
      the_owner : (pairing : List Pair) × IsOwned basis.schema fragment.table s pairing
      the_owner = owned basis.schema states.given.is_basis.sound fragment.table s fragment.pairs
          (inl (record { fragment = fragment; is_fragment = mapped; to_table = refl; of_set = of_set; pairs_are = refl }))

      to : IsOwnedFragment basis.schema s the_owner.0 fragment the_table.0
      to = record { mapped = mapped; is_table = the_table.1; owned = the_owner.1 }

      -- where it disagrees at an entity it does with the entity's region
      at_entity : (row : Row) (entity : Entity) → DisagreesAtEntity basis.schema c tables s the_owner.0 fragment the_table.0 row entity → SomeConflict
      at_entity row entity by =
          let of : HeldBy entity = held_by fragment.table the_owner.0 the_owner.1 entity by.stands.stands in
          let of_entity : IsRowOfEntity basis c tables s the_owner.0 entity fragment.table the_table.0 row = record { among = by.has_row; at = by.stands } in
          let differs = entity_differs basis states.given.is_basis (linked_by entity of) tables in_tables of.clear
          the_owner.0 fragment the_table.0 to row of_entity by.one_only in
          let number : fragment.set.index ≡ of.region.set.index = ap (λ (u : SetId). u.index) (of_set ∙ sym (parts_of basis s of.region of.held.listed).of_set) in
          conflict_at of.region of.held.listed fragment.place (inl (
            fragment,
            mapped,
            (
              refl,
              and_from (fragment.set.index == of.region.set.index)
                  (differ (selects_region basis of.region fragment) (shows_pattern basis (focus.Entity of.region) fragment))
                  ((Decides-eqb fragment.set.index of.region.set.index).1 number) differs,
            ),
          ))

      -- a tuple that is written and not shown, or shown and not written, tells a conflict
      of_fragment : (tuple : List Value) → IsInOneOnly (IsWrittenTuple basis.schema c fragment) (IsShownTuple tables fragment) tuple → SomeConflict
      of_fragment tuple only =
          let key = key_in_tuple basis.schema.model (element_of basis.schema.model fragment.set) fragment.pairs tuple in
          let at = (tuples_of_entities basis.schema states.given.is_basis.sound c tables in_tables s the_owner.0 fragment the_table.0 to key).0 (tuple, only, refl) in
          at_entity at.0 at.1 at.2

    module _ (fragment : LinkFragment) (mapped : Contains basis.schema.mapping.links fragment) (host : Host) (is_host : Contains (basis.hosts s) host)
        (of_assoc : fragment.assoc ≡ host.assoc) (assoc : Assoc) (here : At basis.schema.model.assocs fragment.assoc.index assoc) where
      link_table : (table : Table) × At basis.schema.store.tables fragment.table.index table
      link_table = item_at basis.schema.store.tables fragment.table.index (link_ids basis.schema states.given.is_basis.sound fragment mapped).table

      maps : LinkMaps basis.schema fragment.table fragment (the_assoc basis states.given.is_basis fragment mapped)
      maps = record { is_fragment = mapped; is_assoc = assoc_here basis states.given.is_basis fragment mapped; to_table = refl }

      -- the host's end writes the table's primary key
      owns : (b : Bool) → IsHostedAt basis.schema fragment.table (side b fragment) → (end_at b (the_assoc basis states.given.is_basis fragment mapped)).set ≡ s
          → Owns basis.schema fragment.table s (side b fragment)
      owns true hosted at_set = inr (fragment, the_assoc basis states.given.is_basis fragment mapped, maps, inl (hosted, at_set, refl))
      owns false hosted at_set = inr (fragment, the_assoc basis states.given.is_basis fragment mapped, maps, inr (hosted, at_set, refl))

      -- the set owns the link fragment's table
      link_owner : (pairing : List Pair) × IsOwned basis.schema fragment.table s pairing
      link_owner = owned basis.schema states.given.is_basis.sound fragment.table s (side host.first_hosts fragment)
          (owns host.first_hosts (hosted_side basis states.given.is_basis fragment mapped s host is_host of_assoc) (host_set basis states.given.is_basis fragment mapped s host is_host of_assoc))

      link_to : IsHostedFragment basis.schema s link_owner.0 assoc fragment link_table.0
      link_to = record { to = record { mapped = mapped; is_table = link_table.1; is_assoc = here }; owned = link_owner.1 }

      -- where it disagrees at a host it does with the host's region
      at_host : (row : Row) (entity : Entity) → DisagreesAtHost basis.schema c tables s link_owner.0 assoc fragment link_table.0 row entity → SomeConflict
      at_host row entity by =
          let of : HeldBy entity = held_by fragment.table link_owner.0 link_owner.1 entity by.stands.stands in
          let of_entity : IsRowOfEntity basis c tables s link_owner.0 entity fragment.table link_table.0 row = record { among = by.has_row; at = by.stands } in
          let differs = host_differs basis states.given.is_basis (linked_by entity of) tables in_tables of.clear
          link_owner.0 assoc fragment link_table.0 link_to row of_entity by.one_only in
          let hosts_it : Contains (basis.hosts of.region.set) host =
          subst (λ u. Contains (basis.hosts u) host) (sym (parts_of basis s of.region of.held.listed).of_set) is_host in
          conflict_at of.region of.held.listed fragment.place (inr (
            fragment,
            mapped,
            (
              refl,
              and_from (is_hosted basis of.region fragment.assoc)
                  (differ (is_linked basis of.region.linked fragment.assoc) (shows_link_pattern basis (focus.Entity of.region) fragment))
                  ((Decides-hosted basis of.region fragment.assoc).1 (host, hosts_it, of_assoc)) differs,
            ),
          ))

      -- so does a tuple of links
      of_link_fragment : (tuple : List Value) → IsInOneOnly (IsWrittenLinkTuple basis.schema c fragment) (IsShownLinkTuple tables fragment) tuple → SomeConflict
      of_link_fragment tuple only =
          let keys = keys_in_tuple basis.schema.model assoc fragment tuple in
          let at = ((tuples_of_hosts basis.schema states.given.is_basis.sound c tables in_tables s link_owner.0 assoc fragment link_table.0 link_to).keys keys).0 (tuple, only, refl) in
          at_host at.0 at.1 at.2

  module _ (fails : FailsThere basis s kind.Disagrees) where
    abbrev disagrees : Disagrees basis.schema fails.c fails.place
    disagrees = fails.fails.0

    in_tables : IsStoredIn basis.schema fails.c disagrees.tables
    in_tables = record { legal = fails.legal; are = disagrees.defined }

    abbrev key_in : Fragment → List Value
    key_in fragment = key_in_tuple basis.schema.model (element_of basis.schema.model fragment.set) fragment.pairs disagrees.tuple

    abbrev keys_in : Assoc → LinkFragment → List Value
    keys_in assoc fragment = keys_in_tuple basis.schema.model assoc fragment disagrees.tuple

    abbrev ByFragment : Type 0
    ByFragment = (fragment : Fragment) × Contains basis.schema.mapping.fragments fragment
        × IsInOneOnly (IsWrittenTuple basis.schema fails.c fragment) (IsShownTuple disagrees.tables fragment) disagrees.tuple
        × (fails.place ≡ place_at fragment.place (key_in fragment) [])

    abbrev ByLinkFragment : Type 0
    ByLinkFragment = (fragment : LinkFragment) × (assoc : Assoc) × Contains basis.schema.mapping.links fragment × At basis.schema.model.assocs fragment.assoc.index assoc
        × IsInOneOnly (IsWrittenLinkTuple basis.schema fails.c fragment) (IsShownLinkTuple disagrees.tables fragment) disagrees.tuple
        × (fails.place ≡ place_at fragment.place (keys_in assoc fragment) [])

    -- two places that are one have one name
    one_name : (one two : List ℕ) (key other : List Value) → fails.place ≡ place_at one key [] → fails.place ≡ place_at two other [] → one ≡ two
    one_name one two key other first second = sym (ap (λ (place : Place). place.name) first) ∙ ap (λ (place : Place). place.name) second

    -- so the fragment that disagrees is the one at whose place it does
    told_by : ByFragment ⊎ ByLinkFragment → IsAtFragment basis s fails.place → SomeConflict
    told_by (inl (fragment, mapped, only, at)) (inl (other, key, there, of_set, at_other)) =
        let same : fragment ≡ other = one_fragment basis.schema states.given.is_basis.sound fragment other mapped there (one_name fragment.place other.place (key_in fragment) key at at_other) in
        of_fragment fails.c fails.legal disagrees.tables in_tables fragment mapped (ap (λ (one : Fragment). one.set) same ∙ of_set) disagrees.tuple only
    told_by (inl (fragment, mapped, only, at)) (inr (other, host, key, there, is_host, of_assoc, at_other)) =
        absurd (no_fragment basis.schema states.given.is_basis.sound fragment other mapped there (one_name fragment.place other.place (key_in fragment) key at at_other))
    told_by (inr (fragment, assoc, mapped, here, only, at)) (inl (other, key, there, of_set, at_other)) =
        absurd (no_fragment basis.schema states.given.is_basis.sound other fragment there mapped (one_name other.place fragment.place key (keys_in assoc fragment) at_other at))
    told_by (inr (fragment, assoc, mapped, here, only, at)) (inr (other, host, key, there, is_host, of_assoc, at_other)) =
        let same : fragment ≡ other = one_link_fragment basis.schema states.given.is_basis.sound fragment other mapped there
        (one_name fragment.place other.place (keys_in assoc fragment) key at at_other) in
        of_link_fragment fails.c fails.legal disagrees.tables in_tables fragment mapped host is_host (ap (λ (one : LinkFragment). one.assoc) same ∙ of_assoc) assoc here
        disagrees.tuple only

    pub told : (one : Conflict) × IsConflictAt basis s kind.Disagrees one
    told = told_by disagrees.broken fails.fails.1
