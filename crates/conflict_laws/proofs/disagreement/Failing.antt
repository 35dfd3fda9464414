-- Where a fragment and a region disagree, so do the fragment and the state that is shown for the region.
use Rattle.std.proofs.Common.{◌≡◌, ⊎_elim, inl, inr, ◌==◌, List, [], Bool, Contains, IsTrue, refl, subst, ◌∙◌, arith}
use Rattle.std.proofs.lemmas.Bool.{and_parts}
use Rattle.std.proofs.lemmas.Bool.Decides.{Decides-eqb}
use Rattle.round_trip.specs.Words.{SetId, TableId, Entity, FailsAt, Fragment, IsLegal, LinkFragment, Pair, State, Table, Tables, At, key_of, place_at}
use Rattle.round_trip.specs.FailsAt.{Disagrees}
use Rattle.round_trip.specs.declared.FailKind.TheVariants as kind
use Rattle.round_trip.proofs.Lookups.{assoc_of}
use Rattle.schema_laws.specs.state_demand.Owners.{IsOwned}
use Rattle.schema_laws.specs.sound_demand.Disagreeing.{keys_in_row}
use Rattle.schema_laws.specs.sound_demand.Fragments.{IsHostedFragment, IsOwnedFragment, IsStoredIn}
use Rattle.schema_laws.specs.sound_demand.Made.{tables_for}
use Rattle.schema_laws.proofs.sound_demand.tuples.Disagreeing.{fails_at_entities, tuples_of_hosts}
use Rattle.schema_laws.proofs.sound_demand.Kept.{clash_shown, tables_there}
use Rattle.regions.specs.declared.region.Region.{Region}
use Rattle.regions.specs.declared.pattern.Focus.TheVariants as focus
use Rattle.regions.specs.Basis.{Basis, Host}
use Rattle.regions.specs.Patterns.{Valuation, pattern_of}
use Rattle.regions.specs.Regions.{regions_of}
use Rattle.regions.specs.Shown.{shows_link_row, shows_row}
use Rattle.regions.specs.Symbols.{is_linked, selects_region}
use Rattle.regions.specs.region_laws.Held.{IsHeldAt, LinkedEntity}
use Rattle.regions.proofs.region_laws.pattern.types.Regions.{parts_of}
use Rattle.regions.specs.region_laws.pattern.Allowed.{RegionValues}
use Rattle.region_states.specs.focus.Held.{HasRow}
use Rattle.region_states.proofs.focus.Listed.{row_owned}
use Rattle.region_states.specs.defaults.Admissible.{IsAdmissible}
use Rattle.region_states.specs.defaults.Defaults.{default_valuation}
use Rattle.region_states.proofs.defaults.Defaults.{default_admissible}
use Rattle.region_states.specs.conflicts.Conflicts.{IsConflictAt, TellsOfSet, is_fact, kind_of}
use Rattle.region_states.specs.conflicts.Facts.{differ, differs_at, differs_at_links, is_hosted, shows_link_pattern, shows_pattern}
use Rattle.region_states.specs.conflicts.There.{FailsThere}
use Rattle.region_states.specs.declared.conflicts.conflict.Conflict.{Conflict}
use Rattle.region_states.specs.declared.conflicts.conflict.Conflict.TheVariants as conflict
use Rattle.conflict_laws.proofs.clash.Clear.{region_clear}
use Rattle.region_states.specs.Entities.{focus_entity}
use Rattle.region_states.specs.HoldsFocus.{HoldsFocus}
use Rattle.region_states.proofs.Held.{focus_held}
use Rattle.conflict_laws.proofs.disagreement.Differing.{entity_only, host_only, row_there}
use Rattle.conflict_laws.proofs.disagreement.OneOnly.{one_is_so}
use Rattle.conflict_laws.proofs.disagreement.PatternRows.{linked_row, selected_row, shown_row}
use Rattle.conflict_laws.proofs.disagreement.Deciding.{Decides-disagrees, Decides-hosted, SomeDiffers, SomeLinksDiffer}
use Rattle.conflict_laws.specs.States.{ClearStates}
use Rattle.conflict_laws.specs.rival.Alike.{IsClear}
use Rattle.conflict_laws.specs.Told.{DifferingFragment}

module _ (basis : Basis) (states : ClearStates basis) where
  -- no legal state clashes, and so each has tables
  pub stored : (c : State) → IsLegal basis.schema.model c → IsStoredIn basis.schema c (tables_for basis.schema c)
  stored c legal = record {
    legal = legal;
    are = tables_there basis.schema states.given.is_basis.sound c (clash_shown basis.schema states.given.is_basis.sound c
        (λ place clashes. states.no_clash place c c (record { legal = legal; fails = clashes })));
  }

  module _ (s : SetId) (region : Region) (has : Contains (regions_of basis s) region) where
    abbrev values : Valuation
    values = default_valuation basis 0 region

    abbrev c : State
    c = states.given.state region values

    abbrev tables : Tables
    tables = tables_for basis.schema c

    abbrev entity : Entity
    entity = focus_entity basis region values

    -- the usual values are admissible, so the state holds the entity
    admissible : IsAdmissible basis 0 region values
    admissible = default_admissible basis states.given.is_basis states.given.limits s region has 0 (omega arith)

    abbrev at_values : RegionValues basis
    at_values = record { s = s; region = region; listed = has; values = values }

    holds : HoldsFocus basis region values c
    holds = states.given.hosts.holds at_values admissible

    -- and the region holds it with its partners
    held : IsHeldAt basis c s entity region values.part
    held = focus_held basis states.given.is_basis at_values admissible.allowed c holds

    abbrev linked : LinkedEntity basis
    linked = record { state = c; legal = holds.legal; s = s; entity = entity; region = region; part = values.part; held = held }

    in_tables : IsStoredIn basis.schema c tables
    in_tables = stored c holds.legal

    -- no row of the pattern clashes
    clear : IsClear basis region
    clear = region_clear basis states s region has

    -- the set owns the table of each row of the pattern
    abbrev IsOwnedTable : TableId → Type 0
    IsOwnedTable t = (table : Table) × (pairing : List Pair) × At basis.schema.store.tables t.index table × IsOwned basis.schema t s pairing

    owned_table : (t : TableId) → HasRow (pattern_of basis (focus.Entity region)) t → IsOwnedTable t
    owned_table t row = subst IsOwnedTable row.2 (row_owned basis states.given.is_basis s region has row.0 row.1)

    module _ (fragment : Fragment) (mapped : Contains basis.schema.mapping.fragments fragment) (told : IsTrue (differs_at basis region fragment)) where
      abbrev selected : Bool
      selected = selects_region basis region fragment

      abbrev shown : Bool
      shown = shows_pattern basis (focus.Entity region) fragment

      -- the fragment is of the region's set, and just one is so: it selects the region, or shows the row
      apart : IsTrue (fragment.set.index == region.set.index) × IsTrue (differ selected shown)
      apart = and_parts (fragment.set.index == region.set.index) (differ selected shown) told

      of_region : fragment.set ≡ region.set
      of_region = let number = (Decides-eqb fragment.set.index region.set.index).0 apart.0 in λ k. record { index = number k }

      -- in both cases its table has a row
      has_row : HasRow (pattern_of basis (focus.Entity region)) fragment.table
      has_row = ⊎_elim
          (λ (so : IsTrue selected). selected_row basis states.given.is_basis region fragment mapped of_region so)
          (λ (so : IsTrue shown). shown_row basis (focus.Entity region) fragment.table (shows_row basis.schema.model region.atoms fragment) so)
          (one_is_so selected shown apart.1)

      -- the fragment and the state disagree at the entity's key
      disagrees : Disagrees basis.schema c (place_at fragment.place (key_of basis.schema.model entity) [])
      disagrees =
          let at = owned_table fragment.table has_row in
          let to : IsOwnedFragment basis.schema s at.1 fragment at.0 = record { mapped = mapped; is_table = at.2; owned = at.3 } in
          let row = row_there basis states.given.is_basis linked tables in_tables clear at.1 fragment.table at.0 at.2 at.3 has_row in
          let only = entity_only basis states.given.is_basis linked tables in_tables clear at.1 fragment at.0 to row.0 row.1 apart.1 in
          fails_at_entities basis.schema states.given.is_basis.sound c tables in_tables s at.1 fragment at.0 to row.0 entity
          (record { has_row = row.1.among; stands = row.1.at; one_only = only })

      -- so the state fails there
      fails_in : (d : State) → FailsAt basis.schema kind.Disagrees
          (place_at fragment.place (key_of basis.schema.model (focus_entity basis region (default_valuation basis 0 region))) [])
          (states.given.state region (default_valuation basis 0 region)) d
      fails_in d = record { legal = holds.legal; fails = disagrees }

      -- and that is a failure of the set
      fragment_there : FailsThere basis s kind.Disagrees
      fragment_there = record {
        place = place_at fragment.place (key_of basis.schema.model entity) [];
        c = c;
        d = c;
        legal = holds.legal;
        fails = (disagrees, inl (fragment, key_of basis.schema.model entity, mapped, of_region ∙ (parts_of basis s region has).of_set, refl));
      }

    module _ (fragment : LinkFragment) (mapped : Contains basis.schema.mapping.links fragment) (told : IsTrue (differs_at_links basis region fragment)) where
      abbrev flagged : Bool
      flagged = is_linked basis region.linked fragment.assoc

      abbrev link_shown : Bool
      link_shown = shows_link_pattern basis (focus.Entity region) fragment

      -- the links are hosted at the region's set, and just one is so: a link is there, or the row is shown
      links_apart : IsTrue (is_hosted basis region fragment.assoc) × IsTrue (differ flagged link_shown)
      links_apart = and_parts (is_hosted basis region fragment.assoc) (differ flagged link_shown) told

      host_of : (host : Host) × Contains (basis.hosts region.set) host × (fragment.assoc ≡ host.assoc)
      host_of = (Decides-hosted basis region fragment.assoc).0 links_apart.0

      -- in both cases the table has a row
      has_link_row : HasRow (pattern_of basis (focus.Entity region)) fragment.table
      has_link_row = ⊎_elim
          (λ (so : IsTrue flagged). linked_row basis states.given.is_basis region host_of.0 host_of.1 fragment mapped host_of.2 so)
          (λ (so : IsTrue link_shown). shown_row basis (focus.Entity region) fragment.table (shows_link_row basis.schema.model region.atoms fragment) so)
          (one_is_so flagged link_shown links_apart.1)

      -- so it is with hosted links, at the keys in the entity's row
      link_fragment_there : FailsThere basis s kind.Disagrees
      link_fragment_there =
          let at = owned_table fragment.table has_link_row in
          let assoc = assoc_of basis.schema states.given.is_basis.sound fragment mapped in
          let to : IsHostedFragment basis.schema s at.1 assoc.0 fragment at.0 = record {
            to = record { mapped = mapped; is_table = at.2; is_assoc = assoc.1 };
            owned = at.3;
          } in
          let row = row_there basis states.given.is_basis linked tables in_tables clear at.1 fragment.table at.0 at.2 at.3 has_link_row in
          let only = host_only basis states.given.is_basis linked tables in_tables clear at.1 assoc.0 fragment at.0 to row.0 row.1 links_apart.1 in
          let keys = keys_in_row basis.schema assoc.0 fragment row.0 in
          let hosts_here : Contains (basis.hosts s) host_of.0 = subst (λ u. Contains (basis.hosts u) host_of.0) (parts_of basis s region has).of_set host_of.1 in
          record {
            place = place_at fragment.place keys [];
            c = c;
            d = c;
            legal = holds.legal;
            fails = (
              (tuples_of_hosts basis.schema states.given.is_basis.sound c tables in_tables s at.1 assoc.0 fragment at.0 to).fails row.0 entity
                  (record { has_row = row.1.among; stands = row.1.at; one_only = only }),
              inr (fragment, host_of.0, keys, mapped, hosts_here, host_of.2, refl),
            );
          }

  pub fails : (at : DifferingFragment basis) (d : State) → FailsAt basis.schema kind.Disagrees
      (place_at at.fragment.place (key_of basis.schema.model (focus_entity basis at.region (default_valuation basis 0 at.region))) [])
      (states.given.state at.region (default_valuation basis 0 at.region)) d
  fails at = fails_in at.s at.region at.listed at.fragment at.mapped at.differs

  -- so a conflict of this kind is a failure of the set
  pub there : (s : SetId) (one : Conflict) → IsConflictAt basis s kind.Disagrees one → FailsThere basis s kind.Disagrees
  there s one at = by one at.of_kind at.of_set at.holds
    where
      by : (told : Conflict) → kind_of told ≡ kind.Disagrees → TellsOfSet basis s told → IsTrue (is_fact basis told) → FailsThere basis s kind.Disagrees
      by (conflict.Disagree (focus.Entity region) place) is_kind has fact = ⊎_elim
          (λ (found : SomeDiffers basis region place).
          fragment_there s region has found.0 found.1 found.2.1)
          (λ (found : SomeLinksDiffer basis region place).
          link_fragment_there s region has found.0 found.1 found.2.1)
          ((Decides-disagrees basis region place).0 fact)
      by (conflict.Disagree (focus.Link a) place) is_kind has fact = absurd has
      by (conflict.Clash of t col first second) is_kind has fact = absurd (let no : ⊥ = cc in no)
      by (conflict.NullIn of t col first) is_kind has fact = absurd (let no : ⊥ = cc in no)
      by (conflict.Absent region) is_kind has fact = absurd (let no : ⊥ = cc in no)
      by (conflict.Rival first second) is_kind has fact = absurd (let no : ⊥ = cc in no)
      by (conflict.Lost region p) is_kind has fact = absurd (let no : ⊥ = cc in no)
      by (conflict.ManyLinks a) is_kind has fact = absurd has
      by (conflict.Unmapped a) is_kind has fact = absurd has
