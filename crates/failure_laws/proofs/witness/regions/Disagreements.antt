-- The small state with the usual entity of a region disagrees with the fragment of the place that is told: at the entity's key, or at the keys in its row.
use Rattle.std.proofs.Common.{◌≡◌, ◌⊎◌, ⊎_elim, inl, inr, ℕ, List, [], Contains, IsTrue, refl, sym, ap, subst, ◌∙◌}
use Rattle.std.proofs.lemmas.Bool.{and_parts}
use Rattle.emc_base.proofs.Lists.{at_once}
use Rattle.round_trip.specs.Words.{Assoc, At, FailsAt, Fragment, LinkFragment, Place, SetId, State, TableId, Value, Pair, Table, key_of, place_at}
use Rattle.round_trip.specs.FailsAt.{Disagrees}
use Rattle.round_trip.specs.declared.FailKind.TheVariants as kind
use Rattle.schema_laws.specs.state_demand.Owners.{IsOwned}
use Rattle.schema_laws.specs.sound_demand.Disagreeing.{keys_in_row}
use Rattle.schema_laws.specs.sound_demand.Fragments.{IsHostedFragment}
use Rattle.schema_laws.proofs.sound_demand.tuples.Disagreeing.{tuples_of_hosts}
use Rattle.cells.specs.Limits.{IsWithinLimits}
use Rattle.regions.specs.declared.region.Region.{Region}
use Rattle.regions.specs.declared.pattern.Focus.TheVariants as focus
use Rattle.regions.specs.Basis.{Basis}
use Rattle.regions.specs.Patterns.{Valuation, pattern_of}
use Rattle.regions.specs.Regions.{regions_of}
use Rattle.regions.specs.Symbols.{is_linked}
use Rattle.regions.specs.region_laws.IsBasis.{IsBasis}
use Rattle.regions.specs.region_laws.pattern.Described.{row_for}
use Rattle.region_states.specs.Entities.{focus_entity}
use Rattle.region_states.specs.conflicts.Facts.{differ, differs_at, differs_at_links, disagrees_at, is_hosted, shows_link_pattern}
use Rattle.region_states.specs.conflicts.There.{NoneFailsBy}
use Rattle.region_states.specs.defaults.Defaults.{default_valuation}
use Rattle.region_states.specs.focus.Agreeing.{IsRowOfEntity}
use Rattle.region_states.proofs.focus.Listed.{row_owned}
use Rattle.host_states.specs.SmallStates.{small_focus}
use Rattle.conflict_laws.specs.Told.{DifferingFragment}
use Rattle.conflict_laws.proofs.disagreement.Deciding.{Decides-disagrees, SomeDiffers, SomeLinksDiffer}
use Rattle.conflict_laws.proofs.disagreement.Differing.{host_only, row_there}
use Rattle.conflict_laws.proofs.disagreement.Failing.{fails}
use Rattle.failure_laws.specs.Places.{IsFragment, IsHostRow}
use Rattle.failure_laws.proofs.witness.regions.Cells.{clear_states, own_set}
use Rattle.failure_laws.proofs.witness.regions.FragmentPlaces.{named_apart, one_link_named}
use Rattle.failure_laws.proofs.witness.regions.HostRows.{clear, entity, holds, in_tables, linked, same_keys, state, tables, values}

module _ (basis : Basis) (is : IsBasis basis) (limits : IsWithinLimits basis.schema) (none : NoneFailsBy basis.schema kind.Clash) (s : SetId) (region : Region)
    (has : Contains (regions_of basis s) region) where
  abbrev shown : State
  shown = small_focus basis 0 region (default_valuation basis 0 region)

  abbrev FailsIn : Place → Type 0
  FailsIn place = (d : State) → FailsAt basis.schema kind.Disagrees place shown d

  -- a fragment of the set fails at the entity's key
  fragment_fails : (fragment : Fragment) → Contains basis.schema.mapping.fragments fragment → IsTrue (differs_at basis region fragment)
      → FailsIn (place_at fragment.place (key_of basis.schema.model (focus_entity basis region (default_valuation basis 0 region))) [])
  fragment_fails fragment mapped differs d = fails basis (clear_states basis is limits none)
      (record { s = s; region = region; listed = has; fragment = fragment; mapped = mapped; differs = differs }) d

  -- one of links fails at the keys in the row
  module _ (fragment : LinkFragment) (mapped : Contains basis.schema.mapping.links fragment) (differs : IsTrue (differs_at_links basis region fragment)) (keys : List Value)
      (host : IsHostRow basis region fragment keys) where
    abbrev IsOwnedTable : TableId → Type 0
    IsOwnedTable t = (table : Table) × (pairing : List Pair) × At basis.schema.store.tables t.index table × IsOwned basis.schema t s pairing

    own_table : IsOwnedTable host.row.table
    own_table = row_owned basis is s region has host.row host.is_row

    fragment_table : At basis.schema.store.tables fragment.table.index own_table.0 × IsOwned basis.schema fragment.table s own_table.1
    fragment_table =
        let P : TableId → Type 0 = λ t. At basis.schema.store.tables t.index own_table.0 × IsOwned basis.schema t s own_table.1 in
        subst P host.of_table (own_table.2, own_table.3)

    to : IsHostedFragment basis.schema s own_table.1 host.assoc fragment own_table.0
    to = record { to = record { mapped = mapped; is_table = fragment_table.0; is_assoc = host.is_assoc }; owned = fragment_table.1 }

    link_disagrees : Disagrees basis.schema shown (place_at fragment.place keys [])
    link_disagrees =
        let it = linked basis is limits none s region has in
        let stored = in_tables basis is limits none s region has in
        let no_clash = clear basis is limits none s region has in
        let held = tables basis is limits none s region has in
        let row = row_there basis is it held stored no_clash own_table.1 fragment.table own_table.0 fragment_table.0 fragment_table.1 (host.row, host.is_row, host.of_table) in
        let apart = and_parts (is_hosted basis region fragment.assoc)
        (differ (is_linked basis region.linked fragment.assoc) (shows_link_pattern basis (focus.Entity region) fragment)) differs in
        let only = host_only basis is it held stored no_clash own_table.1 host.assoc fragment own_table.0 to row.0 row.1 apart.1 in
        let R : TableId → Type 0 = λ t. IsRowOfEntity basis shown held s own_table.1 (focus_entity basis region (default_valuation basis 0 region)) t own_table.0 row.0 in
        let same : keys_in_row basis.schema host.assoc fragment row.0 ≡ keys =
        same_keys basis is limits none s region has host.row host.is_row own_table.0 own_table.2 own_table.1 own_table.3 row.0 (subst R (sym host.of_table) row.1)
        fragment mapped (sym host.of_table) host.assoc
        ∙ sym host.is in
        let P : List Value → Type 0 = λ found. Disagrees basis.schema shown (place_at fragment.place found []) in
        subst P same ((tuples_of_hosts basis.schema is.sound shown held stored s own_table.1 host.assoc fragment own_table.0 to).fails row.0
        (focus_entity basis region (default_valuation basis 0 region)) (record { has_row = row.1.among; stands = row.1.at; one_only = only }))

    link_fragment_fails : FailsIn (place_at fragment.place keys [])
    link_fragment_fails d = record { legal = (holds basis is limits none s region has).legal; fails = link_disagrees }

  -- so it fails at the place that is told
  module _ (name : List ℕ) (place : Place) where
    by_entity_fragment : place ≡ place_at name (key_of basis.schema.model (focus_entity basis region (default_valuation basis 0 region))) []
        → SomeDiffers basis region name → FailsIn place
    by_entity_fragment at (found, mapped, (found_named, differs)) d =
        let P : Place → Type 0 = λ it. FailsAt basis.schema kind.Disagrees it shown d in
        subst P (sym at) (subst (λ one. P (place_at one (key_of basis.schema.model (focus_entity basis region (default_valuation basis 0 region))) [])) found_named
        (fragment_fails found mapped differs d))

    by_link_fragment : (fragment : LinkFragment) (keys : List Value) → Contains basis.schema.mapping.links fragment → fragment.place ≡ name → IsHostRow basis region fragment keys
        → place ≡ place_at name keys [] → SomeLinksDiffer basis region name → FailsIn place
    by_link_fragment fragment keys mapped named host at (found, found_mapped, (found_named, differs)) d =
        let P : Place → Type 0 = λ it. FailsAt basis.schema kind.Disagrees it shown d in
        let one : found ≡ fragment = one_link_named basis is found fragment found_mapped mapped (found_named ∙ sym named) in
        let Differs : LinkFragment → Type 0 = λ f. IsTrue (differs_at_links basis region f) in
        subst P (sym at) (subst (λ it. P (place_at it keys [])) named (link_fragment_fails fragment mapped (subst Differs one differs) keys host d))

    pub region_disagreement_fails : IsTrue (disagrees_at basis (focus.Entity region) name) → IsFragment basis (focus.Entity region) name place → FailsIn place
    region_disagreement_fails told fragment = by fragment ((Decides-disagrees basis region name).0 told)
      where
        by : IsFragment basis (focus.Entity region) name place → SomeDiffers basis region name ⊎ SomeLinksDiffer basis region name → FailsIn place
        by (inl (one, mapped, named, at)) (inl found) = by_entity_fragment at found
        by (inl (one, mapped, named, at)) (inr found) = absurd (named_apart basis is one mapped found.0 found.1 (named ∙ sym found.2.0))
        by (inr (one, keys, mapped, named, host, at)) (inl found) = absurd (named_apart basis is found.0 found.1 one mapped (found.2.0 ∙ sym named))
        by (inr (one, keys, mapped, named, host, at)) (inr found) = by_link_fragment one keys mapped named host at found
