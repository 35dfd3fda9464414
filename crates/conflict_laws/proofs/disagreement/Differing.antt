-- At the row of an entity a fragment disagrees just where it does with the pattern of the region that holds the entity.
use Rattle.std.proofs.Common.{◌≡◌, ◌↔◌, ◌⊎◌, inl, inr, ⊎_elim, List, Bool, Contains, IsTrue, refl, sym, subst}
use Rattle.std.proofs.lemmas.List.Elements.{All-contains}
use Rattle.round_trip.specs.Words.{TableId, Value, Assoc, DemandsRow, Fragment, LinkFragment, Pair, Row, Selects, Shows, ShowsLink, Table, Tables, At, row_key, rows_in}
use Rattle.schema_laws.specs.state_demand.Owners.{IsOwned, paired_key}
use Rattle.schema_laws.proofs.state_demand.writings.Decisions.{link_shown_or_not, shown_or_not, so_or_not}
use Rattle.schema_laws.proofs.state_demand.lists.Lists.{of_any}
use Rattle.schema_laws.specs.sound_demand.Disagreeing.{IsOneOnly}
use Rattle.schema_laws.specs.sound_demand.Fragments.{IsHostedFragment, IsOwnedFragment, IsStoredIn}
use Rattle.schema_laws.specs.sound_demand.ReadBack.{HasLinkOf}
use Rattle.regions.specs.declared.pattern.Pattern.{Pattern}
use Rattle.regions.specs.declared.pattern.Focus.TheVariants as focus
use Rattle.regions.specs.Basis.{Basis}
use Rattle.regions.specs.Patterns.{pattern_of}
use Rattle.regions.specs.Shown.{shows_link_row, shows_row}
use Rattle.regions.specs.Symbols.{is_linked, selects_region}
use Rattle.regions.specs.region_laws.IsBasis.{IsBasis}
use Rattle.regions.proofs.region_laws.listing.Possible.{linked_hosts}
use Rattle.regions.proofs.region_laws.entities.Selected.{Decides-selected}
use Rattle.regions.specs.region_laws.pattern.Described.{IsClearRow}
use Rattle.regions.specs.region_laws.Held.{IsAtRow, LinkedEntity}
use Rattle.regions.proofs.region_laws.pattern.symbols.Origins.{linked_decided}
use Rattle.regions.proofs.region_laws.entities.Held.{linked_holding}
use Rattle.region_states.specs.focus.Agreeing.{IsRowOfEntity}
use Rattle.region_states.specs.focus.Held.{HasRow}
use Rattle.region_states.proofs.focus.Agreeing.{entity_agrees, host_agrees}
use Rattle.region_states.proofs.focus.Demanded.{rows}
use Rattle.region_states.proofs.focus.Hosts.{HostsLink, has_link, hosts_link}
use Rattle.region_states.proofs.focus.Partners.{link_linked, linked_link}
use Rattle.region_states.specs.conflicts.Facts.{differ, shows_link_pattern, shows_pattern}
use Rattle.conflict_laws.proofs.disagreement.OneOnly.{alike_through, differ_by, one_only_by}
use Rattle.conflict_laws.proofs.disagreement.PatternRows.{shown_by}
use Rattle.conflict_laws.specs.rival.Alike.{IsClear}

module _ (basis : Basis) (is : IsBasis basis) (linked : LinkedEntity basis) (tables : Tables) (stored : IsStoredIn basis.schema linked.state tables)
    (clear : IsClear basis linked.region) where
  abbrev pattern : Pattern
  pattern = pattern_of basis (focus.Entity linked.region)

  module _ (pairing : List Pair) (t : TableId) (table : Table) (here : At basis.schema.store.tables t.index table) (owned : IsOwned basis.schema t linked.s pairing) where
    abbrev IsRow : Row → Type 0
    IsRow row = IsRowOfEntity basis linked.state tables linked.s pairing linked.entity t table row

    -- the tables have a row of the entity where the pattern has one of the table
    pub row_there : HasRow pattern t → (row : Row) × IsRow row
    row_there has =
        let key : List Value = paired_key basis.schema.model pairing linked.entity in
        let at : IsAtRow basis linked.state linked.s linked.entity t key = record { pairing = pairing; owned = owned; at = record { stands = linked.held.stands; at_key = refl } } in
        let demanded = (rows basis is linked t key at).1 has in
        let found = of_any (λ (row : Row). row_key table row ≡ key) (rows_in tables t) ((stored.are.rows t table here).all key demanded) in
        (found.0, record { among = found.1; at = record { stands = linked.held.stands; at_key = sym found.2 } })

    -- and the other way
    pub pattern_row_there : (row : Row) → IsRow row → HasRow pattern t
    pattern_row_there row of_entity =
        (rows basis is linked t (row_key table row) (record { pairing = pairing; owned = owned; at = of_entity.at })).0
        (All-contains (λ (one : Row). DemandsRow basis.schema linked.state t (row_key table one)) (rows_in tables t) row (stored.are.rows t table here).demanded of_entity.among)

  -- the pattern's row doesn't clash
  is_clear : (t : TableId) (has : HasRow pattern t) → IsClearRow basis (focus.Entity linked.region) has.0
  is_clear t has = record { is_row = has.1; clear = clear has.0 has.1 }

  module _ (pairing : List Pair) (fragment : Fragment) (table : Table) (to : IsOwnedFragment basis.schema linked.s pairing fragment table) (row : Row)
      (of_entity : IsRowOfEntity basis linked.state tables linked.s pairing linked.entity fragment.table table row) where
    abbrev Selected : Type 0
    Selected = Selects basis.schema.model fragment linked.entity

    abbrev selected : Bool
    selected = selects_region basis linked.region fragment

    abbrev shown : Bool
    shown = shows_pattern basis (focus.Entity linked.region) fragment

    -- the fragment agrees with the entity's row just where it does with the pattern's
    alike : (Selected ↔ Shows fragment row) ↔ (IsTrue selected ↔ IsTrue shown)
    alike =
        let has : HasRow pattern fragment.table = pattern_row_there pairing fragment.table table to.is_table to.owned row of_entity in
        alike_through (entity_agrees basis is linked fragment
        (record { tables = tables; stored = stored; pairing = pairing; table = table; to = to; row = row; of_entity = of_entity }) has.0 (is_clear fragment.table has) has.2)
        (shown_by basis (focus.Entity linked.region) fragment.table (shows_row basis.schema.model linked.region.atoms fragment) has.0 has.1 has.2)

    -- where it differs from the pattern, just one is so: it selects the entity, or shows the row
    pub entity_only : IsTrue (differ (selects_region basis linked.region fragment) (shows_pattern basis (focus.Entity linked.region) fragment))
        → IsOneOnly (Selects basis.schema.model fragment linked.entity) (Shows fragment row)
    entity_only = one_only_by Selected (Shows fragment row) selected shown alike
        (so_or_not selected (Decides-selected basis is fragment to.mapped (linked_holding basis linked))) (shown_or_not fragment row)

    -- and the other way
    pub entity_differs : IsOneOnly (Selects basis.schema.model fragment linked.entity) (Shows fragment row)
        → IsTrue (differ (selects_region basis linked.region fragment) (shows_pattern basis (focus.Entity linked.region) fragment))
    entity_differs = differ_by Selected (Shows fragment row) selected shown alike

  module _ (pairing : List Pair) (assoc : Assoc) (fragment : LinkFragment) (table : Table) (to : IsHostedFragment basis.schema linked.s pairing assoc fragment table) (row : Row)
      (of_entity : IsRowOfEntity basis linked.state tables linked.s pairing linked.entity fragment.table table row) where
    abbrev Linked : Type 0
    Linked = HasLinkOf basis.schema linked.state linked.s pairing assoc fragment linked.entity

    abbrev flagged : Bool
    flagged = is_linked basis linked.region.linked fragment.assoc

    abbrev link_shown : Bool
    link_shown = shows_link_pattern basis (focus.Entity linked.region) fragment

    -- the link fragment agrees with the entity's row just where it does with the pattern's
    link_alike : (Linked ↔ ShowsLink fragment row) ↔ (IsTrue flagged ↔ IsTrue link_shown)
    link_alike =
        let has : HasRow pattern fragment.table = pattern_row_there pairing fragment.table table to.to.is_table to.owned row of_entity in
        alike_through (host_agrees basis is linked fragment
        (record { tables = tables; stored = stored; pairing = pairing; assoc = assoc; table = table; to = to; row = row; of_entity = of_entity }) has.0
        (is_clear fragment.table has) has.2)
        (shown_by basis (focus.Entity linked.region) fragment.table (shows_link_row basis.schema.model linked.region.atoms fragment) has.0 has.1 has.2)

    -- whether a link is hosted at the entity is told by the flag
    linked_or_not : Linked ⊎ ¬ Linked
    linked_or_not = ⊎_elim
        (λ (flagged_so : Contains linked.region.linked fragment.assoc).
        let host = linked_hosts basis is linked.s linked.region linked.held.listed fragment.assoc flagged_so in
        let found = linked_link basis linked.state linked.s linked.entity linked.region linked.part linked.held.partners host.0 host.1 (subst (Contains linked.region.linked) host.2 flagged_so) in
        inl (has_link basis is linked.s pairing assoc fragment table to linked.state linked.entity
        (record { host = host.0; hosts = host.1; of_assoc = host.2; link = found.0; stands = found.1.0; at_entity = found.1.1 })))
        (λ (not_linked : ¬ Contains linked.region.linked fragment.assoc). inr (λ has.
        let by : HostsLink basis is linked.s pairing assoc fragment table to linked.state linked.entity =
        hosts_link basis is linked.s pairing assoc fragment table to linked.state linked.entity has in
        not_linked (subst (Contains linked.region.linked) (sym by.of_assoc)
        (link_linked basis linked.state linked.s linked.entity linked.region linked.part linked.held.partners by.host by.hosts by.link (by.stands, by.at_entity)))))
        (so_or_not flagged (linked_decided basis linked.region.linked fragment.assoc))

    -- where it differs from the pattern, just one is so: a link is hosted at the entity, or the row is shown
    pub host_only : IsTrue (differ (is_linked basis linked.region.linked fragment.assoc) (shows_link_pattern basis (focus.Entity linked.region) fragment))
        → IsOneOnly (HasLinkOf basis.schema linked.state linked.s pairing assoc fragment linked.entity) (ShowsLink fragment row)
    host_only = one_only_by Linked (ShowsLink fragment row) flagged link_shown link_alike linked_or_not (link_shown_or_not fragment row)

    -- and the other way
    pub host_differs : IsOneOnly (HasLinkOf basis.schema linked.state linked.s pairing assoc fragment linked.entity) (ShowsLink fragment row)
        → IsTrue (differ (is_linked basis linked.region.linked fragment.assoc) (shows_link_pattern basis (focus.Entity linked.region) fragment))
    host_differs = differ_by Linked (ShowsLink fragment row) flagged link_shown link_alike
