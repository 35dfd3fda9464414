-- A fragment agrees with the row of an entity or a link just where the pattern says so.
use Rattle.std.proofs.Common.{◌≡◌, ◌↔◌, List, [], Contains, IsTrue, sym, subst}
use Rattle.round_trip.specs.Words.{Assoc, Entity, Fragment, LinkFragment, Pair, Row, Selects, Shows, ShowsLink, Table, TableId, Tables, At, row_key, rows_in}
use Rattle.schema_laws.specs.state_demand.Owners.{IsOwned}
use Rattle.schema_laws.specs.sound_demand.Fragments.{IsHostedFragment, IsStoredIn}
use Rattle.schema_laws.specs.sound_demand.ReadBack.{HasLinkOf}
use Rattle.regions.specs.declared.region.Region.{Region}
use Rattle.regions.specs.declared.pattern.PatternRow.{PatternRow}
use Rattle.regions.specs.declared.pattern.Focus.{Focus}
use Rattle.regions.specs.declared.pattern.Focus.TheVariants as focus
use Rattle.regions.specs.Basis.{Basis}
use Rattle.regions.specs.Patterns.{Valuation, by_entity, by_link}
use Rattle.regions.specs.Shown.{shows_link_row, shows_row}
use Rattle.regions.specs.Symbols.{is_linked, selects_region}
use Rattle.regions.specs.region_laws.IsBasis.{IsBasis}
use Rattle.regions.proofs.region_laws.writings.Owned.{cell_demanded, link_cell_demanded}
use Rattle.regions.proofs.region_laws.listing.Possible.{linked_hosts}
use Rattle.regions.proofs.region_laws.entities.Selected.{Decides-selected}
use Rattle.regions.specs.region_laws.pattern.Allowed.{AllowedFocus}
use Rattle.regions.specs.region_laws.pattern.Described.{AreDemanded, DescribedRow, IsClearRow}
use Rattle.regions.proofs.region_laws.pattern.rows.Agreeing.{is_described, link_agrees, agree_alike}
use Rattle.regions.proofs.region_laws.pattern.symbols.Origins.{linked_decided}
use Rattle.regions.proofs.region_laws.pattern.rows.Shown.{link_shown, shown}
use Rattle.regions.specs.region_laws.Held.{LinkedEntity, LinkRow}
use Rattle.regions.proofs.region_laws.entities.Held.{linked_holding}
use Rattle.region_states.specs.focus.Agreeing.{IsRowOfEntity, RowAtJoined, RowAtFragment, RowAtHosted}
use Rattle.region_states.proofs.focus.Hosts.{HostsLink, has_link, hosts_link}
use Rattle.region_states.proofs.focus.Partners.{link_linked, linked_link, linked_allowed}

module _ (basis : Basis) (is : IsBasis basis) (linked : LinkedEntity basis) where
  abbrev entity : Entity
  entity = linked.entity

  abbrev region : Region
  region = linked.region

  abbrev values : Valuation
  values = by_entity basis.schema.model linked.entity linked.part

  abbrev told : AllowedFocus basis
  told = record {
    of = focus.Entity region;
    is_focus = (linked.s, linked.held.listed);
    values = values;
    allowed = linked_allowed basis is linked;
  }

  -- the row of a table that the set owns is the one that the pattern describes
  module _ (tables : Tables) (stored : IsStoredIn basis.schema linked.state tables) (pairing : List Pair) (t : TableId) (table : Table)
      (is_table : At basis.schema.store.tables t.index table) (owned : IsOwned basis.schema t linked.s pairing) (row : Row)
      (of_entity : IsRowOfEntity basis linked.state tables linked.s pairing entity t table row) (pattern : PatternRow)
      (clear : IsClearRow basis (focus.Entity region) pattern) (of_table : pattern.table ≡ t) where
    demanded : AreDemanded basis linked.state (focus.Entity region) values t (row_key table row)
    demanded = record {
      cells = λ c value. (
          let by = cell_demanded basis is linked t (row_key table row) (record { pairing = pairing; owned = owned; at = of_entity.at }) c value in
          ((λ demands. let has = by.0 demands in (has.one, has.listed, has.is)), λ has. by.1 (record { one = has.0; listed = has.1; is = has.2 })));
    }

    abbrev described : DescribedRow basis told
    described =
        let there : TableId → Type 0 = λ u. At basis.schema.store.tables u.index table × Contains (rows_in tables u) row
        × AreDemanded basis linked.state (focus.Entity region) values u (row_key table row) in
        let at : there pattern.table = subst there (sym of_table) (is_table, of_entity.among, demanded) in
        record {
          pattern = pattern;
          clear = clear;
          row = row;
          is_row = is_described basis linked.state (focus.Entity region) values (record {
            tables = tables;
            are = stored.are;
            pattern = pattern;
            clear = clear;
            table = table;
            is_table = at.0;
            row = row;
            among = at.1;
            demanded = at.2;
          });
        }

  pub entity_agrees : (fragment : Fragment) (at : RowAtFragment basis linked.state linked.s linked.entity fragment) (pattern : PatternRow)
      → IsClearRow basis (focus.Entity linked.region) pattern → pattern.table ≡ fragment.table
      → (Selects basis.schema.model fragment linked.entity ↔ Shows fragment at.row)
      ↔ (IsTrue (selects_region basis linked.region fragment) ↔ IsTrue (shows_row basis.schema.model linked.region.atoms fragment pattern))
  entity_agrees fragment at pattern clear of_table = agree_alike
      (Decides-selected basis is fragment at.to.mapped (linked_holding basis linked))
      (shown basis is told (described at.tables at.stored at.pairing fragment.table at.table at.to.is_table at.to.owned at.row at.of_entity pattern clear of_table) fragment
      at.to.mapped (sym of_table))

  -- a flag tells whether a link of the fragment is hosted at the entity
  link_flagged : (pairing : List Pair) (assoc : Assoc) (fragment : LinkFragment) (table : Table) → IsHostedFragment basis.schema linked.s pairing assoc fragment table
      → IsTrue (is_linked basis region.linked fragment.assoc) ↔ HasLinkOf basis.schema linked.state linked.s pairing assoc fragment entity
  link_flagged pairing assoc fragment table to = (
    (λ says.
        let flagged : Contains region.linked fragment.assoc = (linked_decided basis region.linked fragment.assoc).0 says in
        let host = linked_hosts basis is linked.s region linked.held.listed fragment.assoc flagged in
        let found = linked_link basis linked.state linked.s entity region linked.part linked.held.partners host.0 host.1 (subst (Contains region.linked) host.2 flagged) in
        has_link basis is linked.s pairing assoc fragment table to linked.state entity
        (record { host = host.0; hosts = host.1; of_assoc = host.2; link = found.0; stands = found.1.0; at_entity = found.1.1 })),
    (λ has.
        let by : HostsLink basis is linked.s pairing assoc fragment table to linked.state entity =
        hosts_link basis is linked.s pairing assoc fragment table to linked.state entity has in
        (linked_decided basis region.linked fragment.assoc).1 (subst (Contains region.linked) (sym by.of_assoc)
        (link_linked basis linked.state linked.s entity region linked.part linked.held.partners by.host by.hosts by.link (by.stands, by.at_entity)))),
  )

  pub host_agrees : (fragment : LinkFragment) (at : RowAtHosted basis linked.state linked.s linked.entity fragment) (pattern : PatternRow)
      → IsClearRow basis (focus.Entity linked.region) pattern → pattern.table ≡ fragment.table
      → (HasLinkOf basis.schema linked.state linked.s at.pairing at.assoc fragment linked.entity ↔ ShowsLink fragment at.row)
      ↔ (IsTrue (is_linked basis linked.region.linked fragment.assoc) ↔ IsTrue (shows_link_row basis.schema.model linked.region.atoms fragment pattern))
  host_agrees fragment at pattern clear of_table = agree_alike
      (link_flagged at.pairing at.assoc fragment at.table at.to)
      (link_shown basis is told (described at.tables at.stored at.pairing fragment.table at.table at.to.to.is_table at.to.owned at.row at.of_entity pattern clear of_table)
      fragment at.to.to.mapped (sym of_table))

pub joined_agrees : (basis : Basis) → IsBasis basis → (at : RowAtJoined basis) (pattern : PatternRow) → IsClearRow basis (focus.Link at.fragment.assoc) pattern
    → pattern.table ≡ at.fragment.table → IsTrue (shows_link_row basis.schema.model [] at.fragment pattern) ↔ ShowsLink at.fragment at.row
joined_agrees basis is at pattern clear of_table =
    let fragment : LinkFragment = at.fragment in
    let values_of : Valuation = by_link basis.schema.model at.assoc at.link in
    let of : Focus = focus.Link fragment.assoc in
    let row : LinkRow basis = record {
      state = at.state;
      legal = at.stored.legal;
      fragment = fragment;
      assoc = at.assoc;
      link = at.link;
      t = fragment.table;
      key = row_key at.table at.row;
      at = record { joined = at.to.joined; stands = at.stands; at_key = at.of_link };
    } in
    let demanded : AreDemanded basis at.state of values_of fragment.table (row_key at.table at.row) = record {
      cells = λ c value. (
          let by = link_cell_demanded basis is row c value in
          ((λ demands. let has = by.0 demands in (has.one, has.listed, has.is)), λ has. by.1 (record { one = has.0; listed = has.1; is = has.2 })));
    } in
    let there : TableId → Type 0 = λ u. At basis.schema.store.tables u.index at.table × Contains (rows_in at.tables u) at.row
    × AreDemanded basis at.state of values_of u (row_key at.table at.row) in
    let moved : there pattern.table = subst there (sym of_table) (at.to.to.is_table, at.among, demanded) in
    link_agrees basis is
    (record { state = at.state; legal = at.stored.legal; a = fragment.assoc; assoc = at.assoc; is_assoc = at.to.to.is_assoc; link = at.link; stands = at.stands })
    (record {
      tables = at.tables;
      are = at.stored.are;
      pattern = pattern;
      clear = clear;
      table = at.table;
      is_table = moved.0;
      row = at.row;
      among = moved.1;
      demanded = moved.2;
    }) fragment at.to.to.mapped (sym of_table)
