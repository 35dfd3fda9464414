-- The rows of an entity and of a link that refer, in the tables of a legal state.
use Rattle.std.proofs.Common.{◌≡◌, ◌≢◌, ◌↔◌, ℕ, List, Contains, refl, sym, ap, subst, ◌∙◌}
use Rattle.std.proofs.lemmas.List.Elements.{All-contains}
use Rattle.emc_base.proofs.Lists.{at_once}
use Rattle.round_trip.specs.Words.{Assoc, ColId, DemandsCell, DemandsRow, ForeignKey, IsLegal, Link, LinkFragment, Null, Pair, Place, PropId, Row, State, Table, Tables, TablesAre, Value, At, links_in, place_at, row_key, rows_in, value_of, written_key}
use Rattle.round_trip.specs.declared.FailKind.TheVariants as kind
use Rattle.schema_laws.specs.state_demand.Owners.{IsJoinedTo, paired_key}
use Rattle.schema_laws.specs.sound_demand.Made.{tables_for}
use Rattle.schema_laws.specs.state_demand.Writings.{link_writing}
use Rattle.schema_laws.proofs.sound_demand.Kept.{clash_shown, tables_there}
use Rattle.schema_laws.proofs.state_demand.lists.Lists.{of_any}
use Rattle.schema_laws.proofs.sound_demand.owners.OneOwner.{one_owner}
use Rattle.schema_laws.proofs.state_demand.tables.ReadBack.{row_demanded, rows_demanded}
use Rattle.regions.specs.Basis.{Basis}
use Rattle.regions.specs.Patterns.{by_entity, by_link, pattern_of}
use Rattle.regions.specs.declared.pattern.Focus.{Focus}
use Rattle.regions.specs.declared.pattern.Focus.TheVariants as focus
use Rattle.regions.specs.region_laws.Held.{LinkRow, LinkedEntity}
use Rattle.regions.specs.region_laws.IsBasis.{IsBasis}
use Rattle.regions.specs.region_laws.pattern.Allowed.{AllowedFocus}
use Rattle.region_states.specs.conflicts.There.{NoneFailsBy}
use Rattle.region_states.specs.focus.Held.{ListsValue}
use Rattle.region_states.proofs.focus.Demanded.{cells, link_cells, link_rows}
use Rattle.region_states.proofs.focus.Partners.{linked_allowed}
use Rattle.population.specs.LinkStates.{plain_link}
use Rattle.conflict_laws.proofs.same.rows.Rows.{HasRowAt, row_of_pattern}
use Rattle.failure_laws.proofs.links.LinkRows.{told_link}
use Rattle.dangling_keys.specs.DanglingStates.{IsEntityRow, IsLinkRow, IsRowPlace}
use Rattle.dangling_keys.specs.Failing.{FailsAtKey}
use Rattle.dangling_keys.specs.Showing.{MayRefer, not_null_for}
use Rattle.dangling_keys.proofs.referring.Listing.{link_none, the_table}
use Rattle.dangling_keys.proofs.referring.Target.{IsShown, row_written}

-- an entity with its values
abbrev pub told_entity : (basis : Basis) → IsBasis basis → LinkedEntity basis → AllowedFocus basis
told_entity basis is linked = record {
  of = focus.Entity linked.region;
  is_focus = (linked.s, linked.held.listed);
  values = by_entity basis.schema.model linked.entity linked.part;
  allowed = linked_allowed basis is linked;
}

module _ (basis : Basis) (is : IsBasis basis) (none : NoneFailsBy basis.schema kind.Clash) where
  -- no legal state clashes, so it has tables
  pub tables_are : (c : State) → IsLegal basis.schema.model c → TablesAre basis.schema c (tables_for basis.schema c)
  tables_are c legal = tables_there basis.schema is.sound c (clash_shown basis.schema is.sound c (λ place clash. none place c c (record { legal = legal; fails = clash })))

  module _ (key : ForeignKey) (is_key : Contains basis.schema.store.keys key) (linked : LinkedEntity basis) (may : MayRefer basis (focus.Entity linked.region) key)
      (there : (p : PropId) → Contains (not_null_for basis (focus.Entity linked.region) key) p → value_of basis.schema.model linked.entity p ≢ Null) where
    abbrev entity_tables : Tables
    entity_tables = tables_for basis.schema linked.state

    entity_row : HasRowAt basis linked.state entity_tables linked.s linked.entity key.from
    entity_row = row_of_pattern basis is linked entity_tables (tables_are linked.state linked.legal) key.from may.row

    pub entity_shown : IsShown basis (told_entity basis is linked) key linked.state
    entity_shown = record {
      legal = linked.legal;
      tables = entity_tables;
      are = tables_are linked.state linked.legal;
      is_key = is_key;
      may = may;
      there = there;
      table = entity_row.table;
      is_table = entity_row.is_table;
      row = entity_row.row;
      among = entity_row.among;
      cells = cells basis is linked key.from (row_key entity_row.table entity_row.row) entity_row.at_row;
    }

    -- a place that names the entity's row is that of this row
    pub entity_place : (place : Place) → IsEntityRow basis key.from key.name linked.s linked.entity place → place ≡ place_at entity_shown.table.name (row_key entity_shown.table entity_shown.row) key.name
    unfolding entity_shown
    entity_place place named =
        let at = entity_row.at_row in
        let same_table : named.table ≡ entity_row.table = at_once basis.schema.store.tables key.from.index named.table entity_row.table named.is_table entity_row.is_table in
        let written = row_written basis linked.state key.from (row_key entity_row.table entity_row.row)
        (row_demanded basis.schema linked.state entity_tables (tables_are linked.state linked.legal) key.from entity_row.table entity_row.is_table entity_row.row entity_row.among) in
        let same = one_owner basis.schema is.sound key.from linked.s linked.s named.pairing at.pairing named.owned at.owned written in
        let same_key : paired_key basis.schema.model named.pairing linked.entity ≡ row_key entity_row.table entity_row.row =
        ap (λ (pairing : List Pair). paired_key basis.schema.model pairing linked.entity) same.1 ∙ at.at.at_key in
        named.is ∙ (λ k. place_at (same_table k).name (same_key k) key.name)

  module _ (key : ForeignKey) (is_key : Contains basis.schema.store.keys key) (fragment : LinkFragment) (assoc : Assoc) (joined : IsJoinedTo basis.schema key.from fragment assoc) (c : State)
      (legal : IsLegal basis.schema.model c) (link : Link) (stands : Contains (links_in c fragment.assoc) link) (may : MayRefer basis (focus.Link fragment.assoc) key) where
    abbrev link_at : List Value
    link_at = written_key basis.schema.store (link_writing basis.schema.model fragment assoc link)

    abbrev its_row : LinkRow basis
    its_row = record {
      state = c;
      legal = legal;
      fragment = fragment;
      assoc = assoc;
      link = link;
      t = key.from;
      key = link_at;
      at = record { joined = joined; stands = stands; at_key = refl };
    }

    abbrev link_tables : Tables
    link_tables = tables_for basis.schema c

    link_table : (table : Table) × At basis.schema.store.tables key.from.index table
    link_table = the_table basis is key is_key

    link_row : (row : Row) × Contains (rows_in link_tables key.from) row × (row_key link_table.0 row ≡ link_at)
    link_row =
        let demand : DemandsRow basis.schema c key.from link_at = (link_rows basis is its_row).1 may.row in
        of_any (λ (one : Row). row_key link_table.0 one ≡ link_at) (rows_in link_tables key.from)
        ((rows_demanded basis.schema c link_tables (tables_are c legal) key.from link_table.0 link_table.1).all link_at demand)

    pub link_shown : IsShown basis (told_link basis is key.from fragment assoc joined c legal link stands) key c
    link_shown =
        let Cells : List Value → Type 0 = λ at. (col : ColId) (value : Value) → DemandsCell basis.schema c key.from at col value
        ↔ ListsValue (pattern_of basis (focus.Link fragment.assoc)) (by_link basis.schema.model assoc link) key.from col value in
        record {
          legal = legal;
          tables = link_tables;
          are = tables_are c legal;
          is_key = is_key;
          may = may;
          there = λ p has. absurd (link_none basis is fragment.assoc key is_key may.row p has);
          table = link_table.0;
          is_table = link_table.1;
          row = link_row.0;
          among = link_row.1;
          cells = subst Cells (sym link_row.2) (link_cells basis is its_row);
        }

    -- a place that names the row of a plain link is that of this row, where the link is plain
    pub link_place : (outer : ℕ) → link ≡ plain_link basis.schema.model outer assoc → (place : Place) → IsLinkRow basis key.from key.name outer fragment.assoc place
        → place ≡ place_at link_shown.table.name (row_key link_shown.table link_shown.row) key.name
    unfolding link_shown
    link_place outer plain place named =
        let same_table : named.table ≡ link_table.0 = at_once basis.schema.store.tables key.from.index named.table link_table.0 named.is_table link_table.1 in
        let same_fragment : named.fragment ≡ fragment =
        All-contains (λ (other : LinkFragment). other.table ≡ key.from → other ≡ fragment) basis.schema.mapping.links named.fragment joined.links named.joined.is_fragment named.joined.to_table in
        let same_assoc : named.assoc ≡ assoc = at_once basis.schema.model.assocs fragment.assoc.index named.assoc assoc
        (subst (λ (it : LinkFragment). At basis.schema.model.assocs it.assoc.index named.assoc) same_fragment named.joined.is_assoc) joined.is_assoc in
        let same_key : written_key basis.schema.store (link_writing basis.schema.model named.fragment named.assoc (plain_link basis.schema.model outer named.assoc)) ≡ row_key link_table.0 link_row.0 =
        (λ k. written_key basis.schema.store (link_writing basis.schema.model (same_fragment k) (same_assoc k) (plain_link basis.schema.model outer (same_assoc k))))
        ∙ ap (λ (it : Link). written_key basis.schema.store (link_writing basis.schema.model fragment assoc it)) (sym plain) ∙ sym link_row.2 in
        named.is ∙ (λ k. place_at (same_table k).name (same_key k) key.name)

-- the state fails by the key at one place, and each place that names the row of the focus is this one
pub record FailsShown (basis : Basis) (of : Focus) (key : ForeignKey) (state : State) : Type 0 where
  pub place : Place
  pub at : FailsAtKey basis key place state
  pub only : (other : Place) → IsRowPlace basis of key other → other ≡ place
