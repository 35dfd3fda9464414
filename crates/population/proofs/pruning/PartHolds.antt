-- A row of a state's tables stands in those of the part that its writers need, which shows and finds no more: so failures at the row stand in the part.
use Rattle.std.proofs.Common.{◌≡◌, ◌⊎◌, ⊎_elim, inl, inr, List, [], length, Contains, refl, sym, subst, ◌∙◌}
use Rattle.std.proofs.lemmas.List.Elements.{All-contains}
use Rattle.emc_base.specs.Lists.{At}
use Rattle.emc_base.proofs.Lists.{item_at}
use Rattle.round_trip.specs.Words.{TableId, ColId, Value, Null, place_at, Assoc, ForeignKey, Fragment, LinkFragment, Place, Row, Schema, State, Table, Tables, DemandsCell, DemandsRow, FindsRow, HasDemandedCells, IsLegal, IsShownLinkTuple, IsShownTuple, IsWrittenLinkTuple, IsWrittenTuple, TablesAre, cell_of, cells_of, key_columns, row_key, rows_in}
use Rattle.round_trip.specs.FailsAt.{Clashes, Dangles, Disagrees, IsInOneOnly, LeavesNull, element_of, key_in_tuple, keys_in_tuple}
use Rattle.round_trip.specs.soundness.Stores.{HasForeignIds, IsSoundForeignKey}
use Rattle.round_trip.specs.soundness.mappings.Mappings.{IsSoundSchema}
use Rattle.round_trip.proofs.Lookups.{key_columns_at}
use Rattle.schema_laws.specs.sound_demand.Disagreeing.{IsOneOnly}
use Rattle.schema_laws.specs.sound_demand.Made.{tables_for}
use Rattle.schema_laws.specs.state_demand.ByRows.{IsLinkedAt, IsSelectedAt}
use Rattle.schema_laws.proofs.sound_demand.Fitting.{has_tables, well_written}
use Rattle.schema_laws.proofs.sound_demand.Kept.{tables_there}
use Rattle.schema_laws.proofs.sound_demand.tuples.OneRow.{at_linked, at_selected}
use Rattle.schema_laws.proofs.state_demand.lists.Lists.{any_of, of_any}
use Rattle.schema_laws.proofs.state_demand.lists.Places.{agree_by_map, map_agree}
use Rattle.schema_laws.proofs.state_demand.tables.ReadBack.{cells_demanded, row_demanded, rows_demanded}
use Rattle.schema_laws.proofs.state_demand.tables.SameTables.{same_row}
use Rattle.population.specs.RowStates.{FailsInRows, IsDisagreeingRow, row_state}
use Rattle.population.proofs.pruning.RowStates.{demands_cell_still, demands_cell_too, demands_row_still, demands_row_too, entity_stays, entity_stood, legal_part, link_stays, link_stood, no_clash_left}

-- one of the two is so and the other isn't, also where the first is said in another way
one_only_like : {One Like Other : Type 0} → (One → Like) → (Like → One) → IsOneOnly One Other → IsOneOnly Like Other
one_only_like forth back (inl (one, not_other)) = inl (forth one, not_other)
one_only_like forth back (inr (other, not_one)) = inr (other, λ like. not_one (back like))

module _ (schema : Schema) (sound : IsSoundSchema schema) (state : State) (legal : IsLegal schema.model state) where
  module _ (t : TableId) (key : List Value) where
    abbrev part : State
    part = row_state schema state t key

    -- a row of the key has the cells that the state demands, where it has those that the part demands
    cells_too : (table : Table) (row : Row) → row_key table row ≡ key → HasDemandedCells schema part t table row → HasDemandedCells schema state t table row
    cells_too table row at_key cells =
        let P : ColId → Value → List Value → Type 0 = λ col value of. DemandsCell schema state t of col value in
        let Q : ColId → Value → List Value → Type 0 = λ col value of. DemandsCell schema part t of col value in
        record {
          demanded = λ col value demand. cells.demanded col value
              (subst (Q col value) (sym at_key) (demands_cell_still schema state t key sound legal col value (subst (P col value) at_key demand)));
          only = λ col column here. ⊎_elim
              (λ (null : cell_of row col ≡ Null). inl null)
              (λ (demand : DemandsCell schema part t (row_key table row) col (cell_of row col)).
              inr (demands_cell_too schema state t key sound legal t (row_key table row) col (cell_of row col) demand))
              (cells.only col column here);
        }

    module _ (tables : Tables) (are : TablesAre schema state tables) where
      abbrev pub part_tables : Tables
      part_tables = tables_for schema part

      pub part_are : TablesAre schema part part_tables
      part_are = tables_there schema sound part (no_clash_left schema state t key sound legal are.no_clash)

      -- the state's row of the key stands in the tables of the part
      pub row_stands : (table : Table) → At schema.store.tables t.index table → (row : Row) → Contains (rows_in tables t) row → row_key table row ≡ key
          → Contains (rows_in part_tables t) row
      row_stands table here row has at_key =
          let Full : Row → Type 0 = λ one. length one.cells ≡ length table.cols in
          let demand : DemandsRow schema state t key = subst (DemandsRow schema state t) at_key (row_demanded schema state tables are t table here row has) in
          let found = of_any (λ (one : Row). row_key table one ≡ key) (rows_in part_tables t)
          ((rows_demanded schema part part_tables part_are t table here).all key (demands_row_still schema state t key sound legal demand)) in
          let same : found.0 ≡ row = same_row schema state t table found.0 row
          (All-contains Full (rows_in part_tables t) found.0 (part_are.shape.rows t table here) found.1)
          (All-contains Full (rows_in tables t) row (are.shape.rows t table here) has)
          (cells_too table found.0 found.2 (cells_demanded schema part part_tables part_are t table here found.0 found.1))
          (cells_demanded schema state tables are t table here row has) (found.2 ∙ sym at_key) in
          subst (Contains (rows_in part_tables t)) same found.1

      -- where a row finds another by a foreign key in the part, it finds one in the state
      finds_too : (by : ForeignKey) → Contains schema.store.keys by → (row : Row) → FindsRow part_tables by row → FindsRow tables by row
      finds_too by is_key row finds =
          let Found : Row → Type 0 = λ target. cells_of target by.to_cols ≡ cells_of row by.from_cols in
          let ids : HasForeignIds schema.store by = All-contains (HasForeignIds schema.store) schema.store.keys by sound.store.ids.foreign is_key in
          let fits : IsSoundForeignKey schema.store by = All-contains (IsSoundForeignKey schema.store) schema.store.keys by sound.store.keys is_key in
          let over = item_at schema.store.tables by.to.index ids.to in
          let table : Table = over.0 in
          let found = of_any Found (rows_in part_tables by.to) finds in
          let demand = demands_row_too schema state t key sound legal by.to (row_key table found.0) (row_demanded schema part part_tables part_are by.to table over.1 found.0 found.1) in
          let target = of_any (λ (one : Row). row_key table one ≡ row_key table found.0) (rows_in tables by.to)
          ((rows_demanded schema state tables are by.to table over.1).all (row_key table found.0) demand) in
          let alike : cells_of target.0 by.to_cols ≡ cells_of found.0 by.to_cols =
          map_agree (cell_of target.0) (cell_of found.0) by.to_cols (λ col has.
          agree_by_map (cell_of target.0) (cell_of found.0) table.key target.2 col
          (subst (λ cols. Contains cols col) (key_columns_at schema.store by.to table over.1)
          (All-contains (Contains (key_columns schema.store by.to)) by.to_cols col fits.columns.whole.only has))) in
          any_of Found (rows_in tables by.to) target.0 target.1 (alike ∙ found.2)

  clash_stays : (place : Place) → (fails : Clashes schema state place) → Clashes schema (row_state schema state fails.t fails.key) place
  clash_stays place fails = record {
    t = fails.t;
    table = fails.table;
    col = fails.col;
    column = fails.column;
    key = fails.key;
    one = fails.one;
    two = fails.two;
    has_column = fails.has_column;
    demands_one = demands_cell_still schema state fails.t fails.key sound legal fails.col fails.one fails.demands_one;
    demands_two = demands_cell_still schema state fails.t fails.key sound legal fails.col fails.two fails.demands_two;
    different = fails.different;
    place_is = fails.place_is;
  }

  null_stays : (place : Place) → (fails : LeavesNull schema state place) → LeavesNull schema (row_state schema state fails.t fails.key) place
  null_stays place fails = record {
    t = fails.t;
    table = fails.table;
    col = fails.col;
    column = fails.column;
    key = fails.key;
    has_column = fails.has_column;
    not_nullable = fails.not_nullable;
    demands_row = demands_row_still schema state fails.t fails.key sound legal fails.demands_row;
    no_value = λ value demand. fails.no_value value (demands_cell_too schema state fails.t fails.key sound legal fails.t fails.key fails.col value demand);
    place_is = fails.place_is;
  }

  dangling_stays : (place : Place) → (fails : Dangles schema state place) → Dangles schema (row_state schema state fails.key.from (row_key fails.table fails.row)) place
  dangling_stays place fails =
      let t : TableId = fails.key.from in
      let key : List Value = row_key fails.table fails.row in
      record {
        tables = part_tables t key fails.tables fails.defined;
        defined = part_are t key fails.tables fails.defined;
        key = fails.key;
        table = fails.table;
        row = fails.row;
        is_key = fails.is_key;
        is_table = fails.is_table;
        is_row = row_stands t key fails.tables fails.defined fails.table fails.is_table fails.row fails.is_row refl;
        refers = fails.refers;
        no_row = λ finds. fails.no_row (finds_too t key fails.tables fails.defined fails.key fails.is_key fails.row finds);
        place_is = fails.place_is;
      }

  -- the part in which a disagreement stands
  abbrev StillDisagrees : Tables → List Value → Place → Type 0
  StillDisagrees tables tuple place = (t : TableId) × (key : List Value) × IsDisagreeingRow schema tables tuple place t key × Disagrees schema (row_state schema state t key) place

  module _ (tables : Tables) (are : TablesAre schema state tables) (tuple : List Value) where
    at_entity : (fragment : Fragment) → Contains schema.mapping.fragments fragment → IsInOneOnly (IsWrittenTuple schema state fragment) (IsShownTuple tables fragment) tuple
        → StillDisagrees tables tuple (place_at fragment.place (key_in_tuple schema.model (element_of schema.model fragment.set) fragment.pairs tuple) [])
    at_entity fragment mapped only =
        let Here : Fragment → Type 0 = λ one. (table : Table) × At schema.store.tables one.table.index table in
        let held = All-contains Here schema.mapping.fragments fragment (has_tables schema sound).fragments mapped in
        let table : Table = held.0 in
        let at = (at_selected schema (well_written schema sound) state tables are fragment mapped table held.1 tuple).0 only in
        let row : Row = at.0 in
        let t : TableId = fragment.table in
        let key : List Value = row_key table row in
        let selected_too : IsSelectedAt schema (row_state schema state t key) fragment table row → IsSelectedAt schema state fragment table row =
        λ is. record { entity = is.entity; stands = entity_stood schema state t key sound legal fragment.set is.entity is.stands; selected = is.selected; at_row = is.at_row } in
        let selected_still : IsSelectedAt schema state fragment table row → IsSelectedAt schema (row_state schema state t key) fragment table row =
        λ is. record {
          entity = is.entity;
          stands = entity_stays schema state t key sound legal fragment mapped is.entity is.stands (refl, is.at_row);
          selected = is.selected;
          at_row = is.at_row;
        } in (
          t,
          key,
          record { of_fragment = inl (fragment, mapped, refl, refl); table = table; is_table = held.1; row = row; stands = at.1; keyed = refl },
          record {
            tables = part_tables t key tables are;
            defined = part_are t key tables are;
            tuple = tuple;
            broken = inl (
              fragment,
              mapped,
              (at_selected schema (well_written schema sound) (row_state schema state t key) (part_tables t key tables are) (part_are t key tables are) fragment mapped table held.1 tuple).1
                  (row, row_stands t key tables are table held.1 row at.1 refl, at.2, one_only_like selected_still selected_too at.3),
              refl,
            );
          },
        )

    at_link : (fragment : LinkFragment) (assoc : Assoc) → Contains schema.mapping.links fragment → At schema.model.assocs fragment.assoc.index assoc
        → IsInOneOnly (IsWrittenLinkTuple schema state fragment) (IsShownLinkTuple tables fragment) tuple
        → StillDisagrees tables tuple (place_at fragment.place (keys_in_tuple schema.model assoc fragment tuple) [])
    at_link fragment assoc mapped is_assoc only =
        let Here : LinkFragment → Type 0 = λ one. (table : Table) × At schema.store.tables one.table.index table in
        let held = All-contains Here schema.mapping.links fragment (has_tables schema sound).links mapped in
        let table : Table = held.0 in
        let at = (at_linked schema (well_written schema sound) state tables are fragment mapped table held.1 tuple).0 only in
        let row : Row = at.0 in
        let t : TableId = fragment.table in
        let key : List Value = row_key table row in
        let linked_too : IsLinkedAt schema (row_state schema state t key) fragment table row → IsLinkedAt schema state fragment table row =
        λ is. record {
          assoc = is.assoc;
          link = is.link;
          is_assoc = is.is_assoc;
          stands = link_stood schema state t key sound legal fragment.assoc is.assoc is.is_assoc is.link is.stands;
          at_row = is.at_row;
        } in
        let linked_still : IsLinkedAt schema state fragment table row → IsLinkedAt schema (row_state schema state t key) fragment table row =
        λ is. record {
          assoc = is.assoc;
          link = is.link;
          is_assoc = is.is_assoc;
          stands = link_stays schema state t key sound legal fragment mapped is.assoc is.is_assoc is.link is.stands (refl, is.at_row);
          at_row = is.at_row;
        } in (
          t,
          key,
          record { of_fragment = inr (fragment, assoc, mapped, is_assoc, refl, refl); table = table; is_table = held.1; row = row; stands = at.1; keyed = refl },
          record {
            tables = part_tables t key tables are;
            defined = part_are t key tables are;
            tuple = tuple;
            broken = inr (
              fragment,
              assoc,
              mapped,
              is_assoc,
              (at_linked schema (well_written schema sound) (row_state schema state t key) (part_tables t key tables are) (part_are t key tables are) fragment mapped table held.1 tuple).1
                  (row, row_stands t key tables are table held.1 row at.1 refl, at.2, one_only_like linked_still linked_too at.3),
              refl,
            );
          },
        )

  -- a tuple of a fragment of entities, or of links, is in one only
  abbrev ByEntity : Tables → List Value → Place → Type 0
  ByEntity tables tuple place = (fragment : Fragment) × Contains schema.mapping.fragments fragment
      × IsInOneOnly (IsWrittenTuple schema state fragment) (IsShownTuple tables fragment) tuple
      × (place ≡ place_at fragment.place (key_in_tuple schema.model (element_of schema.model fragment.set) fragment.pairs tuple) [])

  abbrev ByLink : Tables → List Value → Place → Type 0
  ByLink tables tuple place = (fragment : LinkFragment) × (assoc : Assoc) × Contains schema.mapping.links fragment × At schema.model.assocs fragment.assoc.index assoc
      × IsInOneOnly (IsWrittenLinkTuple schema state fragment) (IsShownLinkTuple tables fragment) tuple
      × (place ≡ place_at fragment.place (keys_in_tuple schema.model assoc fragment tuple) [])

  disagreement_stays : (place : Place) (fails : Disagrees schema state place) → StillDisagrees fails.tables fails.tuple place
  disagreement_stays place fails = by fails.broken
    where
      by : ByEntity fails.tables fails.tuple place ⊎ ByLink fails.tables fails.tuple place → StillDisagrees fails.tables fails.tuple place
      by (inl (fragment, mapped, only, is)) = subst (StillDisagrees fails.tables fails.tuple) (sym is) (at_entity fails.tables fails.defined fails.tuple fragment mapped only)
      by (inr (fragment, assoc, mapped, is_assoc, only, is)) = subst (StillDisagrees fails.tables fails.tuple) (sym is) (at_link fails.tables fails.defined fails.tuple fragment assoc mapped is_assoc only)

  pub fails_in_rows : (place : Place) (other : State) → FailsInRows schema state place other
  fails_in_rows place other = record {
    clash = λ fails. record { legal = legal_part schema state fails.t fails.key sound legal; fails = clash_stays place fails };
    null = λ fails. record { legal = legal_part schema state fails.t fails.key sound legal; fails = null_stays place fails };
    disagrees = λ fails. let still = disagreement_stays place fails in
        (still.0, still.1, still.2, record { legal = legal_part schema state still.0 still.1 sound legal; fails = still.3 });
    dangling = λ fails. record {
      legal = legal_part schema state fails.key.from (row_key fails.table fails.row) sound legal;
      fails = dangling_stays place fails;
    };
  }
