-- A fragment agrees with the tables exactly where it shows just those rows to which it writes.
use Rattle.std.proofs.Common.{◌≡◌, ◌↔◌, inl, inr, List, ◌++◌, map, All, Contains, refl, sym, ap, subst, ◌∙◌}
use Rattle.std.proofs.lemmas.List.Elements.{All-contains}
use Rattle.std.proofs.lemmas.Simd.{map-map}
use Rattle.round_trip.specs.Words.{TableId, ColId, Value, Assoc, Table, Fragment, LinkFragment, Schema, Entity, Link, Row, State, At, Tables, rows_in, cell_of, cells_of, row_key, entities_in, links_in, Selects, Shows, ShowsLink, Writing, Writes, entity_cells, written_to, written_key, TablesAre, IsWrittenTuple, IsShownTuple, IsWrittenLinkTuple, IsShownLinkTuple, AreSameTuples, link_cells}
use Rattle.schema_laws.specs.state_demand.ByRows.{AgreesByLinkRows, AgreesByRows, IsLinkedAt, IsSelectedAt}
use Rattle.schema_laws.specs.state_demand.WellWritten.{FitsTable, IsWellWritten, cols_of}
use Rattle.schema_laws.specs.state_demand.Writings.{entity_writing, link_writing}
use Rattle.schema_laws.proofs.state_demand.writings.Fitting.{cell_cols, entity_cols, key_written, link_cols, written_stands}
use Rattle.schema_laws.proofs.state_demand.lists.Lists.{of_any, same_by_key}
use Rattle.schema_laws.proofs.state_demand.lists.Places.{agree_by_map, map_agree}
use Rattle.schema_laws.proofs.state_demand.tables.ReadBack.{cells_demanded, rows_demanded}

-- the values of written cells
abbrev pub cell_values : List (ColId × Value) → List Value
cell_values cells = map (λ cell. cell.1) cells

-- the rows of a table of a state, and writers that write to it: entities or links
module _ (schema : Schema) (state : State) (tables : Tables) (are : TablesAre schema state tables) (t : TableId) (table : Table) (here : At schema.store.tables t.index table)
    {W : Type 0} (Selected : W → Type 0) (writing : W → Writing) (to : (w : W) → (writing w).table ≡ t) (writes : (w : W) → Selected w → Writes schema state (writing w))
    (cols : List ColId) (cols_are : (w : W) → cell_cols (writing w).cells ≡ cols) (key_in : All (Contains cols) table.key) (ShowsRow : Row → Type 0) where
  abbrev rows : List Row
  rows = rows_in tables t

  abbrev key_to : W → List Value
  key_to w = written_key schema.store (writing w)

  -- a writer is selected and writes to the row
  abbrev pub WritesTo : Row → Type 0
  WritesTo row = (w : W) × Selected w × (key_to w ≡ row_key table row)

  -- the tuple is written
  abbrev pub WrittenTuple : List Value → Type 0
  WrittenTuple tuple = (w : W) × Selected w × (tuple ≡ cell_values (writing w).cells)

  -- the tuple is shown
  abbrev pub ShownTuple : List Value → Type 0
  ShownTuple tuple = (row : Row) × Contains rows row × ShowsRow row × (tuple ≡ cells_of row cols)

  -- a row to which it is written holds the tuple
  pub holds_tuple : (w : W) → Selected w → (row : Row) → Contains rows row → key_to w ≡ row_key table row → cell_values (writing w).cells ≡ cells_of row cols
  holds_tuple w selected row has same =
      let holds : (cell : ColId × Value) → Contains (writing w).cells cell → cell.1 ≡ cell_of row cell.0 = λ cell stands.
      sym ((cells_demanded schema state tables are t table here row has).demanded cell.0 cell.1
      (writing w, record { writes = writes w selected; to_table = to w; to_key = same }, inl stands)) in
      map_agree (λ (cell : ColId × Value). cell.1) (λ (cell : ColId × Value). cell_of row cell.0) (writing w).cells holds
      ∙ sym (map-map (cell_of row) (λ (cell : ColId × Value). cell.0) (writing w).cells)
      ∙ ap (map (cell_of row)) (cols_are w)

  -- a row that holds the tuple is one to which it is written
  tuple_key : (w : W) (row : Row) → cell_values (writing w).cells ≡ cells_of row cols → key_to w ≡ row_key table row
  tuple_key w row same =
      let cells : List (ColId × Value) = (writing w).cells in
      let alike : map (λ (cell : ColId × Value). cell.1) cells ≡ map (λ (cell : ColId × Value). cell_of row cell.0) cells =
      same ∙ ap (map (cell_of row)) (sym (cols_are w)) ∙ map-map (cell_of row) (λ (cell : ColId × Value). cell.0) cells in
      key_written schema t table here (writing w) (to w)
      ∙ map_agree (written_to cells) (cell_of row) table.key (λ col has.
      let among : Contains (cell_cols cells) col = subst (λ cs. Contains cs col) (sym (cols_are w)) (All-contains (Contains cols) table.key col key_in has) in
      agree_by_map (λ (cell : ColId × Value). cell.1) (λ (cell : ColId × Value). cell_of row cell.0) cells alike (col, written_to cells col) (written_stands cells col among))

  one_row : (row other : Row) → Contains rows row → Contains rows other → row_key table row ≡ row_key table other → row ≡ other
  one_row row other has has_other same = same_by_key (row_key table) rows row other (rows_demanded schema state tables are t table here).once has has_other same

  pub by_rows : AreSameTuples WrittenTuple ShownTuple ↔ ((row : Row) → Contains rows row → WritesTo row ↔ ShowsRow row)
  by_rows = (forth, back)
    where
      forth : AreSameTuples WrittenTuple ShownTuple → (row : Row) → Contains rows row → WritesTo row ↔ ShowsRow row
      forth same row has = (
        (λ (by : WritesTo row).
            let shown = same.shown (cell_values (writing by.0).cells) (by.0, by.1, refl) in
            let keys : row_key table shown.0 ≡ row_key table row = sym (tuple_key by.0 shown.0 shown.3) ∙ by.2 in
            subst ShowsRow (one_row shown.0 row shown.1 has keys) shown.2),
        (λ (shows : ShowsRow row).
            let written = same.written (cells_of row cols) (row, has, shows, refl) in
            (written.0, written.1, tuple_key written.0 row (sym written.2))),
      )

      back : ((row : Row) → Contains rows row → WritesTo row ↔ ShowsRow row) → AreSameTuples WrittenTuple ShownTuple
      back agrees = record {
        shown = λ tuple (w, selected, is).
            let found = of_any (λ (row : Row). row_key table row ≡ key_to w) rows
            ((rows_demanded schema state tables are t table here).all (key_to w) (writing w, record { writes = writes w selected; to_table = to w; to_key = refl })) in
            (found.0, found.1, (agrees found.0 found.1).0 (w, selected, sym found.2), is ∙ holds_tuple w selected found.0 found.1 (sym found.2));
        written = λ tuple (row, has, shows, is).
            let by = (agrees row has).1 shows in
            (by.0, by.1, is ∙ sym (holds_tuple by.0 by.1 row has by.2));
      }

module _ (schema : Schema) (fits : IsWellWritten schema) (state : State) (tables : Tables) (are : TablesAre schema state tables) where
  -- the tuple of an entity is that of the row to which it is written
  pub entity_tuple : (fragment : Fragment) → Contains schema.mapping.fragments fragment → (table : Table) → At schema.store.tables fragment.table.index table
      → (entity : Entity) → Contains (entities_in state fragment.set) entity → Selects schema.model fragment entity → (row : Row) → Contains (rows_in tables fragment.table) row
      → written_key schema.store (entity_writing schema.model fragment entity) ≡ row_key table row
      → cell_values (entity_cells schema.model fragment entity) ≡ cells_of row (cols_of fragment.pairs)
  entity_tuple fragment mapped table here entity stands selected row has same =
      let Fits : Fragment → Type 0 = λ f. (held : Table) → At schema.store.tables f.table.index held → FitsTable held (cols_of f.pairs) f.conds in
      let fitting : FitsTable table (cols_of fragment.pairs) fragment.conds = All-contains Fits schema.mapping.fragments fragment fits.fragments mapped table here in
      let Selected : Entity → Type 0 = λ one. Contains (entities_in state fragment.set) one × Selects schema.model fragment one in
      holds_tuple schema state tables are fragment.table table here Selected (entity_writing schema.model fragment) (λ one. refl)
      (λ one by. inl (fragment, one, record { mapped = mapped; stands = by.0; selected = by.1 }, refl))
      (cols_of fragment.pairs) (entity_cols schema.model fragment) fitting.writes_key (Shows fragment) entity (stands, selected) row has same

  -- and so it is with the tuple of a link
  pub link_tuple : (fragment : LinkFragment) → Contains schema.mapping.links fragment → (table : Table) → At schema.store.tables fragment.table.index table
      → (assoc : Assoc) → At schema.model.assocs fragment.assoc.index assoc → (link : Link) → Contains (links_in state fragment.assoc) link → (row : Row)
      → Contains (rows_in tables fragment.table) row
      → written_key schema.store (link_writing schema.model fragment assoc link) ≡ row_key table row
      → cell_values (link_cells schema.model assoc fragment link) ≡ cells_of row (cols_of (fragment.first ++ fragment.second))
  link_tuple fragment mapped table here assoc is_assoc link stands row has same =
      let Fits : LinkFragment → Type 0 = λ f. (held : Table) → At schema.store.tables f.table.index held → FitsTable held (cols_of (f.first ++ f.second)) f.conds in
      let fitting : FitsTable table (cols_of (fragment.first ++ fragment.second)) fragment.conds = All-contains Fits schema.mapping.links fragment fits.links mapped table here in
      let Selected : Assoc × Link → Type 0 = λ by. At schema.model.assocs fragment.assoc.index by.0 × Contains (links_in state fragment.assoc) by.1 in
      holds_tuple schema state tables are fragment.table table here Selected (λ by. link_writing schema.model fragment by.0 by.1) (λ by. refl)
      (λ by selected. inr (fragment, by.0, by.1, record { mapped = mapped; is_assoc = selected.0; stands = selected.1 }, refl))
      (cols_of (fragment.first ++ fragment.second)) (λ by. link_cols schema.model by.0 fragment by.1) fitting.writes_key (ShowsLink fragment) (assoc, link)
      (is_assoc, stands) row has same

  pub fragment_by_rows : (fragment : Fragment) → Contains schema.mapping.fragments fragment → (table : Table) → At schema.store.tables fragment.table.index table
      → AreSameTuples (IsWrittenTuple schema state fragment) (IsShownTuple tables fragment) ↔ AgreesByRows schema state tables fragment table
  fragment_by_rows fragment mapped table here =
      let Fits : Fragment → Type 0 = λ f. (held : Table) → At schema.store.tables f.table.index held → FitsTable held (cols_of f.pairs) f.conds in
      let fitting : FitsTable table (cols_of fragment.pairs) fragment.conds = All-contains Fits schema.mapping.fragments fragment fits.fragments mapped table here in
      let Selected : Entity → Type 0 = λ entity. Contains (entities_in state fragment.set) entity × Selects schema.model fragment entity in
      let Written : List Value → Type 0 = λ tuple. (entity : Entity) × Selected entity × (tuple ≡ cell_values (entity_cells schema.model fragment entity)) in
      let WritesAt : Row → Type 0 = λ row. (entity : Entity) × Selected entity × (written_key schema.store (entity_writing schema.model fragment entity) ≡ row_key table row) in
      let generic = by_rows schema state tables are fragment.table table here Selected (entity_writing schema.model fragment) (λ entity. refl)
      (λ entity selected. inl (fragment, entity, record { mapped = mapped; stands = selected.0; selected = selected.1 }, refl))
      (cols_of fragment.pairs) (entity_cols schema.model fragment) fitting.writes_key (Shows fragment) in (
        (λ same row has.
            let told = generic.0 (record {
              shown = λ tuple (entity, selected, is). same.shown tuple (entity, selected.0, selected.1, is);
              written = λ tuple shown. let by = same.written tuple shown in (by.0, (by.1, by.2), by.3);
            }) row has in (
              (λ (at : IsSelectedAt schema state fragment table row). told.0 (at.entity, (at.stands, at.selected), at.at_row)),
              (λ shows. let by = told.1 shows in record { entity = by.0; stands = by.1.0; selected = by.1.1; at_row = by.2 }),
            )),
        (λ agrees.
            let told = generic.1 (λ row has. (
              (λ by. (agrees row has).0 (record { entity = by.0; stands = by.1.0; selected = by.1.1; at_row = by.2 })),
              (λ shows. let at = (agrees row has).1 shows in (at.entity, (at.stands, at.selected), at.at_row)),
            )) in
            record {
              shown = λ tuple (entity, stands, selected, is). told.shown tuple (entity, (stands, selected), is);
              written = λ tuple shown. let by = told.written tuple shown in (by.0, by.1.0, by.1.1, by.2);
            }),
      )

  pub link_fragment_by_rows : (fragment : LinkFragment) → Contains schema.mapping.links fragment → (table : Table) → At schema.store.tables fragment.table.index table
      → AreSameTuples (IsWrittenLinkTuple schema state fragment) (IsShownLinkTuple tables fragment) ↔ AgreesByLinkRows schema state tables fragment table
  link_fragment_by_rows fragment mapped table here =
      let Fits : LinkFragment → Type 0 = λ f. (held : Table) → At schema.store.tables f.table.index held → FitsTable held (cols_of (f.first ++ f.second)) f.conds in
      let fitting : FitsTable table (cols_of (fragment.first ++ fragment.second)) fragment.conds = All-contains Fits schema.mapping.links fragment fits.links mapped table here in
      let Selected : Assoc × Link → Type 0 = λ by. At schema.model.assocs fragment.assoc.index by.0 × Contains (links_in state fragment.assoc) by.1 in
      let generic = by_rows schema state tables are fragment.table table here Selected (λ by. link_writing schema.model fragment by.0 by.1) (λ by. refl)
      (λ by selected. inr (fragment, by.0, by.1, record { mapped = mapped; is_assoc = selected.0; stands = selected.1 }, refl))
      (cols_of (fragment.first ++ fragment.second)) (λ by. link_cols schema.model by.0 fragment by.1) fitting.writes_key (ShowsLink fragment) in (
        (λ same row has.
            let told = generic.0 (record {
              shown = λ tuple (by, selected, is). same.shown tuple (by.0, by.1, selected.0, selected.1, is);
              written = λ tuple shown. let by = same.written tuple shown in ((by.0, by.1), (by.2, by.3), by.4);
            }) row has in (
              (λ (at : IsLinkedAt schema state fragment table row). told.0 ((at.assoc, at.link), (at.is_assoc, at.stands), at.at_row)),
              (λ shows. let by = told.1 shows in record { assoc = by.0.0; link = by.0.1; is_assoc = by.1.0; stands = by.1.1; at_row = by.2 }),
            )),
        (λ agrees.
            let told = generic.1 (λ row has. (
              (λ by. (agrees row has).0 (record { assoc = by.0.0; link = by.0.1; is_assoc = by.1.0; stands = by.1.1; at_row = by.2 })),
              (λ shows. let at = (agrees row has).1 shows in ((at.assoc, at.link), (at.is_assoc, at.stands), at.at_row)),
            )) in
            record {
              shown = λ tuple (assoc, link, is_assoc, stands, is). told.shown tuple ((assoc, link), (is_assoc, stands), is);
              written = λ tuple shown. let by = told.written tuple shown in (by.0.0, by.0.1, by.1.0, by.1.1, by.2);
            }),
      )
