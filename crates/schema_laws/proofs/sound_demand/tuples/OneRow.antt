-- A tuple that a fragment writes or shows stands in one row of its table.
use Rattle.std.proofs.Common.{◌≡◌, ◌↔◌, inl, inr, List, ◌++◌, All, Contains, refl, sym, subst, ◌∙◌}
use Rattle.std.proofs.lemmas.List.Elements.{All-contains}
use Rattle.round_trip.specs.Words.{TableId, ColId, Value, Table, Fragment, LinkFragment, Schema, Row, State, At, Tables, rows_in, cell_of, cells_of, row_key, Shows, ShowsLink, Writing, Writes, written_key, TablesAre, IsWrittenTuple, IsShownTuple, IsWrittenLinkTuple, IsShownLinkTuple}
use Rattle.round_trip.specs.FailsAt.{IsInOneOnly}
use Rattle.schema_laws.specs.state_demand.ByRows.{IsLinkedAt, IsSelectedAt}
use Rattle.schema_laws.specs.state_demand.WellWritten.{FitsTable, IsWellWritten, cols_of}
use Rattle.schema_laws.specs.state_demand.Writings.{entity_writing, link_writing}
use Rattle.schema_laws.proofs.state_demand.tables.ByRows.{entity_tuple, link_tuple}
use Rattle.schema_laws.proofs.state_demand.lists.Lists.{of_any, same_by_key}
use Rattle.schema_laws.proofs.state_demand.lists.Places.{agree_by_map, map_agree}
use Rattle.schema_laws.proofs.state_demand.tables.ReadBack.{rows_demanded}
use Rattle.schema_laws.specs.sound_demand.Disagreeing.{IsOneOnly}

-- what is written or shown by rows, each of which has a tuple of its own, is in one only at a row that is written to or shown only
module _ (Has : Row → Type 0) (tuple_of : Row → List Value) (one : (row other : Row) → Has row → Has other → tuple_of row ≡ tuple_of other → row ≡ other)
    (Written Shown : List Value → Type 0) (WritesTo ShowsRow : Row → Type 0)
    (written_at : (tuple : List Value) → Written tuple → (row : Row) × Has row × WritesTo row × (tuple ≡ tuple_of row))
    (shown_at : (tuple : List Value) → Shown tuple → (row : Row) × Has row × ShowsRow row × (tuple ≡ tuple_of row))
    (writes : (row : Row) → Has row → WritesTo row → Written (tuple_of row)) (shows : (row : Row) → Has row → ShowsRow row → Shown (tuple_of row)) where
  abbrev IsRowOnly : List Value → Type 0
  IsRowOnly tuple = (row : Row) × Has row × (tuple ≡ tuple_of row) × IsOneOnly (WritesTo row) (ShowsRow row)

  pub one_only_at_row : (tuple : List Value) → IsInOneOnly Written Shown tuple ↔ IsRowOnly tuple
  one_only_at_row tuple = (forth, back)
    where
      forth : IsInOneOnly Written Shown tuple → IsRowOnly tuple
      forth (inl (written, hidden)) =
          let at = written_at tuple written in
          (at.0, at.1, at.3, inl (at.2, λ shown. hidden (subst Shown (sym at.3) (shows at.0 at.1 shown))))
      forth (inr (shown, unwritten)) =
          let at = shown_at tuple shown in
          (at.0, at.1, at.3, inr (at.2, λ written. unwritten (subst Written (sym at.3) (writes at.0 at.1 written))))

      back : IsRowOnly tuple → IsInOneOnly Written Shown tuple
      back (row, has, is, inl (written, hidden)) =
          inl (
            subst Written (sym is) (writes row has written),
            λ shown.
                let at = shown_at tuple shown in
                hidden (subst ShowsRow (one at.0 row at.1 has (sym at.3 ∙ is)) at.2),
          )
      back (row, has, is, inr (shown, unwritten)) =
          inr (
            subst Shown (sym is) (shows row has shown),
            λ written.
                let at = written_at tuple written in
                unwritten (subst WritesTo (one at.0 row at.1 has (sym at.3 ∙ is)) at.2),
          )

-- the rows of a table of a state
module _ (schema : Schema) (fits : IsWellWritten schema) (state : State) (tables : Tables) (are : TablesAre schema state tables) where
  module _ (t : TableId) (table : Table) (here : At schema.store.tables t.index table) where
    -- rows that hold one tuple in columns with the primary key are one
    pub row_by_tuple : (cols : List ColId) → All (Contains cols) table.key → (row other : Row) → Contains (rows_in tables t) row → Contains (rows_in tables t) other
        → cells_of row cols ≡ cells_of other cols → row ≡ other
    row_by_tuple cols key_in row other has has_other same =
        same_by_key (row_key table) (rows_in tables t) row other (rows_demanded schema state tables are t table here).once has has_other
        (map_agree (cell_of row) (cell_of other) table.key (λ col among.
        agree_by_map (cell_of row) (cell_of other) cols same col (All-contains (Contains cols) table.key col key_in among)))

    -- the row to which it is written
    pub row_written : (writing : Writing) → Writes schema state writing → writing.table ≡ t
        → (row : Row) × Contains (rows_in tables t) row × (row_key table row ≡ written_key schema.store writing)
    row_written writing writes to =
        let key : List Value = written_key schema.store writing in
        of_any (λ (row : Row). row_key table row ≡ key) (rows_in tables t)
        ((rows_demanded schema state tables are t table here).all key (writing, record { writes = writes; to_table = to; to_key = refl }))

  pub at_selected : (fragment : Fragment) → Contains schema.mapping.fragments fragment → (table : Table) → At schema.store.tables fragment.table.index table
      → (tuple : List Value) → IsInOneOnly (IsWrittenTuple schema state fragment) (IsShownTuple tables fragment) tuple
      ↔ ((row : Row) × Contains (rows_in tables fragment.table) row × (tuple ≡ cells_of row (cols_of fragment.pairs))
      × IsOneOnly (IsSelectedAt schema state fragment table row) (Shows fragment row))
  at_selected fragment mapped table here =
      let Fits : Fragment → Type 0 = λ f. (held : Table) → At schema.store.tables f.table.index held → FitsTable held (cols_of f.pairs) f.conds in
      let fitting : FitsTable table (cols_of fragment.pairs) fragment.conds = All-contains Fits schema.mapping.fragments fragment fits.fragments mapped table here in
      one_only_at_row (Contains (rows_in tables fragment.table)) (λ row. cells_of row (cols_of fragment.pairs))
      (row_by_tuple fragment.table table here (cols_of fragment.pairs) fitting.writes_key)
      (IsWrittenTuple schema state fragment) (IsShownTuple tables fragment) (IsSelectedAt schema state fragment table) (Shows fragment)
      (λ tuple (entity, stands, selected, is).
      let found = row_written fragment.table table here (entity_writing schema.model fragment entity)
      (inl (fragment, entity, record { mapped = mapped; stands = stands; selected = selected }, refl)) refl in (
        found.0,
        found.1,
        record { entity = entity; stands = stands; selected = selected; at_row = sym found.2 },
        is ∙ entity_tuple schema fits state tables are fragment mapped table here entity stands selected found.0 found.1 (sym found.2),
      ))
      (λ tuple shown. shown)
      (λ row has at.
      (at.entity, at.stands, at.selected, sym (entity_tuple schema fits state tables are fragment mapped table here at.entity at.stands at.selected row has at.at_row)))
      (λ row has shows. (row, has, shows, refl))

  pub at_linked : (fragment : LinkFragment) → Contains schema.mapping.links fragment → (table : Table) → At schema.store.tables fragment.table.index table
      → (tuple : List Value) → IsInOneOnly (IsWrittenLinkTuple schema state fragment) (IsShownLinkTuple tables fragment) tuple
      ↔ ((row : Row) × Contains (rows_in tables fragment.table) row × (tuple ≡ cells_of row (cols_of (fragment.first ++ fragment.second)))
      × IsOneOnly (IsLinkedAt schema state fragment table row) (ShowsLink fragment row))
  at_linked fragment mapped table here =
      let Fits : LinkFragment → Type 0 = λ f. (held : Table) → At schema.store.tables f.table.index held → FitsTable held (cols_of (f.first ++ f.second)) f.conds in
      let fitting : FitsTable table (cols_of (fragment.first ++ fragment.second)) fragment.conds = All-contains Fits schema.mapping.links fragment fits.links mapped table here in
      one_only_at_row (Contains (rows_in tables fragment.table)) (λ row. cells_of row (cols_of (fragment.first ++ fragment.second)))
      (row_by_tuple fragment.table table here (cols_of (fragment.first ++ fragment.second)) fitting.writes_key)
      (IsWrittenLinkTuple schema state fragment) (IsShownLinkTuple tables fragment) (IsLinkedAt schema state fragment table) (ShowsLink fragment)
      (λ tuple (assoc, link, is_assoc, stands, is).
      let found = row_written fragment.table table here (link_writing schema.model fragment assoc link)
      (inr (fragment, assoc, link, record { mapped = mapped; is_assoc = is_assoc; stands = stands }, refl)) refl in (
        found.0,
        found.1,
        record { assoc = assoc; link = link; is_assoc = is_assoc; stands = stands; at_row = sym found.2 },
        is ∙ link_tuple schema fits state tables are fragment mapped table here assoc is_assoc link stands found.0 found.1 (sym found.2),
      ))
      (λ tuple shown. shown)
      (λ row has at. (
        at.assoc,
        at.link,
        at.is_assoc,
        at.stands,
        sym (link_tuple schema fits state tables are fragment mapped table here
            at.assoc at.is_assoc at.link at.stands row has at.at_row),
      ))
      (λ row has shows. (row, has, shows, refl))
