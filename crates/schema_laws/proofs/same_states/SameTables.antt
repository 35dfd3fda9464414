-- States with the same entities and links have the same tables, and these in any order.
use Rattle.std.proofs.Common.{◌≡◌, ◌≢◌, inl, inr, ⊎_elim, List, sym}
use Rattle.std.proofs.lemmas.List.Sorted.{All-permutation, Contains-permutation, IsPermutation-refl, IsPermutation-sym}
use Rattle.round_trip.specs.Words.{TableId, ColId, Value, Table, Schema, Row, State, Tables, Writing, AreDemandedRows, AreSameTables, AreTables, DemandsCell, DemandsRow, HasDemandedCells, IsSameState, TablesAre, Writes, WritesRow, cell_of, entities_in, links_in, row_key, rows_in}
use Rattle.schema_laws.proofs.same_states.Reordered.{all_in_any_order, any_in_any_order, pairs_in_any_order}

-- the same the other way
pub turned : (one two : State) → IsSameState one two → IsSameState two one
turned one two same = record {
  entities = λ s. IsPermutation-sym (entities_in one s) (entities_in two s) (same.entities s);
  links = λ a. IsPermutation-sym (links_in one a) (links_in two a) (same.links a);
}

module _ (schema : Schema) (one two : State) (same : IsSameState one two) where
  -- what the one writes the other writes
  writes_too : (writing : Writing) → Writes schema one writing → Writes schema two writing
  writes_too writing (inl (fragment, entity, writes, is)) = inl (
    fragment,
    entity,
    record {
      mapped = writes.mapped;
      stands = Contains-permutation (entities_in one fragment.set) (entities_in two fragment.set) entity (same.entities fragment.set) writes.stands;
      selected = writes.selected;
    },
    is,
  )
  writes_too writing (inr (fragment, assoc, link, writes, is)) = inr (
    fragment,
    assoc,
    link,
    record {
      mapped = writes.mapped;
      is_assoc = writes.is_assoc;
      stands = Contains-permutation (links_in one fragment.assoc) (links_in two fragment.assoc) link (same.links fragment.assoc) writes.stands;
    },
    is,
  )

  row_too : (t : TableId) (key : List Value) (writing : Writing) → WritesRow schema one t key writing → WritesRow schema two t key writing
  row_too t key writing writes = record { writes = writes_too writing writes.writes; to_table = writes.to_table; to_key = writes.to_key }

  demands_row : (t : TableId) (key : List Value) → DemandsRow schema one t key → DemandsRow schema two t key
  demands_row t key demand = (demand.0, row_too t key demand.0 demand.1)

  demands_cell : (t : TableId) (key : List Value) (col : ColId) (value : Value) → DemandsCell schema one t key col value → DemandsCell schema two t key col value
  demands_cell t key col value demand = (demand.0, row_too t key demand.0 demand.1, demand.2)

module _ (schema : Schema) (one two : State) (same : IsSameState one two) where
  abbrev back : IsSameState two one
  back = turned one two same

  cells_too : (t : TableId) (table : Table) (row : Row) → HasDemandedCells schema one t table row → HasDemandedCells schema two t table row
  cells_too t table row cells = record {
    demanded = λ col value demand. cells.demanded col value (demands_cell schema two one back t (row_key table row) col value demand);
    only = λ col column here. ⊎_elim inl (λ demand. inr (demands_cell schema one two same t (row_key table row) col (cell_of row col) demand)) (cells.only col column here);
  }

  rows_too : (t : TableId) (table : Table) (rows : List Row) → AreDemandedRows schema one t table rows → AreDemandedRows schema two t table rows
  rows_too t table rows are = record {
    demanded = all_in_any_order (λ row. DemandsRow schema one t (row_key table row)) (λ row. DemandsRow schema two t (row_key table row))
        (λ row. demands_row schema one two same t (row_key table row)) rows rows (IsPermutation-refl rows) are.demanded;
    all = λ key demand. are.all key (demands_row schema two one back t key demand);
    once = are.once;
    cells = all_in_any_order (HasDemandedCells schema one t table) (HasDemandedCells schema two t table) (cells_too t table) rows rows (IsPermutation-refl rows) are.cells;
  }

  -- the tables of a state are those of the same state
  pub tables_too : (tables : Tables) → TablesAre schema one tables → TablesAre schema two tables
  tables_too tables are = record {
    shape = are.shape;
    no_clash = λ t key col value other first second. are.no_clash t key col value other
        (demands_cell schema two one back t key col value first) (demands_cell schema two one back t key col other second);
    rows = λ t table here. rows_too t table (rows_in tables t) (are.rows t table here);
  }

module _ (schema : Schema) (state : State) (tables others : Tables) (moved : AreSameTables tables others) where
  rows_moved : (t : TableId) (table : Table) → AreDemandedRows schema state t table (rows_in tables t) → AreDemandedRows schema state t table (rows_in others t)
  rows_moved t table are = record {
    demanded = All-permutation (λ row. DemandsRow schema state t (row_key table row)) (rows_in tables t) (rows_in others t) (moved t) are.demanded;
    all = λ key demand. any_in_any_order (λ row. row_key table row ≡ key) (rows_in tables t) (rows_in others t) (moved t) (are.all key demand);
    once = pairs_in_any_order (λ (row other : Row). row_key table row ≢ row_key table other) (λ row other apart alike. apart (sym alike)) (rows_in tables t) (rows_in others t) (moved t) are.once;
    cells = All-permutation (HasDemandedCells schema state t table) (rows_in tables t) (rows_in others t) (moved t) are.cells;
  }

  -- and so are these rows in any order
  pub tables_moved : AreTables schema.store others → TablesAre schema state tables → TablesAre schema state others
  tables_moved shape are = record { shape = shape; no_clash = are.no_clash; rows = λ t table here. rows_moved t table (are.rows t table here) }
