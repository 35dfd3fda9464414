-- The rows of what is touched are a part of those of a state.
use Rattle.std.proofs.Common.{◌≡◌, ◌≢◌, ◌==◌, ◌<◌, ◌∙◌, List, filter, length, AllPairs, Contains, refl, sym, subst}
use Rattle.std.specs.List.{flat_map}
use Rattle.std.proofs.lemmas.Bool.Decides.{Decides-eqb}
use Rattle.std.proofs.lemmas.List.Elements.{All-contains}
use Rattle.emc_base.proofs.Lists.{all_from_members}
use Rattle.emc_base.proofs.Mapped.{contains_filter, contains_map}
use Rattle.round_trip.specs.Words.{AreTables, EntityModel, Row, State, StoreModel, TableId, Tables, cells_of, key_columns, rows_in}
use Rattle.table_files.specs.declared.tables.TableRow.{TableRow}
use Rattle.keyed_rows.specs.row_differences.SameButFree.{HaveRowsApart}
use Rattle.row_changes.proofs.leading.Primary.{row_within}
use Rattle.cells.specs.declared.cells.Cells.{Cells}
use Rattle.entity_changes.specs.declared.touched.Touched.{Touched}
use Rattle.delta_plan.specs.RowsOf.{AreTablesOf, Giving, named, rows_of, touched_rows, unit_rows}
use Rattle.delta_plan.specs.Units.{Unit, is_touched, units_of}
use Rattle.delta_plan.proofs.resting.Shares.{named_given, pairs_of_filtered, within}

-- a row stands among those that name its table
pub among_named : (rows : List TableRow) (one : TableRow) → Contains rows one → Contains (named one.table rows) one.row
among_named rows one has = contains_map (λ (some : TableRow). some.row) (filter (λ (some : TableRow). some.table.index == one.table.index) rows) one
    (contains_filter (λ (some : TableRow). some.table.index == one.table.index) rows one has ((Decides-eqb one.table.index one.table.index).1 refl))

-- rows that name tables of the store; where tables hold them, these are as long as the store tells, with one row at a key
pub record AreWithin (store : StoreModel) (asked : List TableRow) : Type 0 where
  pub names : (one : TableRow) → Contains asked one → one.table.index < length store.tables
  pub tables : (part : Tables) → length part ≡ length store.tables → ((t : TableId) → rows_in part t ≡ named t asked) → AreTables store part
  pub apart : (part : Tables) → ((t : TableId) → rows_in part t ≡ named t asked) → HaveRowsApart store part

module _ (gives : Giving) (model : EntityModel) (cells : Cells) (state : State) (store : StoreModel) (rows : Tables)
    (are : AreTablesOf store (rows_of gives model cells state) rows) where
  -- the rows of a table that a unit gives
  abbrev pub given_in : TableId → Unit → List Row
  given_in t unit = named t (unit_rows gives model cells state unit)

  -- the rows of a table are those that the units give
  pub rows_are : (t : TableId) → rows_in rows t ≡ flat_map (given_in t) (units_of state)
  rows_are t = are.each t ∙ named_given t (unit_rows gives model cells state) (units_of state)

  -- a row names a table of the store
  pub names_table : (one : TableRow) → Contains (rows_of gives model cells state) one → one.table.index < length store.tables
  names_table one has =
      let there : Contains (rows_in rows one.table) one.row =
      subst (λ (list : List Row). Contains list one.row) (sym (are.each one.table)) (among_named (rows_of gives model cells state) one has) in
      subst (λ n. one.table.index < n) are.shape.each (row_within rows one.table one.row there)

  module _ (touched : Touched) where
    abbrev pub asked : List TableRow
    asked = touched_rows gives model cells state touched

    -- and so does a row of what is touched
    pub asked_names_table : (one : TableRow) → Contains asked one → one.table.index < length store.tables
    asked_names_table one has = names_table one (within (λ a b. a ≢ b) (unit_rows gives model cells state) (is_touched model touched) (units_of state) one has)

    module _ (part : Tables) (same : (t : TableId) → rows_in part t ≡ named t asked) where
      pub part_is : (t : TableId) → rows_in part t ≡ flat_map (given_in t) (filter (is_touched model touched) (units_of state))
      part_is t = same t ∙ named_given t (unit_rows gives model cells state) (filter (is_touched model touched) (units_of state))

      -- a row of the part is one of all
      pub part_within : (t : TableId) (row : Row) → Contains (rows_in part t) row → Contains (rows_in rows t) row
      part_within t row has =
          let In : List Row → Type 0 = λ list. Contains list row in
          subst In (sym (rows_are t)) (within (λ a b. a ≢ b) (given_in t) (is_touched model touched) (units_of state) row (subst In (part_is t) has))

      pub asked_tables : length part ≡ length store.tables → AreTables store part
      asked_tables long = record {
        each = long;
        rows = λ t table here. all_from_members (λ (row : Row). length row.cells ≡ length table.cols) (rows_in part t) (λ row has.
            All-contains (λ (row : Row). length row.cells ≡ length table.cols) (rows_in rows t) row (are.shape.rows t table here) (part_within t row has));
      }

      pub asked_apart : HaveRowsApart store rows → HaveRowsApart store part
      asked_apart apart t =
          let Apart : Row → Row → Type 0 = λ row other. cells_of row (key_columns store t) ≢ cells_of other (key_columns store t) in
          subst (AllPairs Apart) (sym (part_is t))
          (pairs_of_filtered Apart (given_in t) (is_touched model touched) (units_of state) (subst (AllPairs Apart) (rows_are t) (apart t)))

    -- what is asked for is within the store
    pub asked_within : HaveRowsApart store rows → AreWithin store asked
    asked_within apart = record {
      names = asked_names_table;
      tables = λ part long same. asked_tables part same long;
      apart = λ part same. asked_apart part same apart;
    }
