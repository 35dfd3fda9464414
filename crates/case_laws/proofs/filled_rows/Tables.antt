-- The gathered rows are the tables of the state.
use Rattle.std.proofs.Common.{◌≡◌, ◌≢◌, ⊎_elim, ℕ, ◌==◌, List, [], map, filter, length, option_map, unwrap_or, All, Bool, Contains, Option, sym, ap, subst, ◌∙◌}
use Rattle.std.specs.List.{enumerate_from}
use Rattle.std.proofs.lemmas.Bool.Decides.{Decides-eqb}
use Rattle.std.proofs.lemmas.List.{length-map}
use Rattle.std.proofs.lemmas.List.FromFn.{length-enumerate_from}
use Rattle.std.proofs.lemmas.List.Kept.{AllPairs-filter}
use Rattle.std.proofs.lemmas.Option.{slice_get-map}
use Rattle.emc_base.proofs.Lists.{all_from_members, at_once}
use Rattle.emc_base.proofs.Mapped.{contains_filter, contains_map}
use Rattle.emc_base.proofs.Numbered.{all_pairs_map, filter_contains, map_contains, numbered_at}
use Rattle.round_trip.specs.Words.{SetId, AssocId, TableId, AreTables, At, DemandsRow, Entity, Hosted, Link, Row, State, Table, Tables, TablesAre, Value, row_key, rows_in}
use Rattle.round_trip.specs.TablesAre.{AreDemandedRows, HasDemandedCells}
use Rattle.table_files.specs.declared.tables.TableRow.{TableRow}
use Rattle.schema_laws.proofs.state_demand.lists.Lists.{any_of}
use Rattle.regions.specs.Basis.{Basis}
use Rattle.case_laws.specs.filled_rows.Gathered.{gathered}
use Rattle.case_laws.proofs.filled_rows.Filled.{IsFilled}
use Rattle.case_laws.proofs.filled_rows.Once.{AreDifferent, rows_once}
use Rattle.case_laws.proofs.filled_rows.Pairs.{pairs_of_members}
use Rattle.case_laws.proofs.filled_rows.Sources.{AreTold, IsOfAssoc, IsOfSet, all_rows, demanded_gathered, of_either}

module _ (basis : Basis) (local : SetId → Entity → List Hosted → List TableRow) (joined : AssocId → Option (Link → TableRow))
    (hosted : SetId → List Value → List Hosted) (state : State) (told : AreTold basis local joined hosted state) where
  abbrev rows : List TableRow
  rows = all_rows basis local joined hosted state told

  abbrev tables : Tables
  tables = gathered basis.schema.store rows

  abbrev row_of : TableRow → Row
  row_of placed = placed.row

  abbrev is_in : ℕ → TableRow → Bool
  is_in number placed = placed.table.index == number

  abbrev rows_at : ℕ × Table → List Row
  rows_at entry = map row_of (filter (is_in entry.0) rows)

  -- the rows of a table
  module _ (t : TableId) (table : Table) (here : At basis.schema.store.tables t.index table) where
    abbrev list : List Row
    list = rows_at (t.index, table)

    rows_are : rows_in tables t ≡ list
    rows_are = ap (λ found. unwrap_or found [])
        (slice_get-map rows_at (enumerate_from 0 basis.schema.store.tables) t.index ∙ ap (option_map rows_at) (numbered_at basis.schema.store.tables t.index table here))

    of_table : (placed : TableRow) → Contains (filter (is_in t.index) rows) placed → placed.table ≡ t
    of_table placed among =
        let number = (Decides-eqb placed.table.index t.index).0 (filter_contains (is_in t.index) rows placed among).1 in
        λ k. record { index = number k }

    moved : (placed : TableRow) (other : Table) → placed.table ≡ t → At basis.schema.store.tables placed.table.index other → IsFilled basis state placed.table other placed.row
        → IsFilled basis state t table placed.row
    moved placed other to is_table filled =
        let AtTable : TableId → Type 0 = λ u. At basis.schema.store.tables u.index other in
        let same : other ≡ table = at_once basis.schema.store.tables t.index other table (subst AtTable to is_table) here in
        let P : TableId → Type 0 = λ u. IsFilled basis state u other placed.row in
        let Q : Table → Type 0 = λ one. IsFilled basis state t one placed.row in
        subst Q same (subst P to filled)

    placed_filled : (placed : TableRow) → Contains rows placed → placed.table ≡ t → IsFilled basis state t table placed.row
    placed_filled placed among to = ⊎_elim
        (λ (of : IsOfSet basis local joined hosted state told placed). moved placed of.is_row.table to of.is_row.is_table of.is_row.is_filled)
        (λ (of : IsOfAssoc basis local joined hosted state told placed). moved placed of.is_row.table to of.is_row.is_table of.is_row.is_filled)
        (of_either basis local joined hosted state told placed among)

    -- each is filled
    row_filled : (row : Row) → Contains list row → IsFilled basis state t table row
    row_filled row has =
        let found = map_contains row_of (filter (is_in t.index) rows) row has in
        let P : Row → Type 0 = λ one. IsFilled basis state t table one in
        subst P found.2 (placed_filled found.0 (filter_contains (is_in t.index) rows found.0 found.1).0 (of_table found.0 found.1))

    are_demanded : AreDemandedRows basis.schema state t table list
    are_demanded = record {
      demanded = all_from_members (λ (row : Row). DemandsRow basis.schema state t (row_key table row)) list (λ row has. (row_filled row has).demanded);
      all = λ key demand. (let found = demanded_gathered basis local joined hosted state told t table key here demand in
          any_of (λ (row : Row). row_key table row ≡ key) list found.0.row
          (contains_map row_of (filter (is_in t.index) rows) found.0 (contains_filter (is_in t.index) rows found.0 found.1
          ((Decides-eqb found.0.table.index t.index).1 (ap (λ (u : TableId). u.index) found.2)))) found.3);
      once = (let Different : TableRow → TableRow → Type 0 = λ one other. row_key table one.row ≢ row_key table other.row in
          let Differ : TableRow → TableRow → Type 0 = AreDifferent basis local joined hosted state told t table here in
          all_pairs_map (λ (one other : Row). row_key table one ≢ row_key table other) row_of (filter (is_in t.index) rows)
          (pairs_of_members Different Differ (filter (is_in t.index) rows)
          (λ one other has_one has_other differ. differ (of_table one has_one) (of_table other has_other))
          (AllPairs-filter Differ (is_in t.index) rows (rows_once basis local joined hosted state told t table here))));
      cells = all_from_members (HasDemandedCells basis.schema state t table) list (λ row has. (row_filled row has).cells);
    }

    full_rows : All (λ row. length row.cells ≡ length table.cols) list
    full_rows = all_from_members (λ (row : Row). length row.cells ≡ length table.cols) list (λ row has. (row_filled row has).whole)

  shape : AreTables basis.schema.store tables
  shape = record {
    each = length-map (enumerate_from 0 basis.schema.store.tables) rows_at ∙ length-enumerate_from 0 basis.schema.store.tables;
    rows = λ t table here. (let P : List Row → Type 0 = λ list_of. All (λ (row : Row). length row.cells ≡ length table.cols) list_of in
        subst P (sym (rows_are t table here)) (full_rows t table here));
  }

  pub tables_are : TablesAre basis.schema state tables
  tables_are = record {
    shape = shape;
    no_clash = told.no_clash;
    rows = λ t table here. subst (AreDemandedRows basis.schema state t table) (sym (rows_are t table here)) (are_demanded t table here);
  }
