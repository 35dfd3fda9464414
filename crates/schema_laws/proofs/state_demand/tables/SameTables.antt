-- The tables of a state are one, up to the order of rows.
use Rattle.std.proofs.Common.{◌≡◌, ◌≢◌, inl, inr, ⊎_elim, ℕ, suc, ◌<◌, ◌≤◌, List, [], ◌∷◌, length, slice_get, unwrap_or, All, AllPairs, Contains, IsPermutation, refl, sym, ap, subst, ◌∙◌, arith}
use Rattle.std.proofs.lemmas.List.Elements.{All-contains}
use Rattle.std.proofs.lemmas.List.Sorted.{IsPermutation-refl}
use Rattle.std.proofs.lemmas.Option.{slice_get_cases}
use Rattle.emc_base.proofs.Lists.{item_at}
use Rattle.edm_types.proofs.Lookups.{rows_beyond}
use Rattle.round_trip.specs.Words.{TableId, ColId, Value, Null, Table, Column, Schema, Row, State, At, Tables, rows_in, cell_of, row_key, AreSameTables, DemandsRow, DemandsCell, HasDemandedCells, AreDemandedRows, TablesAre}
use Rattle.schema_laws.proofs.state_demand.lists.Lists.{of_any}
use Rattle.schema_laws.proofs.state_demand.lists.Permutations.{same_members_permute}

-- lists of one length that agree at each place are one
same_cells : (xs ys : List Value) → length xs ≡ length ys → ((i : ℕ) → i < length xs → unwrap_or (slice_get xs i) Null ≡ unwrap_or (slice_get ys i) Null) → xs ≡ ys
same_cells [] [] lengths agree = refl
same_cells [] (y ∷ ys) lengths agree = absurd (omega (arith, lengths))
same_cells (x ∷ xs) [] lengths agree = absurd (omega (arith, lengths))
same_cells (x ∷ xs) (y ∷ ys) lengths agree =
    let head : x ≡ y = agree 0 (omega arith) in
    let shorter : length xs ≡ length ys = omega (arith, lengths) in
    let tail : xs ≡ ys = same_cells xs ys shorter (λ i within. agree (suc i) (omega arith)) in
    λ k. head k ∷ tail k

module _ (schema : Schema) (state : State) (t : TableId) (table : Table) where
  -- rows of one key with the demanded cells are one
  pub same_row : (one two : Row) → length one.cells ≡ length table.cols → length two.cells ≡ length table.cols → HasDemandedCells schema state t table one
      → HasDemandedCells schema state t table two
      → row_key table one ≡ row_key table two → one ≡ two
  same_row one two ones twos first second keys =
      let cells : one.cells ≡ two.cells = same_cells one.cells two.cells (ones ∙ sym twos) agree in
      λ k. record { cells = cells k }
    where
      at_col : (col : ColId) (column : Column) → At table.cols col.index column → cell_of one col ≡ cell_of two col
      at_col col column here =
          let P : Value → List Value → Type 0 = λ value key. DemandsCell schema state t key col value in
          ⊎_elim
          (λ (null : cell_of one col ≡ Null). ⊎_elim
          (λ (other : cell_of two col ≡ Null). null ∙ sym other)
          (λ (cell : DemandsCell schema state t (row_key table two) col (cell_of two col)). first.demanded col (cell_of two col) (subst (P (cell_of two col)) (sym keys) cell))
          (second.only col column here))
          (λ (cell : DemandsCell schema state t (row_key table one) col (cell_of one col)). sym (second.demanded col (cell_of one col) (subst (P (cell_of one col)) keys cell)))
          (first.only col column here)

      agree : (i : ℕ) → i < length one.cells → unwrap_or (slice_get one.cells i) Null ≡ unwrap_or (slice_get two.cells i) Null
      agree i within = let found = item_at table.cols i (subst (λ n. i < n) ones within) in at_col (record { index = i }) found.0 found.1

  -- rows that the state demands stand in each list of demanded rows
  moves : (ones twos : List Row) → All (λ row. length row.cells ≡ length table.cols) ones → All (λ row. length row.cells ≡ length table.cols) twos
      → AreDemandedRows schema state t table ones → AreDemandedRows schema state t table twos → (row : Row) → Contains ones row → Contains twos row
  moves ones twos full_ones full_twos first second row has =
      let Full : Row → Type 0 = λ r. length r.cells ≡ length table.cols in
      let Demanded : Row → Type 0 = λ r. DemandsRow schema state t (row_key table r) in
      let SameKey : Row → Type 0 = λ r. row_key table r ≡ row_key table row in
      let found = of_any SameKey twos (second.all (row_key table row) (All-contains Demanded ones row first.demanded has)) in
      let Cells : Row → Type 0 = HasDemandedCells schema state t table in
      let same = same_row found.0 row (All-contains Full twos found.0 full_twos found.1) (All-contains Full ones row full_ones has)
      (All-contains Cells twos found.0 second.cells found.1) (All-contains Cells ones row first.cells has) found.2 in
      subst (Contains twos) same found.1

  apart_rows : (rows : List Row) → AreDemandedRows schema state t table rows → AllPairs (λ one two. one ≢ two) rows
  apart_rows rows demanded i j d below within same = demanded.once i j d below within (ap (row_key table) same)

  rows_permute : (ones twos : List Row) → All (λ row. length row.cells ≡ length table.cols) ones → All (λ row. length row.cells ≡ length table.cols) twos
      → AreDemandedRows schema state t table ones → AreDemandedRows schema state t table twos → IsPermutation ones twos
  rows_permute ones twos full_ones full_twos first second = same_members_permute ones twos (apart_rows ones first) (apart_rows twos second)
      (moves ones twos full_ones full_twos first second) (moves twos ones full_twos full_ones second first)

pub same_tables : (schema : Schema) (state : State) (one two : Tables) → TablesAre schema state one → TablesAre schema state two → AreSameTables one two
same_tables schema state one two first second t = elim (slice_get_cases schema.store.tables t.index).1 [
  | inl found ↦ rows_permute schema state t found.0 (rows_in one t) (rows_in two t) (first.shape.rows t found.0 found.2) (second.shape.rows t found.0 found.2)
      (first.rows t found.0 found.2) (second.rows t found.0 found.2)
  | inr past ↦
      let end : length schema.store.tables ≤ t.index = past.0 in
      let ones = rows_beyond one t (subst (λ n. n ≤ t.index) (sym first.shape.each) end) in
      let twos = rows_beyond two t (subst (λ n. n ≤ t.index) (sym second.shape.each) end) in
      let P : List Row → Type 0 = λ rows. IsPermutation rows (rows_in two t) in
      subst P (sym ones) (let Q : List Row → Type 0 = λ rows. IsPermutation [] rows in subst Q (sym twos) (IsPermutation-refl []))
]
