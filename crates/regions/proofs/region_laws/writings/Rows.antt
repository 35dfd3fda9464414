-- The rows of a pattern: those of the written tables, in the order of tables.
use Rattle.std.proofs.Common.{◌≡◌, ⊎_elim, ℕ, ◌<◌, List, [], ◌∷◌, flat_map, AllPairs, Contains, Bool, true, false, true≢false, IsTrue, if◌then◌else◌, refl, sym, ap, arith}
use Rattle.std.specs.List.{enumerate_from}
use Rattle.std.proofs.lemmas.List.Elements.{All-contains, All-nil}
use Rattle.std.proofs.lemmas.List.Kept.{AllPairs-cons}
use Rattle.emc_base.specs.Lists.{At}
use Rattle.emc_base.proofs.Mapped.{contains_enumerated}
use Rattle.emc_base.proofs.Numbered.{enumerated_at, numbered_at}
use Rattle.emc_base.proofs.Joined.{at_map}
use Rattle.emc_base.proofs.facts.Pairs.{pairs_append}
use Rattle.round_trip.specs.Words.{TableId, ColId, Table, Column, StoreModel}
use Rattle.schema_laws.proofs.state_demand.lists.Lists.{contains_flat_map, head_stands, member_cases, member_of_flat_map, none_in_nil, tail_stands}
use Rattle.regions.specs.declared.pattern.PatternRow.{PatternRow}
use Rattle.regions.specs.Symbols.{SymbolWriting}
use Rattle.regions.specs.Patterns.{cell_symbols, is_written, pattern_by, pattern_row, rows_at}
use Rattle.regions.proofs.region_laws.listing.Apart.{numbers_rise}
use Rattle.regions.proofs.region_laws.lists.Choices.{pairs_head, pairs_nil, pairs_tail}

pairs_flat_map : {X Y : Type 0} (S : X → X → Type 0) (R : Y → Y → Type 0) (f : X → List Y) (xs : List X) → ((x : X) → AllPairs R (f x))
    → ((x z : X) (y w : Y) → Contains xs x → Contains xs z → S x z → Contains (f x) y → Contains (f z) w → R y w) → AllPairs S xs → AllPairs R (flat_map f xs)
pairs_flat_map S R f [] each between pairs = pairs_nil R
pairs_flat_map S R f (x ∷ xs) each between pairs = pairs_append R (f x) (flat_map f xs) (each x)
    (pairs_flat_map S R f xs each (λ a b y w has_a has_b. between a b y w (tail_stands x xs a has_a) (tail_stands x xs b has_b)) (pairs_tail S x xs pairs))
    (λ y w first later.
    let found = member_of_flat_map f xs w later in
    between x found.0 y w (head_stands x xs) (tail_stands x xs found.0 found.1) (All-contains (S x) xs found.0 (pairs_head S x xs pairs) found.1) first found.2)

module _ (store : StoreModel) (writings : List SymbolWriting) where
  abbrev row_of : TableId → Table → Bool → List PatternRow
  row_of t table b = if b then pattern_row writings t table ∷ [] else []

  only_row : (t : TableId) (table : Table) (b : Bool) (row : PatternRow) → Contains (row_of t table b) row → (b ≡ true) × (row ≡ pattern_row writings t table)
  only_row t table true row has = (
    refl,
    ⊎_elim
        (λ (here : row ≡ pattern_row writings t table). here)
        (λ (none : Contains [] row). absurd (none_in_nil row none))
        (member_cases (pattern_row writings t table) [] row has),
  )
  only_row t table false row has = absurd (none_in_nil row has)

  row_there : (t : TableId) (table : Table) (b : Bool) → b ≡ true → Contains (row_of t table b) (pattern_row writings t table)
  row_there t table true told = head_stands (pattern_row writings t table) []
  row_there t table false told = absurd (true≢false (sym told))

  row_pairs : (t : TableId) (table : Table) (b : Bool) → AllPairs (λ (one next : PatternRow). one.table.index < next.table.index) (row_of t table b)
  row_pairs t table true = AllPairs-cons (λ (one next : PatternRow). one.table.index < next.table.index) (pattern_row writings t table) []
      (All-nil (λ (next : PatternRow). t.index < next.table.index)) (pairs_nil (λ (one next : PatternRow). one.table.index < next.table.index))
  row_pairs t table false = pairs_nil (λ (one next : PatternRow). one.table.index < next.table.index)

  abbrev rows_by : ℕ × Table → List PatternRow
  rows_by placed = rows_at writings (record { index = placed.0 }) placed.1

  -- a row is that of a written table
  pub rows_only : (row : PatternRow) → Contains (pattern_by store writings).rows row
      → (t : TableId) × (table : Table) × At store.tables t.index table × IsTrue (is_written writings t) × (row ≡ pattern_row writings t table)
  rows_only row has =
      let found = member_of_flat_map rows_by (enumerate_from 0 store.tables) row has in
      let t : TableId = record { index = found.0.0 } in
      let is = only_row t found.0.1 (is_written writings t) row found.2 in
      (t, found.0.1, enumerated_at store.tables found.0 found.1, is.0, is.1)

  -- and each written table has its row
  pub rows_all : (t : TableId) (table : Table) → At store.tables t.index table → IsTrue (is_written writings t)
      → Contains (pattern_by store writings).rows (pattern_row writings t table)
  rows_all t table here written =
      contains_flat_map rows_by (enumerate_from 0 store.tables) (t.index, table) (pattern_row writings t table) (contains_enumerated store.tables t.index table here)
      (row_there t table (is_written writings t) written)

  -- in the order of tables
  pub rows_order : AllPairs (λ (one next : PatternRow). one.table.index < next.table.index) (pattern_by store writings).rows
  rows_order = pairs_flat_map (λ (one : ℕ × Table) (next : ℕ × Table). one.0 < next.0) (λ (one next : PatternRow). one.table.index < next.table.index) rows_by
      (enumerate_from 0 store.tables)
      (λ placed. row_pairs (record { index = placed.0 }) placed.1 (is_written writings (record { index = placed.0 })))
      (λ one next row other has_one has_next less first second.
      let t : TableId = record { index = one.0 } in
      let u : TableId = record { index = next.0 } in
      let first_at = ap (λ (r : PatternRow). r.table.index) (only_row t one.1 (is_written writings t) row first).1 in
      let second_at = ap (λ (r : PatternRow). r.table.index) (only_row u next.1 (is_written writings u) other second).1 in
      omega (arith, less, first_at, second_at))
      (numbers_rise store.tables)

  -- a row's cell of a column lists the column's symbols
  pub row_cells : (t : TableId) (table : Table) (col : ColId) (column : Column) → At table.cols col.index column
      → At (pattern_row writings t table).cells col.index (cell_symbols writings t col)
  row_cells t table col column here =
      at_map (λ (placed : ℕ × Column). cell_symbols writings t (record { index = placed.0 })) (enumerate_from 0 table.cols) col.index (col.index, column)
      (numbered_at table.cols col.index column here)
