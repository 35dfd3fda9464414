-- The cells of a pattern: what they list, of which tables, and that they list nothing twice.
use Rattle.std.proofs.Common.{◌≡◌, ◌≢◌, ⊎_elim, ℕ, ◌<◌, ◌==◌, List, [], ◌∷◌, length, map, filter, flat_map, option_map, if◌then◌else◌, Bool, true, false, AllPairs, Contains, refl, sym, ap, subst, ◌∙◌}
use Rattle.std.specs.List.{enumerate_from}
use Rattle.std.proofs.lemmas.Bool.Decides.{Decides-eqb}
use Rattle.std.proofs.lemmas.List.Folds.{Any-from_list_any}
use Rattle.std.proofs.lemmas.List.FromFn.{length-enumerate_from}
use Rattle.std.proofs.lemmas.List.{length-map}
use Rattle.std.proofs.lemmas.Option.{same_Some, slice_get-map, slice_get_within}
use Rattle.emc_base.proofs.Lists.{item_at}
use Rattle.emc_base.proofs.Mapped.{contains_filter, contains_map}
use Rattle.emc_base.proofs.Numbered.{enumerated_at, filter_contains, map_contains, numbered_at}
use Rattle.round_trip.specs.Words.{TableId, ColId, StoreModel, Table, Column, At}
use Rattle.schema_laws.proofs.state_demand.lists.Lists.{contains_flat_map, member_cases, member_of_flat_map, none_in_nil, of_any}
use Rattle.regions.specs.declared.pattern.Symbol.{Symbol}
use Rattle.regions.specs.declared.pattern.PatternRow.{PatternRow}
use Rattle.regions.specs.Patterns.{cell_symbols, is_written, pattern_by, pattern_row, rows_at, symbols_in}
use Rattle.regions.specs.Symbols.{SymbolWriting, same_symbol}
use Rattle.regions.specs.region_laws.pattern.Listed.{HasCell}
use Rattle.regions.proofs.region_laws.pattern.Choices.{contains_firsts, firsts_apart, member_of_firsts}
use Rattle.regions.proofs.region_laws.values.Symbols.{Decides-symbol}

-- one of the writings to the table writes the symbol to the column
pub record IsWrittenSymbol (writings : List SymbolWriting) (t : TableId) (col : ColId) (symbol : Symbol) : Type 0 where
  pub writing : SymbolWriting
  pub is_writing : Contains writings writing
  pub to_table : writing.table ≡ t
  pub has_cell : Contains writing.cells (col, symbol)

table_told : (t u : TableId) → t.index == u.index ≡ true → t ≡ u
table_told t u told = let number = (Decides-eqb t.index u.index).0 told in λ k. record { index = number k }

module _ (writings : List SymbolWriting) (t : TableId) (col : ColId) where
  abbrev to : SymbolWriting → Bool
  to writing = writing.table.index == t.index

  abbrev here : ColId × Symbol → Bool
  here cell = cell.0.index == col.index

  abbrev all : List Symbol
  all = flat_map (λ (writing : SymbolWriting). symbols_in col writing.cells) (filter to writings)

  -- what a cell lists is written
  pub listed_written : (symbol : Symbol) → Contains (cell_symbols writings t col) symbol → IsWrittenSymbol writings t col symbol
  listed_written symbol has =
      let found = member_of_flat_map (λ (writing : SymbolWriting). symbols_in col writing.cells) (filter to writings) symbol
      (member_of_firsts same_symbol Decides-symbol all symbol has) in
      let writing : SymbolWriting = found.0 in
      let kept = filter_contains to writings writing found.1 in
      let image = map_contains (λ (cell : ColId × Symbol). cell.1) (filter here writing.cells) symbol found.2 in
      let cell = filter_contains here writing.cells image.0 image.1 in
      let number = (Decides-eqb image.0.0.index col.index).0 cell.1 in
      let same : image.0 ≡ (col, symbol) = λ k. (record { index = number k }, image.2 k) in
      let P : ColId × Symbol → Type 0 = λ one. Contains writing.cells one in
      record { writing = writing; is_writing = kept.0; to_table = table_told writing.table t kept.1; has_cell = subst P same cell.0 }

  -- and the other way
  pub written_listed : (symbol : Symbol) → IsWrittenSymbol writings t col symbol → Contains (cell_symbols writings t col) symbol
  written_listed symbol by =
      let among : Contains (filter to writings) by.writing = contains_filter to writings by.writing by.is_writing
      ((Decides-eqb by.writing.table.index t.index).1 (ap (λ (u : TableId). u.index) by.to_table)) in
      let cell : Contains (filter here by.writing.cells) (col, symbol) = contains_filter here by.writing.cells (col, symbol) by.has_cell
      ((Decides-eqb col.index col.index).1 refl) in
      contains_firsts same_symbol Decides-symbol all symbol
      (contains_flat_map (λ (writing : SymbolWriting). symbols_in col writing.cells) (filter to writings) by.writing symbol among
      (contains_map (λ (one : ColId × Symbol). one.1) (filter here by.writing.cells) (col, symbol) cell))

  pub cell_apart : AllPairs (λ one two. one ≢ two) (cell_symbols writings t col)
  cell_apart = firsts_apart same_symbol Decides-symbol all

module _ (store : StoreModel) (writings : List SymbolWriting) where
  -- a row of the pattern
  pub record RowOf (row : PatternRow) : Type 0 where
    pub t : TableId
    pub table : Table
    pub is_table : At store.tables t.index table
    pub written : is_written writings t ≡ true
    pub is : row ≡ pattern_row writings t table

  pub row_of : (row : PatternRow) → Contains (pattern_by store writings).rows row → RowOf row
  row_of row has =
      let found = member_of_flat_map (λ (placed : ℕ × Table). rows_at writings (record { index = placed.0 }) placed.1) (enumerate_from 0 store.tables) row has in
      by (record { index = found.0.0 }) found.0.1 (enumerated_at store.tables found.0 found.1) (is_written writings (record { index = found.0.0 })) refl found.2
    where
      by : (t : TableId) (table : Table) → At store.tables t.index table → (b : Bool) → is_written writings t ≡ b
          → Contains (if b then pattern_row writings t table ∷ [] else []) row → RowOf row
      by t table is_table true told this = ⊎_elim
          (λ (is : row ≡ pattern_row writings t table). record { t = t; table = table; is_table = is_table; written = told; is = is })
          (λ (none : Contains [] row). absurd (none_in_nil row none))
          (member_cases (pattern_row writings t table) [] row this)
      by t table is_table false told this = absurd (none_in_nil row this)

  -- a cell of the row of a written table
  pub record CellOf (t : TableId) (col : ColId) (cell : List Symbol) : Type 0 where
    pub table : Table
    pub is_table : At store.tables t.index table
    pub column : Column
    pub is_column : At table.cols col.index column
    pub written : is_written writings t ≡ true
    pub is : cell ≡ cell_symbols writings t col

  -- what stands in a row of the table
  pub cell_at : (t : TableId) (table : Table) (col : ColId) (column : Column) → At table.cols col.index column
      → At (pattern_row writings t table).cells col.index (cell_symbols writings t col)
  cell_at t table col column here =
      let f : ℕ × Column → List Symbol = λ placed. cell_symbols writings t (record { index = placed.0 }) in
      slice_get-map f (enumerate_from 0 table.cols) col.index ∙ ap (option_map f) (numbered_at table.cols col.index column here)

  pub cell_of_row : (row : PatternRow) → (of : RowOf row) → (col : ColId) (cell : List Symbol) → At row.cells col.index cell → CellOf of.t col cell
  cell_of_row row of col cell at =
      let f : ℕ × Column → List Symbol = λ placed. cell_symbols writings of.t (record { index = placed.0 }) in
      let P : PatternRow → Type 0 = λ one. At one.cells col.index cell in
      let here : At (pattern_row writings of.t of.table).cells col.index cell = subst P of.is at in
      let within = slice_get_within (map f (enumerate_from 0 of.table.cols)) col.index cell here in
      let long : length (map f (enumerate_from 0 of.table.cols)) ≡ length of.table.cols = length-map (enumerate_from 0 of.table.cols) f ∙ length-enumerate_from 0 of.table.cols in
      let found = item_at of.table.cols col.index (subst (λ n. col.index < n) long within) in
      record {
        table = of.table;
        is_table = of.is_table;
        column = found.0;
        is_column = found.1;
        written = of.written;
        is = same_Some cell (cell_symbols writings of.t col) (sym here ∙ cell_at of.t of.table col found.0 found.1);
      }

  pub cell_of : (t : TableId) (col : ColId) (cell : List Symbol) → HasCell (pattern_by store writings) t col cell → CellOf t col cell
  cell_of t col cell has =
      let of = row_of has.row has.is_row in
      let same : of.t ≡ t = ap (λ (row : PatternRow). row.table) (sym of.is) ∙ has.of_table in
      let P : TableId → Type 0 = λ u. CellOf u col cell in
      subst P same (cell_of_row has.row of col cell has.is_cell)

  -- a writing to the table
  pub writing_to : (t : TableId) → is_written writings t ≡ true → (writing : SymbolWriting) × Contains writings writing × (writing.table ≡ t)
  writing_to t told =
      let Here : SymbolWriting → Type 0 = λ writing. writing.table.index == t.index ≡ true in
      let found = of_any Here writings (Any-from_list_any (λ (writing : SymbolWriting). writing.table.index == t.index) writings told) in
      (found.0, found.1, table_told found.0.table t found.2)
