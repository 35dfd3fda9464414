-- Patterns match where they have rows of the same tables, and the cells of these can hold the same.
use Rattle.std.proofs.Common.{◌≡◌, ◌↔◌, ℕ, ◌==◌, List, [], find, length, unwrap_or, Contains, Bool, Option, Some, None, true, refl, sym, ap, subst, ◌∙◌, arith}
use Rattle.std.specs.List.{enumerate_from}
use Rattle.std.specs.Option.{option_map_or}
use Rattle.std.proofs.lemmas.Bool.{and_from, and_parts}
use Rattle.std.proofs.lemmas.Bool.Decides.{Decides-eqb}
use Rattle.std.proofs.lemmas.List.{length-map}
use Rattle.std.proofs.lemmas.List.FromFn.{length-enumerate_from}
use Rattle.emc_base.proofs.Lists.{at_once}
use Rattle.edm_types.proofs.Lookups.{same_table}
use Rattle.round_trip.specs.Words.{TableId, ColId, Column, StoreModel, Table, At}
use Rattle.schema_laws.proofs.state_demand.lists.Lists.{same_by_key}
use Rattle.regions.specs.declared.region.Region.{Region}
use Rattle.regions.specs.declared.pattern.Symbol.{Symbol}
use Rattle.regions.specs.declared.pattern.Pattern.{Pattern}
use Rattle.regions.specs.declared.pattern.PatternRow.{PatternRow}
use Rattle.regions.specs.declared.pattern.Focus.TheVariants as focus
use Rattle.regions.specs.Basis.{Basis}
use Rattle.regions.specs.Patterns.{cell_symbols, pattern_by, pattern_of}
use Rattle.regions.specs.Settled.{settle}
use Rattle.regions.specs.Shown.{cell_in}
use Rattle.regions.specs.Symbols.{SymbolWriting, region_writings}
use Rattle.regions.specs.region_laws.IsBasis.{IsBasis}
use Rattle.regions.proofs.region_laws.writings.Rows.{row_cells, rows_all, rows_only, rows_order}
use Rattle.regions.specs.region_laws.pattern.Listed.{HasCell}
use Rattle.regions.proofs.region_laws.pattern.Cells.{cell_of as made_cell}
use Rattle.regions.proofs.region_laws.pattern.Choices.{found_passes, none_passes}
use Rattle.region_states.specs.focus.Held.{HasRow}
use Rattle.region_states.proofs.focus.Listed.{has_row}
use Rattle.region_states.specs.conflicts.Facts.{listed_in}
use Rattle.region_states.specs.conflicts.SameFacts.{are_compatible, match_all, rows_match, settled_cells}
use Rattle.conflict_laws.specs.rival.Alike.{PatternsMatch}
use Rattle.conflict_laws.proofs.rival.Clear.{compatible_back}
use Rattle.conflict_laws.proofs.rival.Matching.{keys_match, match_at, match_back, match_by_key, match_there, places_match}

abbrev number : PatternRow → ℕ
number row = row.table.index

module _ (store : StoreModel) (writings : List SymbolWriting) where
  -- a row is of a table of the store, and has a cell for each column
  pub row_table : (row : PatternRow) → Contains (pattern_by store writings).rows row
      → (table : Table) × At store.tables row.table.index table × (length row.cells ≡ length table.cols)
  row_table row has =
      let found = rows_only store writings row has in
      let table : Table = found.1 in
      let f : ℕ × Column → List Symbol = λ placed. cell_symbols writings found.0 (record { index = placed.0 }) in
      let Here : TableId → Type 0 = λ t. At store.tables t.index table in (
        table,
        subst Here (ap (λ (one : PatternRow). one.table) (sym found.4)) found.2,
        ap (λ (one : PatternRow). length one.cells) found.4 ∙ length-map (enumerate_from 0 table.cols) f ∙ length-enumerate_from 0 table.cols,
      )

  -- rows of one table are one
  one_row : (row other : PatternRow) → Contains (pattern_by store writings).rows row → Contains (pattern_by store writings).rows other → number row ≡ number other → row ≡ other
  one_row row other has has_other same =
      let rises = rows_order store writings in
      same_by_key number (pattern_by store writings).rows row other (λ i j d below within alike. (let less = rises i j d below within in absurd (omega (arith, less, alike))))
      has has_other same

-- what is so where patterns match
pub record AreMatched (basis : Basis) (one two : Region) : Type 0 where
  pub rows : (t : TableId) → HasRow (pattern_of basis (focus.Entity one)) t ↔ HasRow (pattern_of basis (focus.Entity two)) t
  pub cells : (t : TableId) (c : ColId) (cell other : List Symbol) → HasCell (pattern_of basis (focus.Entity one)) t c cell
      → HasCell (pattern_of basis (focus.Entity two)) t c other
      → are_compatible (settle basis.schema.model one.atoms cell) (settle basis.schema.model two.atoms other) ≡ true

-- the same of the two the other way
pub matched_back : (basis : Basis) (one two : Region) → AreMatched basis one two → AreMatched basis two one
matched_back basis one two matched = record {
  rows = λ t. ((matched.rows t).1, (matched.rows t).0);
  cells = λ t c cell other has has_other. compatible_back (settle basis.schema.model one.atoms other) (settle basis.schema.model two.atoms cell)
      (matched.cells t c other cell has_other has);
}

module _ (basis : Basis) (one two : Region) where
  abbrev ones : List PatternRow
  ones = (pattern_of basis (focus.Entity one)).rows

  abbrev twos : List PatternRow
  twos = (pattern_of basis (focus.Entity two)).rows

  abbrev matching : PatternRow → PatternRow → Bool
  matching = rows_match basis one.atoms two.atoms

  abbrev CellsMatch : PatternRow → PatternRow → Type 0
  CellsMatch row other = match_all are_compatible (settled_cells basis one.atoms row) (settled_cells basis two.atoms other) ≡ true

  -- rows that match are of one table, and their cells match
  row_parts : (row other : PatternRow) → matching row other ≡ true → (number row ≡ number other) × CellsMatch row other
  row_parts row other told =
      let both = and_parts (number row == number other) (match_all are_compatible (settled_cells basis one.atoms row) (settled_cells basis two.atoms other)) told in
      ((Decides-eqb (number row) (number other)).0 both.0, both.1)

  -- where the lists of rows match
  pub are_matched : PatternsMatch basis one two → AreMatched basis one two
  are_matched told = record {
    rows = λ t. (
      λ has. (let found = match_there matching ones twos told has.0 has.1 in
          (found.0, found.1, sym (same_table has.0.table found.0.table (row_parts has.0 found.0 found.2).0) ∙ has.2)),
      λ has. (let found = match_back matching ones twos told has.0 has.1 in
          (found.0, found.1, same_table found.0.table has.0.table (row_parts found.0 has.0 found.2).0 ∙ has.2)),
    );
    cells = λ t c cell other has has_other.
        (let same : number has.row ≡ number has_other.row = ap (λ (u : TableId). u.index) (has.of_table ∙ sym has_other.of_table) in
        let row = match_by_key matching number (λ row other so. (row_parts row other so).0) ones twos (rows_order basis.schema.store (region_writings basis one))
        (rows_order basis.schema.store (region_writings basis two)) told has.row has_other.row has.is_row has_other.is_row same in
        match_at are_compatible (settle basis.schema.model one.atoms) (settle basis.schema.model two.atoms) has.row.cells has_other.row.cells
        (row_parts has.row has_other.row row).1 c.index cell other has.is_cell has_other.is_cell);
  }

  module _ (matched : AreMatched basis one two) where
    -- and the other way: rows of one table have as many cells
    cells_match : (row other : PatternRow) → Contains ones row → Contains twos other → number row ≡ number other → CellsMatch row other
    cells_match row other has has_other same =
        let table = row_table basis.schema.store (region_writings basis one) row has in
        let table_too = row_table basis.schema.store (region_writings basis two) other has_other in
        let is_table : table.0 ≡ table_too.0 = at_once basis.schema.store.tables (number other) table.0 table_too.0
        (subst (λ n. At basis.schema.store.tables n table.0) same table.1) table_too.1 in
        places_match are_compatible (settle basis.schema.model one.atoms) (settle basis.schema.model two.atoms) row.cells other.cells
        (table.2 ∙ ap (λ (found : Table). length found.cols) is_table ∙ sym table_too.2)
        (λ i cell cell_too at at_too. matched.cells row.table (record { index = i }) cell cell_too
        (record { row = row; is_row = has; of_table = refl; is_cell = at })
        (record { row = other; is_row = has_other; of_table = sym (same_table row.table other.table same); is_cell = at_too }))

    -- so the lists of rows match
    pub patterns_match : PatternsMatch basis one two
    patterns_match = keys_match matching number ones twos (rows_order basis.schema.store (region_writings basis one)) (rows_order basis.schema.store (region_writings basis two))
        (λ row has. let found = (matched.rows row.table).0 (row, has, refl) in (found.0, found.1, ap (λ (u : TableId). u.index) (sym found.2)))
        (λ row has. let found = (matched.rows row.table).1 (row, has, refl) in (found.0, found.1, ap (λ (u : TableId). u.index) found.2))
        (λ row other has has_other same. and_from (number row == number other)
        (match_all are_compatible (settled_cells basis one.atoms row) (settled_cells basis two.atoms other))
        ((Decides-eqb (number row) (number other)).1 same) (cells_match row other has has_other same))

module _ (basis : Basis) (region : Region) (t : TableId) (c : ColId) where
  abbrev the_pattern : Pattern
  the_pattern = pattern_of basis (focus.Entity region)

  -- what is listed in a column of a row is its cell
  pub listed_is : (cell : List Symbol) → HasCell the_pattern t c cell → listed_in the_pattern t c ≡ cell
  listed_is cell has = by (find (λ (row : PatternRow). row.table.index == t.index) the_pattern.rows) refl
    where
      here : has.row.table.index == t.index ≡ true
      here = (Decides-eqb has.row.table.index t.index).1 (ap (λ (u : TableId). u.index) has.of_table)

      by : (found : Option PatternRow) → find (λ (row : PatternRow). row.table.index == t.index) the_pattern.rows ≡ found
          → option_map_or (λ row. cell_in row c) found [] ≡ cell
      by None none = absurd (none_passes (λ (row : PatternRow). row.table.index == t.index) the_pattern.rows has.row none has.is_row here)
      by (Some row) found =
          let passes = found_passes (λ (row : PatternRow). row.table.index == t.index) the_pattern.rows row found in
          let same : number row ≡ number has.row = (Decides-eqb row.table.index t.index).0 passes.1 ∙ sym (ap (λ (u : TableId). u.index) has.of_table) in
          let is_row = one_row basis.schema.store (region_writings basis region) row has.row passes.0 has.is_row same in
          ap (λ (one : PatternRow). cell_in one c) is_row ∙ ap (λ one. unwrap_or one []) has.is_cell

  -- where one pattern has a cell, another that has a row of the table has one too
  pub cell_there : IsBasis basis → (other : Region) (cell : List Symbol) → HasCell (pattern_of basis (focus.Entity other)) t c cell → HasRow the_pattern t
      → HasCell the_pattern t c (cell_symbols (region_writings basis region) t c)
  cell_there is other cell has there =
      let writings : List SymbolWriting = region_writings basis region in
      let made = made_cell basis.schema.store (region_writings basis other) t c cell has in
      record {
        row = _;
        is_row = rows_all basis.schema.store writings t made.table made.is_table ((has_row basis is (focus.Entity region) t).1 there);
        of_table = refl;
        is_cell = row_cells basis.schema.store writings t made.table c made.column made.is_column;
      }
