-- What a conflict lists in a cell is what the pattern lists there.
use Rattle.std.proofs.Common.{◌≡◌, ◌==◌, ◌<◌, ℕ, List, [], find, slice_get, unwrap_or, Contains, Option, Some, None, Decides, AllPairs, refl, sym, ap, subst, ◌∙◌, arith}
use Rattle.std.specs.Option.{option_map_or}
use Rattle.std.proofs.lemmas.Bool.Decides.{Decides-eqb, Decides-like}
use Rattle.round_trip.specs.Words.{TableId, ColId}
use Rattle.schema_laws.proofs.state_demand.lists.Lists.{Decides-any, any_of, none_in_nil, of_any, same_by_key}
use Rattle.regions.specs.declared.pattern.Symbol.{Symbol}
use Rattle.regions.specs.declared.pattern.PatternRow.{PatternRow}
use Rattle.regions.specs.declared.pattern.Focus.{Focus}
use Rattle.regions.specs.Basis.{Basis}
use Rattle.regions.specs.Patterns.{pattern_of, writings_of}
use Rattle.regions.specs.Shown.{cell_in}
use Rattle.regions.specs.Symbols.{same_symbol}
use Rattle.regions.proofs.region_laws.writings.Rows.{rows_order}
use Rattle.regions.proofs.region_laws.values.Symbols.{Decides-symbol}
use Rattle.regions.specs.region_laws.pattern.Listed.{HasCell, Lists}
use Rattle.regions.proofs.region_laws.pattern.Choices.{found_passes}
use Rattle.region_states.specs.conflicts.Facts.{listed_in, lists}
use Rattle.conflict_laws.proofs.clash.Found.{found_only}

-- whether a symbol is listed
pub Decides-lists : (cell : List Symbol) (one : Symbol) → Decides (lists cell one) (Contains cell one)
Decides-lists cell one = Decides-like (lists cell one)
    (λ any. let found = of_any (λ other. other ≡ one) cell any in subst (Contains cell) found.2 found.1)
    (λ has. any_of (λ other. other ≡ one) cell one has refl)
    (Decides-any (λ other. same_symbol other one) (λ other. other ≡ one) (λ other. Decides-symbol other one) cell)

-- whether a table is this one
Decides-table : (t u : TableId) → Decides (t.index == u.index) (t ≡ u)
Decides-table t u = Decides-like (t.index == u.index) (λ same i. record { index = same i }) (λ same. ap (λ (one : TableId). one.index) same) (Decides-eqb t.index u.index)

module _ (basis : Basis) (of : Focus) (t : TableId) where
  abbrev rows : List PatternRow
  rows = (pattern_of basis of).rows

  -- no two rows are of one table
  one_row : (row other : PatternRow) → Contains rows row → Contains rows other → row.table ≡ other.table → row ≡ other
  one_row row other has_row has_other same =
      let number : PatternRow → ℕ = λ one. one.table.index in
      let order : AllPairs (λ (one next : PatternRow). one.table.index < next.table.index) rows = rows_order basis.schema.store (writings_of basis of) in
      same_by_key number rows row other (λ i j d below within alike. let less = order i j d below within in absurd (omega (arith, less, alike))) has_row has_other
      (ap (λ (u : TableId). u.index) same)

  -- the row of a table is found by the table
  pub found_row : (row : PatternRow) → Contains rows row → row.table ≡ t → find (λ (one : PatternRow). one.table.index == t.index) rows ≡ Some row
  found_row row has of_table = found_only (λ (one : PatternRow). one.table.index == t.index) rows row has ((Decides-table row.table t).1 of_table)
      (λ other has_other passes. one_row other row has_other has ((Decides-table other.table t).0 passes ∙ sym of_table))

  module _ (c : ColId) where
    -- where a cell is in the pattern, it is the one in which a conflict looks
    pub cell_is : (cell : List Symbol) → HasCell (pattern_of basis of) t c cell → listed_in (pattern_of basis of) t c ≡ cell
    cell_is cell has =
        ap (λ found. option_map_or (λ row. cell_in row c) found []) (found_row has.row has.is_row has.of_table)
        ∙ ap (λ found. unwrap_or found []) has.is_cell

    -- what is listed there stands in a cell of the pattern
    lists_there : (one : Symbol) → Contains (listed_in (pattern_of basis of) t c) one → Lists (pattern_of basis of) t c one
    lists_there one listed = by (find (λ (row : PatternRow). row.table.index == t.index) rows) refl listed
      where
        in_row : (row : PatternRow) → Contains rows row → row.table ≡ t → (found : Option (List Symbol)) → slice_get row.cells c.index ≡ found
            → Contains (unwrap_or found []) one → Lists (pattern_of basis of) t c one
        in_row row has of_table None none there = absurd (none_in_nil one there)
        in_row row has of_table (Some cell) here there = (cell, record { row = row; is_row = has; of_table = of_table; is_cell = here }, there)

        by : (found : Option PatternRow) → find (λ (row : PatternRow). row.table.index == t.index) rows ≡ found
            → Contains (option_map_or (λ row. cell_in row c) found []) one → Lists (pattern_of basis of) t c one
        by None none there = absurd (none_in_nil one there)
        by (Some row) found there =
            let passes = found_passes (λ (other : PatternRow). other.table.index == t.index) rows row found in
            in_row row passes.0 ((Decides-table row.table t).0 passes.1) (slice_get row.cells c.index) refl there

    -- a symbol is listed where the pattern lists it
    pub Decides-listed : (one : Symbol) → Decides (lists (listed_in (pattern_of basis of) t c) one) (Lists (pattern_of basis of) t c one)
    Decides-listed one = Decides-like (lists (listed_in (pattern_of basis of) t c) one)
        (lists_there one)
        (λ (there : Lists (pattern_of basis of) t c one). subst (λ cell. Contains cell one) (sym (cell_is there.0 there.1)) there.2)
        (Decides-lists (listed_in (pattern_of basis of) t c) one)
