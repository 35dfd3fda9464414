-- Nulls of a region or a link by the rows of its pattern, by the columns of a row, and by the symbols of a cell.
use Rattle.std.proofs.Common.{◌≡◌, ◌≢◌, ◌&&◌, ◌+◌, ◌<◌, ℕ, ⊎_elim, List, [], ◌∷◌, slice_get, All, Contains, find, None, Option, Some, Bool, not, true, false, true≢false, IsTrue, refl, sym, ap, subst, ◌∙◌, arith}
use Rattle.std.specs.Option.{option_map_or}
use Rattle.std.proofs.lemmas.Bool.{and_from, and_parts, cases_eq, false_from_ne_true}
use Rattle.std.proofs.lemmas.List.Elements.{All-contains}
use Rattle.std.proofs.lemmas.Option.{none-some}
use Rattle.round_trip.specs.Words.{ColId, Column, Table, TableId}
use Rattle.regions.specs.Basis.{Basis}
use Rattle.regions.specs.Patterns.{pattern_of}
use Rattle.regions.specs.Settled.{possible}
use Rattle.regions.specs.Shown.{cell_in}
use Rattle.regions.specs.declared.pattern.Focus.{Focus}
use Rattle.regions.specs.declared.pattern.PatternRow.{PatternRow}
use Rattle.regions.specs.declared.pattern.Symbol.{Symbol}
use Rattle.regions.specs.region_laws.pattern.Allowed.{told_of}
use Rattle.regions.proofs.region_laws.pattern.Choices.{found_passes, none_passes}
use Rattle.region_states.specs.conflicts.Facts.{can_be_null, has_row, is_null_in, is_required, listed_in, lists, stands_for_null}
use Rattle.conflict_laws.proofs.clash.Listed.{Decides-lists}
use Rattle.conflict_laws.proofs.null.Listed.{Decides-row}
use Rattle.containment.specs.Cells.{HasNoGap, lacks}
use Rattle.containment.proofs.Listed.{listed_row}

module _ (basis : Basis) (of : Focus) where
  abbrev is_nullable : Symbol → Bool
  is_nullable one = can_be_null (possible basis.schema.model (told_of of) one)

  abbrev stands : List Symbol → Symbol → Bool
  stands cell one = stands_for_null basis of cell one

  -- a symbol that can be null
  pub symbol_stands : (cell : List Symbol) (one : Symbol) → find is_nullable cell ≡ Some one → IsTrue (stands cell one)
  symbol_stands [] one is = absurd (none-some one is)
  symbol_stands (first ∷ others) one is =
      let found = found_passes is_nullable (first ∷ others) one is in
      and_from (lists (first ∷ others) one) (is_nullable one) ((Decides-lists (first ∷ others) one).1 found.0) found.1

  -- where symbols are listed and none can be null
  pub none_stands : (cell : List Symbol) → cell ≢ [] → find is_nullable cell ≡ None → (one : Symbol) → stands cell one ≡ false
  none_stands [] some none one = absurd (some refl)
  none_stands (first ∷ others) some none one = false_from_ne_true (stands (first ∷ others) one) (λ told.
      let parts = and_parts (lists (first ∷ others) one) (is_nullable one) told in
      none_passes is_nullable (first ∷ others) one none ((Decides-lists (first ∷ others) one).0 parts.0) parts.1)

  -- a symbol that stands for null in a column that isn't nullable
  pub lack_there : (row : PatternRow) (col : ColId) (one : Symbol) (table : Table) (column : Column) → slice_get basis.schema.store.tables row.table.index ≡ Some table
      → slice_get table.cols col.index ≡ Some column → column.nullable ≡ false → IsTrue (stands (cell_in row col) one) → IsTrue (lacks basis of row col one)
  lack_there row col one table column is_table is_column plain told =
      let required : is_required basis.schema.store row.table col ≡ true =
      ap (λ (found : Option Table). option_map_or (λ held. option_map_or (λ entry. not entry.nullable) (slice_get held.cols col.index) false) found false) is_table
      ∙ ap (λ (found : Option Column). option_map_or (λ entry. not entry.nullable) found false) is_column ∙ ap not plain in
      and_from (is_required basis.schema.store row.table col) (stands (cell_in row col) one) required told

  -- with one more column, in which no symbol stands for null
  pub none_further : (row : PatternRow) (i : ℕ) → ((col : ColId) (one : Symbol) → col.index < i → lacks basis of row col one ≡ false)
      → ((one : Symbol) → stands (cell_in row (record { index = i })) one ≡ false) → (col : ColId) (one : Symbol) → col.index < i + 1 → lacks basis of row col one ≡ false
  none_further row i so_far none col one below = ⊎_elim
      (λ (last : col.index ≡ i).
      let same : col ≡ record { index = i } = λ k. record { index = last k } in
      false_from_ne_true (lacks basis of row col one) (λ told.
      let stood = (and_parts (is_required basis.schema.store row.table col) (stands (cell_in row col) one) told).1 in
      let never : stands (cell_in row col) one ≡ false = subst (λ (at : ColId). stands (cell_in row at) one ≡ false) (sym same) (none one) in
      true≢false (sym stood ∙ never)))
      (λ (before : col.index ≢ i). so_far col one (omega (arith, below, before)))
      (cases_eq col.index i)

  abbrev rows : List PatternRow
  rows = (pattern_of basis of).rows

  -- a null in a row of the pattern
  pub null_told : (row : PatternRow) → Contains rows row → (t : TableId) (col : ColId) (one : Symbol) → row.table ≡ t → IsTrue (lacks basis of row col one)
      → IsTrue (is_null_in basis of t col one)
  null_told row has t col one of_table lack =
      let required = is_required basis.schema.store row.table col in
      let parts = and_parts required (stands (cell_in row col) one) lack in
      let P : TableId → Type 0 = λ u. IsTrue (is_null_in basis of u col one) in
      let Q : List Symbol → Type 0 = λ cell. IsTrue (stands cell one) in
      subst P of_table
      (and_from (has_row (pattern_of basis of) row.table && required) (stands (listed_in (pattern_of basis of) row.table col) one)
      (and_from (has_row (pattern_of basis of) row.table) required ((Decides-row (pattern_of basis of) row.table).1 (row, has, refl)) parts.0)
      (subst Q (sym (listed_row basis of row has col)) parts.1))

  -- where no row has a null there is none
  pub null_none : All (HasNoGap basis of) rows → (t : TableId) (col : ColId) (one : Symbol) → is_null_in basis of t col one ≡ false
  null_none none t col one = false_from_ne_true (is_null_in basis of t col one) (λ told.
      let pattern = pattern_of basis of in
      let there = (Decides-row pattern t).0
      (and_parts (has_row pattern t) (is_required basis.schema.store t col)
      (and_parts (has_row pattern t && is_required basis.schema.store t col) (stands (listed_in pattern t col) one) told).0).0 in
      let row = there.0 in
      let P : TableId → Type 0 = λ u. IsTrue (is_null_in basis of u col one) in
      let here : P row.table = subst P (sym there.2) told in
      let parts = and_parts (has_row pattern row.table && is_required basis.schema.store row.table col) (stands (listed_in pattern row.table col) one) here in
      let Q : List Symbol → Type 0 = λ cell. IsTrue (stands cell one) in
      true≢false (sym (and_from (is_required basis.schema.store row.table col) (stands (cell_in row col) one)
      (and_parts (has_row pattern row.table) (is_required basis.schema.store row.table col) parts.0).1
      (subst Q (listed_row basis of row there.1 col) parts.1))
      ∙ All-contains (HasNoGap basis of) rows row none there.1 col one))
