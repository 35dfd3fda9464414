-- The cells of a fresh row in whose free cells stands what a row holds.
use Rattle.std.proofs.Common.{◌≡◌, ◌≤◌, ◌<◌, ◌∙◌, ℕ, List, Bool, true, false, Option, Some, [], ◌∷◌, drop, get_or, length, unwrap_or, slice_get, if◌then◌else◌, ⊎_elim, ap, refl, subst, sym}
use Rattle.std.specs.List.{enumerate_from}
use Rattle.std.proofs.lemmas.Bool.{cases_lt}
use Rattle.std.proofs.lemmas.List.{length-map}
use Rattle.std.proofs.lemmas.List.FromFn.{length-enumerate_from}
use Rattle.std.proofs.lemmas.Option.{slice_get_past}
use Rattle.emc_base.proofs.Joined.{at_map}
use Rattle.emc_base.proofs.Lists.{item_at}
use Rattle.emc_base.proofs.Numbered.{numbered_at}
use Rattle.round_trip.specs.Words.{ColId, Null, Row, Value, cell_of, cells_of}
use Rattle.delta_plan.specs.Keeping.{kept_cell, kept_cells}

-- the cells of a key, where each is that of the one row or of the other, and both rows have one key
pub same_cells : (key : List ColId) (is_free : ColId → Bool) (one two kept : Row) → cells_of one key ≡ cells_of two key
    → ((col : ColId) → is_free col ≡ true → cell_of kept col ≡ cell_of one col) → ((col : ColId) → is_free col ≡ false → cell_of kept col ≡ cell_of two col)
    → cells_of kept key ≡ cells_of two key
same_cells [] is_free one two kept same free own = refl
same_cells (col ∷ key) is_free one two kept same free own =
    let first : cell_of kept col ≡ cell_of two col = by (is_free col) refl in
    let rest : cells_of kept key ≡ cells_of two key = same_cells key is_free one two kept (ap (drop 1) same) free own in
    λ i. first i ∷ rest i
  where
    by : (b : Bool) → is_free col ≡ b → cell_of kept col ≡ cell_of two col
    by true is = free col is ∙ ap (λ cells. get_or cells 0 Null) same
    by false is = own col is

module _ (is_free : ColId → Bool) (held fresh : Row) (long : length held.cells ≡ length fresh.cells) where
  abbrev pub kept : Row
  kept = record { cells = kept_cells is_free held fresh.cells }

  pub kept_long : length kept.cells ≡ length fresh.cells
  kept_long = length-map (enumerate_from 0 fresh.cells) (kept_cell is_free held) ∙ length-enumerate_from 0 fresh.cells

  abbrev or_null : Option Value → Value
  or_null found = unwrap_or found Null

  -- beyond the cells there is null
  beyond : (row : Row) (col : ColId) → length row.cells ≤ col.index → cell_of row col ≡ Null
  beyond row col past = ap or_null (slice_get_past row.cells col.index past)

  -- at a cell
  at_cell : (col : ColId) (value : Value) → slice_get fresh.cells col.index ≡ Some value → cell_of kept col ≡ kept_cell is_free held (col.index, value)
  at_cell col value here = ap or_null (at_map (kept_cell is_free held) (enumerate_from 0 fresh.cells) col.index (col.index, value) (numbered_at fresh.cells col.index value here))

  -- a free cell holds what the row holds
  pub free_cell : (col : ColId) → is_free col ≡ true → cell_of kept col ≡ cell_of held col
  free_cell col free = ⊎_elim
      (λ (within : col.index < length fresh.cells). (
      let value = item_at fresh.cells col.index within in
      let cell = item_at held.cells col.index (subst (λ (n : ℕ). col.index < n) (sym long) within) in
      let told : slice_get held.cells col.index ≡ Some cell.0 = cell.1 in
      at_cell col value.0 value.1 ∙ ap (λ (b : Bool). if b then unwrap_or (slice_get held.cells col.index) value.0 else value.0) free
      ∙ ap (λ found. unwrap_or found value.0) told ∙ ap or_null (sym told)))
      (λ (past : length fresh.cells ≤ col.index).
      beyond kept col (subst (λ (n : ℕ). n ≤ col.index) (sym kept_long) past) ∙ sym (beyond held col (subst (λ (n : ℕ). n ≤ col.index) (sym long) past)))
      (cases_lt col.index (length fresh.cells))

  -- another holds what the fresh row holds
  pub own_cell : (col : ColId) → is_free col ≡ false → cell_of kept col ≡ cell_of fresh col
  own_cell col other = ⊎_elim
      (λ (within : col.index < length fresh.cells). (
      let value = item_at fresh.cells col.index within in
      at_cell col value.0 value.1 ∙ ap (λ (b : Bool). if b then unwrap_or (slice_get held.cells col.index) value.0 else value.0) other
      ∙ ap or_null (sym value.1)))
      (λ (past : length fresh.cells ≤ col.index).
      beyond kept col (subst (λ (n : ℕ). n ≤ col.index) (sym kept_long) past) ∙ sym (beyond fresh col past))
      (cases_lt col.index (length fresh.cells))
