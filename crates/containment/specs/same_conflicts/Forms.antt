-- What is certain of the rows that entities of a region write.
-- Source: this project's.
use Rattle.std.specs.Prelude.{ℕ, List, ◌<◌, length, map, if◌then◌else◌}
use Rattle.std.specs.List.{enumerate_from}
use Rattle.std.specs.declared.cmp.Ordering.{Ordering}
use Rattle.round_trip.specs.Words.{TableId, StoreModel}
use Rattle.round_trip.specs.soundness.mappings.Joined.{col}
use Rattle.round_trip.specs.soundness.Stores.{IsColId}
use Rattle.condition_logic.specs.declared.atoms.AtomOf.{AtomOf}
use Rattle.regions.specs.declared.region.Region.{Region}
use Rattle.regions.specs.declared.pattern.Symbol.{Symbol}
use Rattle.regions.specs.declared.pattern.PatternRow.{PatternRow}
use Rattle.regions.specs.declared.pattern.Focus.TheVariants as focus
use Rattle.regions.specs.Basis.{Basis}
use Rattle.regions.specs.Patterns.{pattern_of}
use Rattle.regions.specs.Settled.{Settled, known, free, settle}
use Rattle.containment.specs.declared.same_conflicts.forms.Form.{Form}
use Rattle.containment.specs.declared.same_conflicts.forms.RowForm.{RowForm}
use Rattle.containment.specs.declared.same_conflicts.forms.Held.{Held}
use Rattle.containment.specs.declared.same_conflicts.forms.Held.TheVariants.{Unsure, Known, Several}
use Rattle.containment.specs.contracts.same_conflicts.forms.FormOrd.TheImpl as form_ord

-- the order of forms
abbrev pub form_cmp : Form → Form → Ordering
form_cmp = (form_ord.ghosts).cmp

-- each cell of the row stands in a column of its table
abbrev pub HasColumns : StoreModel → PatternRow → Type 0
HasColumns store row = (i : ℕ) → i < length row.cells → IsColId store row.table (record { index = i })

-- what is certain of a cell of a tested column
abbrev pub held : Settled → Held
held (known value) = Known value
held (free one nullable) = Several

-- a row by its table and its cells, and a form by its numbers and its rows
abbrev pub shown_row : RowForm → ℕ × List Held
shown_row form = (form.table, form.cells.items)

abbrev pub shown_form : Form → List ℕ × List (ℕ × List Held)
shown_form form = (form.linked.items, map shown_row form.rows.items)

module _ (basis : Basis) where
  -- what is certain of a cell; of a column that isn't tested nothing is
  abbrev pub held_at : TableId → List AtomOf → ℕ × List Symbol → Held
  held_at t atoms placed = if basis.tested (col t (record { index = placed.0 })) then held (settle basis.schema.model atoms placed.1) else Unsure

  -- what is certain of a row
  abbrev pub row_form : List AtomOf → PatternRow → ℕ × List Held
  row_form atoms row = (row.table.index, map (held_at row.table atoms) (enumerate_from 0 row.cells))

  -- what is certain of a region
  abbrev pub form_of : Region → List ℕ × List (ℕ × List Held)
  form_of region = (map (λ assoc. assoc.index) region.linked, map (row_form region.atoms) (pattern_of basis (focus.Entity region)).rows)
