-- Clashes of a region or a link by the rows of its pattern, and by the symbols of a cell.
use Rattle.std.proofs.Common.{◌≡◌, ◌&&◌, ◌+◌, ◌<◌, ◌≤◌, ⊎_elim, arith, ℕ, List, [], length, slice_get, All, Contains, find, None, Option, Some, false, IsTrue, unwrap_or, refl, sym, ap, subst, ◌∙◌}
use Rattle.std.proofs.lemmas.Bool.{and_from, and_parts, cases_lt, false_from_ne_true}
use Rattle.std.proofs.lemmas.Option.{slice_get_past}
use Rattle.std.proofs.lemmas.List.Elements.{All-contains}
use Rattle.round_trip.specs.Words.{ColId, EntityModel, TableId}
use Rattle.condition_logic.specs.declared.atoms.AtomOf.{AtomOf}
use Rattle.regions.specs.Basis.{Basis}
use Rattle.regions.specs.Patterns.{pattern_of}
use Rattle.regions.specs.Settled.{clashes}
use Rattle.regions.specs.Shown.{cell_in}
use Rattle.regions.specs.declared.pattern.Focus.{Focus}
use Rattle.regions.specs.declared.pattern.PatternRow.{PatternRow}
use Rattle.regions.specs.declared.pattern.Symbol.{Symbol}
use Rattle.regions.specs.region_laws.pattern.Allowed.{told_of}
use Rattle.regions.proofs.region_laws.pattern.Choices.{found_passes, none_passes}
use Rattle.region_states.specs.conflicts.Facts.{is_clash, lists}
use Rattle.conflict_laws.proofs.clash.Listed.{Decides-lists}
use Rattle.containment.specs.Cells.{HasNoClash, are_apart}
use Rattle.containment.proofs.Listed.{listed_by, listed_row}

module _ (model : EntityModel) (atoms : List AtomOf) (cell : List Symbol) where
  -- two symbols that are found
  pub both_apart : (one two : Symbol) → Contains cell one → find (clashes model atoms one) cell ≡ Some two → IsTrue (are_apart model atoms cell one two)
  both_apart one two has is =
      let found = found_passes (clashes model atoms one) cell two is in
      and_from (lists cell one && lists cell two) (clashes model atoms one two)
      (and_from (lists cell one) (lists cell two) ((Decides-lists cell one).1 has) ((Decides-lists cell two).1 found.0)) found.1

  -- where for no symbol another is found, no two clash
  pub none_apart : All (λ one. find (clashes model atoms one) cell ≡ None) cell → (one two : Symbol) → are_apart model atoms cell one two ≡ false
  none_apart none one two = false_from_ne_true (are_apart model atoms cell one two) (λ told.
      let parts = and_parts (lists cell one && lists cell two) (clashes model atoms one two) told in
      let listed = and_parts (lists cell one) (lists cell two) parts.0 in
      let none_with = All-contains (λ (symbol : Symbol). find (clashes model atoms symbol) cell ≡ None) cell one none ((Decides-lists cell one).0 listed.0) in
      none_passes (clashes model atoms one) cell two none_with ((Decides-lists cell two).0 listed.1) parts.1)

module _ (basis : Basis) (of : Focus) where
  abbrev rows : List PatternRow
  rows = (pattern_of basis of).rows

  -- a clash in a row of the pattern
  pub clash_told : (row : PatternRow) → Contains rows row → (t : TableId) (col : ColId) (one two : Symbol) → row.table ≡ t
      → IsTrue (are_apart basis.schema.model (told_of of) (cell_in row col) one two) → IsTrue (is_clash basis of t col one two)
  clash_told row has t col one two of_table apart =
      let P : TableId → Type 0 = λ u. IsTrue (is_clash basis of u col one two) in
      let Q : List Symbol → Type 0 = λ cell. IsTrue (are_apart basis.schema.model (told_of of) cell one two) in
      subst P of_table (subst Q (sym (listed_row basis of row has col)) apart)

  -- where no row has a clash there is none
  pub clash_none : All (HasNoClash basis.schema.model (told_of of)) rows → (t : TableId) (col : ColId) (one two : Symbol)
      → is_clash basis of t col one two ≡ false
  clash_none none t col one two =
      listed_by basis of t col (λ cell. are_apart basis.schema.model (told_of of) cell one two ≡ false) refl
      (λ row has of_table. All-contains (HasNoClash basis.schema.model (told_of of)) rows row none has col one two)

module _ (model : EntityModel) (atoms : List AtomOf) (row : PatternRow) where
  abbrev NoneBelow : ℕ → Type 0
  NoneBelow n = (col : ColId) (one two : Symbol) → col.index < n → are_apart model atoms (cell_in row col) one two ≡ false

  -- one column more that has no clash
  pub one_more_apart : (i : ℕ) (cell listed : List Symbol) → slice_get row.cells i ≡ Some cell → listed ≡ cell → NoneBelow i
      → ((one two : Symbol) → are_apart model atoms listed one two ≡ false) → NoneBelow (i + 1)
  one_more_apart i cell listed here same before none col one two below = ⊎_elim
      (λ (earlier : col.index < i). before col one two earlier)
      (λ (other : i ≤ col.index).
      let at : i ≡ col.index = omega (arith, below, other) in
      let P : ℕ → Type 0 = λ n. are_apart model atoms (unwrap_or (slice_get row.cells n) []) one two ≡ false in
      let Q : List Symbol → Type 0 = λ symbols. are_apart model atoms symbols one two ≡ false in
      subst P at (subst Q (same ∙ sym (ap (λ (found : Option (List Symbol)). unwrap_or found []) here)) (none one two)))
      (cases_lt col.index i)

  -- past the last column nothing is listed
  pub all_apart : (n : ℕ) → length row.cells ≤ n → NoneBelow n → HasNoClash model atoms row
  all_apart n end below col one two = ⊎_elim
      (λ (inside : col.index < n). below col one two inside)
      (λ (outside : n ≤ col.index).
      let Q : List Symbol → Type 0 = λ symbols. are_apart model atoms symbols one two ≡ false in
      subst Q (sym (ap (λ (found : Option (List Symbol)). unwrap_or found []) (slice_get_past row.cells col.index (omega (arith, end, outside))))) refl)
      (cases_lt col.index n)
