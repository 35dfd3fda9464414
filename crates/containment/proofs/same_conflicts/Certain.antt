-- Regions whose rows can hold the same have one form: in a tested column what may have several values is never null.
use Rattle.std.proofs.Common.{◌≡◌, ◌==◌, ⊎_elim, ◌<◌, List, [], ◌∷◌, length, map, if◌then◌else◌, Bool, true, false, Contains, IsTrue, Some, None, refl, sym, ap, subst, ◌∙◌}
use Rattle.std.specs.List.{enumerate_from}
use Rattle.std.specs.Option.{option_map_or}
use Rattle.std.proofs.lemmas.Bool.{and_parts}
use Rattle.std.proofs.lemmas.Bool.Decides.{Decides-eqb}
use Rattle.std.proofs.lemmas.List.FromFn.{length-enumerate_from}
use Rattle.std.proofs.lemmas.Option.{slice_get_within}
use Rattle.emc_base.specs.Lists.{At}
use Rattle.emc_base.proofs.Lists.{item_at}
use Rattle.emc_base.proofs.Mapped.{contains_at}
use Rattle.emc_base.proofs.Numbered.{enumerated_at}
use Rattle.round_trip.specs.Words.{SetId, TableId, ColId, PropId, Null, EntityModel}
use Rattle.round_trip.specs.soundness.mappings.Joined.{IsNoKey, col, prop}
use Rattle.round_trip.specs.soundness.mappings.Joined as joined
use Rattle.round_trip.specs.soundness.Stores.{IsColId}
use Rattle.condition_logic.specs.declared.atoms.Atom.TheVariants as atom
use Rattle.member_groups.proofs.joined_groups.Grouping.{joined_free}
use Rattle.schema_laws.specs.state_demand.Selecting.{same_value}
use Rattle.schema_laws.proofs.state_demand.lists.Lists.{head_stands}
use Rattle.schema_laws.proofs.state_demand.writings.Selecting.{Decides-value}
use Rattle.regions.specs.declared.region.Region.{Region}
use Rattle.regions.specs.declared.pattern.Symbol.{Symbol}
use Rattle.regions.specs.declared.pattern.Symbol.TheVariants as symbol
use Rattle.regions.specs.declared.pattern.PatternRow.{PatternRow}
use Rattle.regions.specs.declared.pattern.Focus.TheVariants as focus
use Rattle.regions.specs.Atoms.{atom_at}
use Rattle.regions.specs.Basis.{Basis}
use Rattle.regions.specs.Patterns.{pattern_of}
use Rattle.regions.specs.Regions.{regions_of}
use Rattle.regions.specs.Settled.{Possible, Settled, free, is_nullable, known, multi, of_atom, possible, settle, settled_by, single}
use Rattle.regions.specs.Symbols.{region_writings}
use Rattle.regions.specs.region_laws.IsBasis.{IsBasis}
use Rattle.symbolic_rows.proofs.Placed.{number_is, same_images}
use Rattle.regions.specs.region_laws.pattern.Listed.{HasCell}
use Rattle.regions.proofs.region_laws.pattern.Cells.{cell_of as made_cell}
use Rattle.regions.proofs.region_laws.pattern.types.Groups.{is_tested, joined_tested, told_tested}
use Rattle.regions.proofs.region_laws.pattern.Laws.{listed_from}
use Rattle.regions.proofs.region_laws.pattern.types.Regions.{atom_there}
use Rattle.regions.proofs.region_laws.pattern.symbols.Standing.{StandsFree, StandsInKey, joined_by, listed_prop, prop_stands}
use Rattle.region_states.specs.conflicts.SameFacts.{are_compatible, match_all, rows_match, settled_cells}
use Rattle.conflict_laws.specs.rival.Alike.{PatternsMatch}
use Rattle.conflict_laws.proofs.rival.Atoms.{open_atom}
use Rattle.containment.specs.same_conflicts.Forms.{HasColumns, form_of, held, held_at, row_form}
use Rattle.containment.specs.declared.same_conflicts.forms.Held.TheVariants.{Unsure, Known}
use Rattle.containment.proofs.same_conflicts.Walked.{images_match, match_mapped, match_place, match_sizes}

module _ (basis : Basis) (region : Region) where
  -- a cell stands in a column of its table
  pub column_there : (t : TableId) (c : ColId) (cell : List Symbol) → HasCell (pattern_of basis (focus.Entity region)) t c cell → IsColId basis.schema.store t c
  column_there t c cell has =
      let made = made_cell basis.schema.store (region_writings basis region) t c cell has in
      subst (λ found. c.index < length (option_map_or (λ entry. entry.cols) found [])) (sym made.is_table) (slice_get_within made.table.cols c.index made.column made.is_column)

  -- and so do all of a row
  pub columns_there : (row : PatternRow) → Contains (pattern_of basis (focus.Entity region)).rows row → HasColumns basis.schema.store row
  columns_there row has i within =
      let cell = item_at row.cells i within in
      column_there row.table (record { index = i }) cell.0 (record { row = row; is_row = has; of_table = refl; is_cell = cell.1 })

module _ (basis : Basis) (is : IsBasis basis) (s : SetId) (region : Region) (has : Contains (regions_of basis s) region) (t : TableId) (c : ColId) (cell : List Symbol)
    (at : HasCell (pattern_of basis (focus.Entity region)) t c cell) (told : IsTrue (basis.tested (col t c))) where
  abbrev model : EntityModel
  model = basis.schema.model

  -- a tested column is none of a primary key
  no_key : IsNoKey basis.schema (col t c)
  no_key = let by = is_tested basis is (col t c) (column_there basis region t c cell at) told in (joined_free basis.schema (col t c) by.0 by.1).0

  -- a property that stands in it is told an atom
  prop_told : (p : PropId) → Contains cell (symbol.Prop p) → atom_at region.atoms p ≡ None → ⊥
  prop_told p listed none =
      let from = listed_from basis is (focus.Entity region) t c (symbol.Prop p) (cell, at, listed) in
      ⊎_elim
      (λ (key : StandsInKey basis t c p). no_key.2 key.key_col)
      (λ (stands : StandsFree basis t c p).
      let tests = is_tested basis is (col t c) (column_there basis region t c cell at) told in
      let joins = joined.back (prop p) (col t c) (joined_by basis t c p stands) in
      let found = atom_there basis is s region has p (listed_prop basis is s region has t c p from)
      (told_tested basis is (prop p) stands.free_prop (joined_tested basis is (col t c) (prop p) joins tests)) in
      let never : None ≡ Some found.0 = sym none ∙ found.1 in
      cc)
      (prop_stands basis is (focus.Entity region) (s, has) t c p from)

  -- so null isn't among several values that it may have
  prop_not_null : (p : PropId) (n : Bool) → Contains cell (symbol.Prop p) → possible model region.atoms (symbol.Prop p) ≡ multi n → n ≡ false
  prop_not_null p n listed several = ⊎_elim
      (λ (none : atom_at region.atoms p ≡ None). absurd (prop_told p listed none))
      (λ (other : atom_at region.atoms p ≡ Some atom.Other).
      let same : multi false ≡ multi n = sym (ap (λ found. option_map_or of_atom found (multi (is_nullable model p))) other) ∙ several in
      cc)
      (open_atom model region.atoms p n several)

  -- nor among those of the cell
  pub not_null : (one : Symbol) (n : Bool) → settle model region.atoms cell ≡ free one n → n ≡ false
  not_null one n settled = by cell refl settled
    where
      by_prop : (p : PropId) → Contains cell (symbol.Prop p) → (can : Possible) → possible model region.atoms (symbol.Prop p) ≡ can → settled_by (symbol.Prop p) can ≡ free one n
          → n ≡ false
      by_prop p listed (single v) can same = cc
      by_prop p listed (multi m) can same = let alike : m ≡ n = cc in prop_not_null p n listed (can ∙ ap multi alike)

      by_first : (first : Symbol) → Contains cell first → settled_by first (possible model region.atoms first) ≡ free one n → n ≡ false
      by_first symbol.Null listed same = cc
      by_first (symbol.Const v) listed same = cc
      by_first (symbol.Prop p) listed same = by_prop p listed (possible model region.atoms (symbol.Prop p)) refl same
      by_first (symbol.End a first p) listed same = cc

      by : (list : List Symbol) → cell ≡ list → settle model region.atoms list ≡ free one n → n ≡ false
      by [] listed same = cc
      by (first ∷ rest) listed same = by_first first (subst (λ list. Contains list first) (sym listed) (head_stands first rest)) same

-- cells that can hold the same hold the same for certain, where what may have several values isn't null
certain_same : (one two : Settled) → ((s : Symbol) (n : Bool) → one ≡ free s n → n ≡ false) → ((s : Symbol) (n : Bool) → two ≡ free s n → n ≡ false)
    → are_compatible one two ≡ true → held one ≡ held two
certain_same (known v) (known w) first second told = ap Known ((Decides-value v w).0 told)
certain_same (known v) (free s n) first second told =
    let parts = and_parts (same_value v Null) n told in
    let never : true ≡ false = sym parts.1 ∙ second s n refl in
    cc
certain_same (free s n) (known w) first second told =
    let parts = and_parts (same_value w Null) n told in
    let never : true ≡ false = sym parts.1 ∙ first s n refl in
    cc
certain_same (free s n) (free r m) first second told = refl

module _ (basis : Basis) (is : IsBasis basis) (s : SetId) (one two : Region) (has_one : Contains (regions_of basis s) one) (has_two : Contains (regions_of basis s) two) where
  abbrev ones : List PatternRow
  ones = (pattern_of basis (focus.Entity one)).rows

  abbrev twos : List PatternRow
  twos = (pattern_of basis (focus.Entity two)).rows

  -- what is certain of two cells of one column
  cells_same : (t : TableId) (c : ColId) (cell faced : List Symbol) → HasCell (pattern_of basis (focus.Entity one)) t c cell → HasCell (pattern_of basis (focus.Entity two)) t c faced
      → are_compatible (settle basis.schema.model one.atoms cell) (settle basis.schema.model two.atoms faced) ≡ true
      → held_at basis t one.atoms (c.index, cell) ≡ held_at basis t two.atoms (c.index, faced)
  cells_same t c cell faced at at_faced told = by (basis.tested (col t c)) refl
    where
      by : (b : Bool) → basis.tested (col t c) ≡ b
          → (if b then held (settle basis.schema.model one.atoms cell) else Unsure) ≡ (if b then held (settle basis.schema.model two.atoms faced) else Unsure)
      by true tested = certain_same (settle basis.schema.model one.atoms cell) (settle basis.schema.model two.atoms faced) (not_null basis is s one has_one t c cell at tested)
          (not_null basis is s two has_two t c faced at_faced tested) told
      by false untested = refl

  -- of two rows that match
  rows_same : (row other : PatternRow) → Contains ones row → Contains twos other → rows_match basis one.atoms two.atoms row other ≡ true
      → row_form basis one.atoms row ≡ row_form basis two.atoms other
  rows_same row other has has_other told =
      let parts = and_parts (row.table.index == other.table.index) (match_all are_compatible (settled_cells basis one.atoms row) (settled_cells basis two.atoms other)) told in
      let number = (Decides-eqb row.table.index other.table.index).0 parts.0 in
      let cells = by number parts.1 in
      λ k. (number k, cells k)
    where
      by : row.table.index ≡ other.table.index → match_all are_compatible (settled_cells basis one.atoms row) (settled_cells basis two.atoms other) ≡ true
          → map (held_at basis row.table one.atoms) (enumerate_from 0 row.cells) ≡ map (held_at basis other.table two.atoms) (enumerate_from 0 other.cells)
      by number match =
          let m : List Symbol → List Symbol → Bool = λ cell faced. are_compatible (settle basis.schema.model one.atoms cell) (settle basis.schema.model two.atoms faced) in
          let all : match_all m row.cells other.cells ≡ true = sym (match_mapped are_compatible (settle basis.schema.model one.atoms) (settle basis.schema.model two.atoms) row.cells other.cells) ∙ match in
          let table : row.table ≡ other.table = λ k. record { index = number k } in
          same_images (held_at basis row.table one.atoms) (held_at basis other.table two.atoms) (enumerate_from 0 row.cells) (enumerate_from 0 other.cells)
          (length-enumerate_from 0 row.cells ∙ match_sizes m row.cells other.cells all ∙ sym (length-enumerate_from 0 other.cells))
          (λ i x y at_x at_y.
          let here = enumerated_at row.cells x (contains_at (enumerate_from 0 row.cells) i x at_x) in
          let there = enumerated_at other.cells y (contains_at (enumerate_from 0 other.cells) i y at_y) in
          let same : y.0 ≡ x.0 = sym (number_is other.cells i y at_y) ∙ number_is row.cells i x at_x in
          let at_faced : At other.cells x.0 y.1 = subst (λ place. At other.cells place y.1) same there in
          let column : ColId = record { index = x.0 } in
          cells_same row.table column x.1 y.1 (record { row = row; is_row = has; of_table = refl; is_cell = here })
          (record { row = other; is_row = has_other; of_table = sym table; is_cell = at_faced }) (match_place m row.cells other.cells all x.0 x.1 y.1 here at_faced)
          ∙ (λ k. held_at basis (table k) two.atoms (sym same k, y.1)))

  -- and of two regions of which the same links are there
  pub form_same : one.linked ≡ two.linked → PatternsMatch basis one two → form_of basis one ≡ form_of basis two
  form_same linked match =
      let rows = images_match (rows_match basis one.atoms two.atoms) (row_form basis one.atoms) (row_form basis two.atoms) ones twos rows_same match in
      λ k. (map (λ assoc. assoc.index) (linked k), rows k)
