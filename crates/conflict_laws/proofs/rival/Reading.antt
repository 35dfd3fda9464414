-- What a pattern lists, and which of its properties face null in another.
use Rattle.std.proofs.Common.{◌≡◌, ℕ, ◌&&◌, List, Any, Bool, true, Contains, Decides, refl, sym, ap, subst, ◌∙◌}
use Rattle.std.specs.List.{enumerate_from, list_any}
use Rattle.std.proofs.lemmas.Bool.{and_parts}
use Rattle.std.proofs.lemmas.Bool.Decides.{Decides-and, Decides-like}
use Rattle.emc_base.proofs.Mapped.{contains_at, contains_enumerated}
use Rattle.emc_base.proofs.Numbered.{enumerated_at}
use Rattle.round_trip.specs.Words.{TableId, ColId, PropId, EntityModel, Null}
use Rattle.schema_laws.proofs.state_demand.lists.Lists.{Decides-any, any_of, of_any}
use Rattle.schema_laws.proofs.state_demand.writings.Selecting.{Decides-value}
use Rattle.schema_laws.specs.state_demand.Selecting.{same_value}
use Rattle.regions.specs.declared.region.Region.{Region}
use Rattle.regions.specs.declared.pattern.Symbol.{Symbol}
use Rattle.regions.specs.declared.pattern.Symbol.TheVariants as symbol
use Rattle.regions.specs.declared.pattern.Pattern.{Pattern}
use Rattle.regions.specs.declared.pattern.PatternRow.{PatternRow}
use Rattle.regions.specs.declared.pattern.Focus.TheVariants as focus
use Rattle.regions.specs.Basis.{Basis}
use Rattle.regions.specs.Patterns.{cell_symbols, pattern_of}
use Rattle.regions.specs.Settled.{Settled, free, known, multi, possible, settle}
use Rattle.regions.specs.Symbols.{region_writings, same_symbol}
use Rattle.regions.specs.region_laws.IsBasis.{IsBasis}
use Rattle.regions.proofs.region_laws.lists.Found.{place_of}
use Rattle.regions.proofs.region_laws.values.Symbols.{Decides-symbol}
use Rattle.regions.specs.region_laws.pattern.Listed.{HasCell, Lists}
use Rattle.region_states.specs.conflicts.Facts.{listed_in, lists}
use Rattle.region_states.specs.conflicts.SameFacts.{are_compatible, lists_anywhere}
use Rattle.conflict_laws.specs.rival.Alike.{IsClear}
use Rattle.conflict_laws.specs.rival.RivalValues.{faces_null, faces_null_in, is_null_cell}
use Rattle.conflict_laws.proofs.rival.Clear.{listed_free}
use Rattle.conflict_laws.proofs.rival.Rows.{AreMatched, cell_there, listed_is}

-- whether a cell lists a symbol
Decides-lists : (one : Symbol) (cell : List Symbol) → Decides (lists cell one) (Contains cell one)
Decides-lists one cell = Decides-like (lists cell one)
    (λ any. let found = of_any (λ other. other ≡ one) cell any in subst (Contains cell) found.2 found.1)
    (λ has. any_of (λ other. other ≡ one) cell one has refl)
    (Decides-any (λ other. same_symbol other one) (λ other. other ≡ one) (λ other. Decides-symbol other one) cell)

-- and whether a pattern does
module _ (pattern : Pattern) (one : Symbol) where
  abbrev RowLists : PatternRow → Type 0
  RowLists row = Any (λ cell. Contains cell one) row.cells

  Decides-anywhere : Decides (lists_anywhere pattern one) (Any RowLists pattern.rows)
  Decides-anywhere = Decides-any (λ (row : PatternRow). list_any (λ cell. lists cell one) row.cells) RowLists
      (λ row. Decides-any (λ cell. lists cell one) (λ cell. Contains cell one) (Decides-lists one) row.cells) pattern.rows

  -- what is listed stands in a column of a table, and the other way
  pub somewhere : lists_anywhere pattern one ≡ true → (t : TableId) × (c : ColId) × Lists pattern t c one
  somewhere told =
      let row = of_any RowLists pattern.rows (Decides-anywhere.0 told) in
      let cell = of_any (λ list. Contains list one) row.0.cells row.2 in
      let place = place_of row.0.cells cell.0 cell.1 in
      (row.0.table, record { index = place.0 }, (cell.0, record { row = row.0; is_row = row.1; of_table = refl; is_cell = place.1 }, cell.2))

  pub anywhere : (t : TableId) (c : ColId) → Lists pattern t c one → lists_anywhere pattern one ≡ true
  anywhere t c (cell, has, listed) = Decides-anywhere.1 (any_of RowLists pattern.rows has.row has.is_row
      (any_of (λ list. Contains list one) has.row.cells cell (contains_at has.row.cells c.index cell has.is_cell) listed))

-- whether a cell holds null for certain
Decides-null : (settled : Settled) → Decides (is_null_cell settled) (settled ≡ known Null)
Decides-null (known v) = Decides-like (same_value v Null) (λ same k. known (same k)) (λ same. cc) (Decides-value v Null)
Decides-null (free s n) = (λ told. cc, λ same. cc)

-- in a column where the one pattern lists the property, the other holds null for certain
pub record FacesNull (basis : Basis) (region other : Region) (p : PropId) : Type 0 where
  pub t : TableId
  pub c : ColId
  pub cell : List Symbol
  pub has : HasCell (pattern_of basis (focus.Entity region)) t c cell
  pub listed : Contains cell (symbol.Prop p)
  pub null : settle basis.schema.model other.atoms (listed_in (pattern_of basis (focus.Entity other)) t c) ≡ known Null

module _ (basis : Basis) (region other : Region) (p : PropId) where
  abbrev rows : List PatternRow
  rows = (pattern_of basis (focus.Entity region)).rows

  abbrev faced : TableId → ℕ → Settled
  faced t i = settle basis.schema.model other.atoms (listed_in (pattern_of basis (focus.Entity other)) t (record { index = i }))

  abbrev FacesAt : PatternRow → ℕ × List Symbol → Type 0
  FacesAt row placed = Contains placed.1 (symbol.Prop p) × (faced row.table placed.0 ≡ known Null)

  abbrev FacesIn : PatternRow → Type 0
  FacesIn row = Any (FacesAt row) (enumerate_from 0 row.cells)

  -- whether it does so in a row, and in any
  Decides-in : (row : PatternRow) → Decides (faces_null_in basis other p row) (FacesIn row)
  Decides-in row = Decides-any (λ (placed : ℕ × List Symbol). lists placed.1 (symbol.Prop p) && is_null_cell (faced row.table placed.0)) (FacesAt row)
      (λ placed. Decides-and (lists placed.1 (symbol.Prop p)) (is_null_cell (faced row.table placed.0)) (Decides-lists (symbol.Prop p) placed.1)
      (Decides-null (faced row.table placed.0)))
      (enumerate_from 0 row.cells)

  Decides-faces : Decides (faces_null basis region other p) (Any FacesIn rows)
  Decides-faces = Decides-any (faces_null_in basis other p) FacesIn Decides-in rows

  -- where the property is said to face null, and the other way
  pub faces_told : faces_null basis region other p ≡ true → FacesNull basis region other p
  faces_told told =
      let row = of_any FacesIn rows (Decides-faces.0 told) in
      let placed = of_any (FacesAt row.0) (enumerate_from 0 row.0.cells) row.2 in
      record {
        t = row.0.table;
        c = record { index = placed.0.0 };
        cell = placed.0.1;
        has = record { row = row.0; is_row = row.1; of_table = refl; is_cell = enumerated_at row.0.cells placed.0 placed.1 };
        listed = placed.2.0;
        null = placed.2.1;
      }

  pub faces_by : FacesNull basis region other p → faces_null basis region other p ≡ true
  faces_by faces =
      let row : PatternRow = faces.has.row in
      let Null_at : TableId → Type 0 = λ u. faced u faces.c.index ≡ known Null in
      Decides-faces.1 (any_of FacesIn rows row faces.has.is_row
      (any_of (FacesAt row) (enumerate_from 0 row.cells) (faces.c.index, faces.cell) (contains_enumerated row.cells faces.c.index faces.cell faces.has.is_cell)
      (faces.listed, subst Null_at (sym faces.has.of_table) faces.null)))

  -- where patterns match, null is among the values of a property that faces it
  pub faces_nullable : IsBasis basis → IsClear basis region → AreMatched basis region other → (n : Bool)
      → possible basis.schema.model region.atoms (symbol.Prop p) ≡ multi n → FacesNull basis region other p → n ≡ true
  faces_nullable is clear matched n several faces =
      let model : EntityModel = basis.schema.model in
      let row = (matched.rows faces.t).0 (faces.has.row, faces.has.is_row, faces.has.of_table) in
      let there = cell_there basis other faces.t faces.c is region faces.cell faces.has row in
      let here : List Symbol = cell_symbols (region_writings basis other) faces.t faces.c in
      let held : Settled = settle model other.atoms here in
      let is_null : held ≡ known Null = ap (settle model other.atoms) (sym (listed_is basis other faces.t faces.c here there)) ∙ faces.null in
      let is_free = listed_free basis region clear faces.t faces.c faces.cell faces.has (symbol.Prop p) faces.listed n several in
      let match = matched.cells faces.t faces.c faces.cell here faces.has there in
      let P : Settled → Type 0 = λ one. are_compatible one held ≡ true in
      let Q : Settled → Type 0 = λ one. are_compatible (free (symbol.Prop p) n) one ≡ true in
      (and_parts (same_value Null Null) n (subst Q is_null (subst P is_free match))).1
