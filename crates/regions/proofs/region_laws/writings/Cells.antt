-- Rows and cells of writings in symbols are those of the writings.
use Rattle.std.proofs.Common.{◌≡◌, ◌↔◌, List, filter, flat_map, Contains, Any, ◌==◌, Decides, IsTrue, refl, sym, ap, subst, ◌∙◌}
use Rattle.std.proofs.lemmas.Bool.Decides.{Decides-eqb, Decides-like}
use Rattle.emc_base.specs.Lists.{AreApart}
use Rattle.emc_base.proofs.Mapped.{contains_filter, contains_map}
use Rattle.emc_base.proofs.Numbered.{filter_contains, map_contains}
use Rattle.round_trip.specs.Words.{TableId, ColId, Value, Writing}
use Rattle.schema_laws.specs.state_demand.MadeTables.{given_cells}
use Rattle.schema_laws.proofs.state_demand.lists.Lists.{Decides-any, any_of, contains_flat_map, member_of_flat_map, of_any}
use Rattle.regions.specs.declared.pattern.Symbol.{Symbol}
use Rattle.regions.specs.Symbols.{SymbolWriting, same_symbol}
use Rattle.regions.specs.Patterns.{Valuation, cell_symbols, is_written, symbols_in, value_under}
use Rattle.regions.specs.region_laws.Concrete.{AreConcrete, HasSymbol, concrete}
use Rattle.regions.proofs.region_laws.lists.Firsts.{firsts_apart, in_firsts, of_firsts}
use Rattle.regions.proofs.region_laws.values.Symbols.{Decides-symbol}

pub Decides-table : (one two : TableId) → Decides (one.index == two.index) (one ≡ two)
Decides-table one two = Decides-like (one.index == two.index) (λ same i. record { index = same i }) (λ same. ap
    (λ (t : TableId). t.index) same) (Decides-eqb one.index two.index)

Decides-col : (one two : ColId) → Decides (one.index == two.index) (one ≡ two)
Decides-col one two = Decides-like (one.index == two.index) (λ same i. record { index = same i }) (λ same. ap (λ (c : ColId). c.index) same) (Decides-eqb one.index two.index)

pub Decides-written : (symbols : List SymbolWriting) (t : TableId) → Decides (is_written symbols t) (Any (λ one. one.table ≡ t) symbols)
Decides-written symbols t = Decides-any (λ (one : SymbolWriting). one.table.index == t.index) (λ (one : SymbolWriting). one.table ≡ t)
    (λ one. Decides-table one.table t) symbols

module _ (symbols : List SymbolWriting) (t : TableId) (col : ColId) where
  abbrev symbols_to : List Symbol
  symbols_to = flat_map (λ one. symbols_in col one.cells) (filter (λ one. one.table.index == t.index) symbols)

  -- a cell lists no symbol twice
  pub symbols_once : AreApart (cell_symbols symbols t col)
  symbols_once = firsts_apart same_symbol Decides-symbol symbols_to

  -- a writing lists the symbol in the cell
  pub record IsListedIn (found : Symbol) : Type 0 where
    pub one : SymbolWriting
    pub among : Contains symbols one
    pub to : one.table ≡ t
    pub cell : Contains {X = ColId × Symbol} one.cells (col, found)

  pub listed_in : (found : Symbol) → Contains (cell_symbols symbols t col) found → IsListedIn found
  listed_in found has =
      let by = member_of_flat_map (λ (one : SymbolWriting). symbols_in col one.cells) (filter (λ one. one.table.index == t.index) symbols) found
      (of_firsts same_symbol Decides-symbol symbols_to found has) in
      let kept = filter_contains (λ (one : SymbolWriting). one.table.index == t.index) symbols by.0 by.1 in
      let cell = map_contains (λ (cell : ColId × Symbol). cell.1) (filter (λ (cell : ColId × Symbol). cell.0.index == col.index) by.0.cells) found by.2 in
      let there = filter_contains (λ (cell : ColId × Symbol). cell.0.index == col.index) by.0.cells cell.0 cell.1 in
      let column = (Decides-col cell.0.0 col).0 there.1 in
      let same : cell.0 ≡ (col, found) = λ k. (column k, cell.2 k) in
      record { one = by.0; among = kept.0; to = (Decides-table by.0.table t).0 kept.1; cell = subst (Contains {X = ColId × Symbol} by.0.cells) same there.0 }

  pub in_cell : (found : Symbol) → IsListedIn found → Contains (cell_symbols symbols t col) found
  in_cell found by = in_firsts same_symbol Decides-symbol symbols_to found
      (contains_flat_map (λ (one : SymbolWriting). symbols_in col one.cells) (filter (λ one. one.table.index == t.index) symbols) by.one found
      (contains_filter (λ (one : SymbolWriting). one.table.index == t.index) symbols by.one by.among ((Decides-table by.one.table t).1 by.to))
      (contains_map (λ (cell : ColId × Symbol). cell.1) (filter (λ (cell : ColId × Symbol). cell.0.index == col.index) by.one.cells) (col, found)
      (contains_filter (λ (cell : ColId × Symbol). cell.0.index == col.index) by.one.cells (col, found) by.cell ((Decides-col col col).1 refl))))

module _ (valuation : Valuation) (symbols : List SymbolWriting) (IsOne : Writing → Type 0) (are : AreConcrete valuation symbols IsOne) (t : TableId) where
  -- a table is written where one of the writings is to it
  pub rows_concrete : ((writing : Writing) × (writing.table ≡ t) × IsOne writing) ↔ IsTrue (is_written symbols t)
  rows_concrete = (
    (λ by.
        let found = are.listed by.0 by.2 in
        (Decides-written symbols t).1 (any_of (λ (one : SymbolWriting). one.table ≡ t) symbols found.0 found.1 (sym found.2.table ∙ by.1))),
    (λ told.
        let any = of_any (λ (one : SymbolWriting). one.table ≡ t) symbols ((Decides-written symbols t).0 told) in
        let found = are.written any.0 any.1 in
        (found.0, found.2.table ∙ any.2, found.1)),
  )

  -- a cell is given the values of its symbols
  pub cells_concrete : (col : ColId) (value : Value)
      → ((writing : Writing) × ((writing.table ≡ t) × IsOne writing) × Contains {X = ColId × Value} (given_cells writing)
      (col, value)) ↔ HasSymbol valuation symbols t col value
  cells_concrete col value = (
    (λ by.
        let found = are.listed by.0 by.1.1 in
        let with_value : ColId × Symbol → ColId × Value = λ cell. (cell.0, value_under valuation cell.1) in
        let there : Contains {X = ColId × Value} (concrete valuation found.0.cells) (col, value) = subst
        (λ cells. Contains {X = ColId × Value} cells (col, value)) found.2.cells by.2 in
        let cell = map_contains with_value found.0.cells (col, value) there in
        let column : cell.0.0 ≡ col = ap (λ (one : ColId × Value). one.0) cell.2 in
        let same : cell.0 ≡ (col, cell.0.1) = λ k. (column k, cell.0.1) in
        record {
          one = cell.0.1;
          listed = in_cell symbols t col cell.0.1 (record {
            one = found.0;
            among = found.1;
            to = sym found.2.table ∙ by.1.0;
            cell = subst (Contains {X = ColId × Symbol} found.0.cells) same cell.1;
          });
          is = sym (ap (λ (one : ColId × Value). one.1) cell.2);
        }),
    (λ by.
        let at = listed_in symbols t col by.one by.listed in
        let found = are.written at.one at.among in
        let with_value : ColId × Symbol → ColId × Value = λ cell. (cell.0, value_under valuation cell.1) in
        let there : Contains {X = ColId × Value} (concrete valuation at.one.cells) (col, value_under valuation by.one) = contains_map with_value at.one.cells
        (col, by.one) at.cell in
        let given : Contains {X = ColId × Value} (given_cells found.0) (col, value_under valuation by.one) =
        subst (λ cells. Contains {X = ColId × Value} cells (col, value_under valuation by.one)) (sym found.2.cells) there in
        let back = sym by.is in
        let P : Value → Type 0 = λ v. Contains {X = ColId × Value} (given_cells found.0) (col, v) in
        (found.0, (found.2.table ∙ at.to, found.1), subst P back given)),
  )
