-- Patterns: the rows that an entity of a region or a link demands, in symbols, and the values of symbols.
-- Source: MSL version 3; the update views of Melnik, Adya and Bernstein, SIGMOD 2007.
use Rattle.std.specs.Prelude.{◌==◌, List, [], ◌∷◌, map, filter, flat_map, Bool, if◌then◌else◌}
use Rattle.std.specs.List.{list_any, enumerate_from}
use Rattle.round_trip.specs.Words.{TableId, ColId, PropId, AssocId, Value, Null, EntityModel, Assoc, StoreModel, Table, Entity, Link, key_props, value_beside, value_of}
use Rattle.regions.specs.declared.pattern.Symbol.{Symbol}
use Rattle.regions.specs.declared.pattern.Symbol.TheVariants as symbol
use Rattle.regions.specs.declared.pattern.PatternRow.{PatternRow}
use Rattle.regions.specs.declared.pattern.Pattern.{Pattern}
use Rattle.regions.specs.declared.pattern.Focus.{Focus}
use Rattle.regions.specs.declared.pattern.Focus.TheVariants as focus
use Rattle.regions.specs.Lists.{firsts}
use Rattle.regions.specs.Basis.{Basis}
use Rattle.regions.specs.Symbols.{SymbolWriting, same_symbol, region_writings, link_writings}

-- the symbols that writings to a table list in a column, each once
abbrev pub symbols_in : ColId → List (ColId × Symbol) → List Symbol
symbols_in col cells = map (λ cell. cell.1) (filter (λ cell. cell.0.index == col.index) cells)

abbrev pub cell_symbols : List SymbolWriting → TableId → ColId → List Symbol
cell_symbols writings t col = firsts same_symbol (flat_map (λ writing. symbols_in col writing.cells) (filter (λ writing. writing.table.index == t.index) writings))

-- whether a table is written
abbrev pub is_written : List SymbolWriting → TableId → Bool
is_written writings t = list_any (λ writing. writing.table.index == t.index) writings

-- the row of a table
abbrev pub pattern_row : List SymbolWriting → TableId → Table → PatternRow
pattern_row writings t table = record { table = t; cells = map (λ placed. cell_symbols writings t (record { index = placed.0 })) (enumerate_from 0 table.cols) }

-- the row of a table, where it is written
abbrev pub rows_at : List SymbolWriting → TableId → Table → List PatternRow
rows_at writings t table = if is_written writings t then pattern_row writings t table ∷ [] else []

-- the rows of the written tables, in their order
abbrev pub pattern_by : StoreModel → List SymbolWriting → Pattern
pattern_by store writings = record { rows = flat_map (λ placed. rows_at writings (record { index = placed.0 }) placed.1) (enumerate_from 0 store.tables) }

-- what a focus writes
abbrev pub writings_of : Basis → Focus → List SymbolWriting
writings_of basis (focus.Entity region) = region_writings basis region
writings_of basis (focus.Link assoc) = link_writings basis assoc

-- the pattern of a focus
abbrev pub pattern_of : Basis → Focus → Pattern
pattern_of basis focus = pattern_by basis.schema.store (writings_of basis focus)

-- values of properties, and of the parts of keys at the ends of links
pub record Valuation : Type 0 where
  pub prop : PropId → Value
  pub part : AssocId → Bool → PropId → Value

-- the value of a symbol
abbrev pub value_under : Valuation → Symbol → Value
value_under valuation symbol.Null = Null
value_under valuation (symbol.Const value) = value
value_under valuation (symbol.Prop p) = valuation.prop p
value_under valuation (symbol.End assoc first p) = valuation.part assoc first p

-- the values of an entity with the keys of its partners
abbrev pub by_entity : EntityModel → Entity → (AssocId → Bool → PropId → Value) → Valuation
by_entity model entity part = record { prop = value_of model entity; part = part }

-- the values of a link's two keys
abbrev pub by_link : EntityModel → Assoc → Link → Valuation
by_link model assoc link = record {
  prop = λ p. Null;
  part = λ a first p.
      if first then value_beside p (key_props model assoc.first.ty) link.first else value_beside p (key_props model assoc.second.ty) link.second;
}
