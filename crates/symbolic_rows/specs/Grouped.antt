-- Writings by tables, symbols by columns, and the row of one table.
-- Source: MSL version 3; the update views of Melnik, Adya and Bernstein, SIGMOD 2007.
use Rattle.std.specs.Prelude.{◌≡◌, ◌==◌, ◌++◌, ℕ, List, [], ◌∷◌, filter, flat_map, map, if◌then◌else◌}
use Rattle.std.specs.Global.{Vec}
use Rattle.std.specs.List.{enumerate_from, list_any}
use Rattle.round_trip.specs.Words.{TableId, ColId, Table}
use Rattle.member_groups.specs.group_numbers.Numbers.{HoldsEach}
use Rattle.regions.specs.declared.pattern.PatternRow.{PatternRow}
use Rattle.regions.specs.declared.pattern.Symbol.{Symbol}
use Rattle.regions.specs.Lists.{firsts}
use Rattle.regions.specs.Patterns.{symbols_in}
use Rattle.regions.specs.Symbols.{SymbolWriting, same_symbol}
use Rattle.symbolic_rows.specs.declared.writing.Writing.{Writing}
use Rattle.symbolic_rows.specs.Written.{in_symbols}

-- so many lists, all empty
abbrev pub AreEmpty : {X : Type 0} → ℕ → List (Vec X) → Type 0
AreEmpty {X} = HoldsEach (λ (i : ℕ) (one : Vec X). one.items ≡ [])

-- the writings to a table, in their order
abbrev pub written_to : List SymbolWriting → ℕ → List SymbolWriting
written_to writings t = filter (λ writing. writing.table.index == t) writings

-- these are the writings to a table
abbrev pub AreTo : List SymbolWriting → ℕ → Vec Writing → Type 0
AreTo writings t own = map in_symbols own.items ≡ written_to writings t

-- these are the symbols that are given to a column, each once
abbrev pub AreIn : List (ColId × Symbol) → ℕ → Vec Symbol → Type 0
AreIn given col own = own.items ≡ firsts same_symbol (symbols_in (record { index = col }) given)

-- the row of a table by the writings to it
abbrev pub row_by : TableId → Table → List SymbolWriting → PatternRow
row_by t table own = record {
  table = t;
  cells = map (λ placed. firsts same_symbol (flat_map (λ writing. symbols_in (record { index = placed.0 }) writing.cells) own)) (enumerate_from 0 table.cols);
}

-- the same where there is such a writing
abbrev pub rows_by : TableId → Table → List SymbolWriting → List PatternRow
rows_by t table [] = []
rows_by t table (one ∷ others) = row_by t table (one ∷ others) ∷ []

-- a list with a symbol behind, unless it stands there already
abbrev pub with_once : Symbol → List Symbol → List Symbol
with_once symbol list = if list_any (λ other. same_symbol other symbol) list then list else (list ++ symbol ∷ [])

-- what writings give to columns, one behind the other
abbrev pub given_by : List Writing → List (ColId × Symbol)
given_by writings = flat_map (λ writing. writing.cells) writings
