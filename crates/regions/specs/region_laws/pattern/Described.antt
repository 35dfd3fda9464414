-- Clashes of cells, and the row of a table that a pattern's row describes where none of its cells clashes.
-- Source: this project's; the update views of Melnik, Adya and Bernstein, SIGMOD 2007.
use Rattle.std.specs.Prelude.{◌≡◌, ◌≢◌, ◌↔◌, List, [], ◌∷◌, map, Contains, All, false}
use Rattle.round_trip.specs.Words.{SetId, TableId, ColId, Value, Null, EntityModel, LinkFragment, Row, State, Table, Tables, TablesAre, DemandsCell, At, cell_of, row_key, rows_in}
use Rattle.edm_types.specs.declared.model.Mult.TheVariants.{Many}
use Rattle.condition_logic.specs.declared.atoms.AtomOf.{AtomOf}
use Rattle.regions.specs.Basis.{Basis, HostedAssoc, partner_end}
use Rattle.regions.specs.declared.pattern.Symbol.{Symbol}
use Rattle.regions.specs.declared.pattern.PatternRow.{PatternRow}
use Rattle.regions.specs.declared.pattern.Focus.{Focus}
use Rattle.regions.specs.Patterns.{Valuation, cell_symbols, pattern_of, value_under, writings_of}
use Rattle.regions.specs.Settled.{has_clash, possible, single}
use Rattle.regions.specs.region_laws.pattern.Allowed.{AllowedFocus, told_of}

-- no cell of the row clashes
abbrev pub HasNoClashes : EntityModel → List AtomOf → PatternRow → Type 0
HasNoClashes model atoms row = All (λ cell. has_clash model atoms cell ≡ false) row.cells

-- the focus's pattern has this row, and no cell of it clashes
pub record IsClearRow (basis : Basis) (of : Focus) (pattern : PatternRow) : Type 0 where
  pub is_row : Contains (pattern_of basis of).rows pattern
  pub clear : HasNoClashes basis.schema.model (told_of of) pattern

-- two symbols that are listed differ, and it isn't so that each can be one and the same value alone
pub record HasTwoSymbols (model : EntityModel) (atoms : List AtomOf) (cell : List Symbol) : Type 0 where
  pub one : Symbol
  pub two : Symbol
  pub lists_one : Contains cell one
  pub lists_two : Contains cell two
  pub different : one ≢ two
  pub not_alike : (value : Value) → possible model atoms one ≡ single value → ¬ (possible model atoms two ≡ single value)

-- the row of a table is that of the pattern: each cell holds the value of each symbol that is listed, and null where none is
pub record IsRowFor (valuation : Valuation) (pattern : PatternRow) (row : Row) : Type 0 where
  pub listed : (col : ColId) (cell : List Symbol) → At pattern.cells col.index cell → All (λ symbol. cell_of row col ≡ value_under valuation symbol) cell
  pub empty : (col : ColId) → At pattern.cells col.index [] → cell_of row col ≡ Null

-- a clear row of the focus's pattern, and a row that it describes by allowed values
pub record DescribedRow (basis : Basis) (told : AllowedFocus basis) : Type 0 where
  pub pattern : PatternRow
  pub clear : IsClearRow basis told.of pattern
  pub row : Row
  pub is_row : IsRowFor told.values pattern row

-- the value of the first symbol, or null where none is listed
abbrev pub value_in : Valuation → List Symbol → Value
value_in valuation [] = Null
value_in valuation (one ∷ others) = value_under valuation one

-- the row of the first symbols' values
abbrev pub row_for : Valuation → PatternRow → Row
row_for valuation pattern = record { cells = map (value_in valuation) pattern.cells }

-- what the state demands of the row of this key are the values of the symbols that are listed
pub record AreDemanded (basis : Basis) (state : State) (of : Focus) (valuation : Valuation) (t : TableId) (key : List Value) : Type 0 where
  pub cells : (c : ColId) (value : Value) → DemandsCell basis.schema state t key c value
      ↔ ((one : Symbol) × Contains (cell_symbols (writings_of basis of) t c) one × (value ≡ value_under valuation one))

-- a clear row of the focus's pattern, and the row of a state's tables at which just the values of the pattern's symbols are demanded
pub record DemandedRow (basis : Basis) (state : State) (of : Focus) (valuation : Valuation) : Type 0 where
  pub tables : Tables
  pub are : TablesAre basis.schema state tables
  pub pattern : PatternRow
  pub clear : IsClearRow basis of pattern
  pub table : Table
  pub is_table : At basis.schema.store.tables pattern.table.index table
  pub row : Row
  pub among : Contains (rows_in tables pattern.table) row
  pub demanded : AreDemanded basis state of valuation pattern.table (row_key table row)

-- a link fragment to the table, of an association that is hosted at the set and lets an entity have few partners
pub record HostsFewAt (basis : Basis) (s : SetId) (t : TableId) (fragment : LinkFragment) : Type 0 where
  pub mapped : Contains basis.schema.mapping.links fragment
  pub to_table : fragment.table ≡ t
  pub at : HostedAssoc basis s
  pub of_assoc : fragment.assoc ≡ at.host.assoc
  pub few : (partner_end at.host.first_hosts at.assoc).mult ≢ Many
