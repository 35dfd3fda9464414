-- Where symbols stand in patterns, and which properties are parts of keys.
-- Source: MSL version 3, ScalarProperty, EndProperty and Condition; CSDL version 3, Key.
use Rattle.std.specs.Prelude.{◌≡◌, List, [], ◌∷◌, Contains, Bool, if◌then◌else◌, ⊤}
use Rattle.round_trip.specs.Words.{SetId, TableId, ColId, AssocId, Value, EntityModel, LinkFragment, Pair, Schema, At}
use Rattle.schema_laws.specs.state_demand.Owners.{IsOwned}
use Rattle.condition_logic.specs.declared.atoms.AtomOf.{AtomOf}
use Rattle.regions.specs.declared.pattern.Symbol.{Symbol}
use Rattle.regions.specs.declared.pattern.Symbol.TheVariants as symbol
use Rattle.regions.specs.declared.pattern.PatternRow.{PatternRow}
use Rattle.regions.specs.declared.pattern.Pattern.{Pattern}
use Rattle.regions.specs.declared.pattern.Focus.{Focus}
use Rattle.regions.specs.Basis.{Basis}
use Rattle.regions.specs.Patterns.{pattern_of}
use Rattle.regions.specs.Settled.{possible, single}

-- the pattern's row of the table has the cell at the column
pub record HasCell (pattern : Pattern) (t : TableId) (col : ColId) (cell : List Symbol) : Type 0 where
  pub row : PatternRow
  pub is_row : Contains pattern.rows row
  pub of_table : row.table ≡ t
  pub is_cell : At row.cells col.index cell

-- a cell of this column lists the symbol
abbrev pub Lists : Pattern → TableId → ColId → Symbol → Type 0
Lists pattern t col symbol = (cell : List Symbol) × HasCell pattern t col cell × Contains cell symbol

-- a cell of the focus's pattern
pub record PatternCell (basis : Basis) (of : Focus) : Type 0 where
  pub t : TableId
  pub col : ColId
  pub cell : List Symbol
  pub has : HasCell (pattern_of basis of) t col cell

-- a column in which some pattern lists the symbol
pub record WhereListed (basis : Basis) (one : Symbol) : Type 0 where
  pub of : Focus
  pub t : TableId
  pub col : ColId
  pub lists : Lists (pattern_of basis of) t col one

-- the set owns the table by pairs of which this one is at the column
pub record IsKeyPair (schema : Schema) (s : SetId) (t : TableId) (col : ColId) (pair : Pair) : Type 0 where
  pub pairing : List Pair
  pub owned : IsOwned schema t s pairing
  pub paired : Contains pairing pair
  pub at_col : pair.col ≡ col

-- the symbol is null, a constant, the end of a link, or a property that can have one value alone
abbrev pub IsTelling : EntityModel → List AtomOf → Symbol → Type 0
IsTelling model atoms (symbol.Prop p) = (value : Value) × (possible model atoms (symbol.Prop p) ≡ single value)
IsTelling model atoms _ = ⊤

-- the cell lists one end of the association's links alone: that which its link fragment writes to the column
pub record IsEndCell (schema : Schema) (a : AssocId) (t : TableId) (col : ColId) (cell : List Symbol) : Type 0 where
  pub fragment : LinkFragment
  pub mapped : Contains schema.mapping.links fragment
  pub of_assoc : fragment.assoc ≡ a
  pub to_table : fragment.table ≡ t
  pub first : Bool
  pub pair : Pair
  pub paired : Contains (if first then fragment.first else fragment.second) pair
  pub at_col : pair.col ≡ col
  pub is : cell ≡ symbol.End a first pair.prop ∷ []
