-- What is written in symbols, with the values of these.
-- Source: MSL version 3, MappingFragment, ScalarProperty, EndProperty and Condition; the update views of Melnik, Adya and Bernstein,
-- SIGMOD 2007.
use Rattle.std.specs.Prelude.{◌≡◌, ◌⊎◌, List, map, All, Contains, Bool, if◌then◌else◌}
use Rattle.round_trip.specs.Words.{SetId, TypeId, TableId, ColId, AssocId, Value, EntityModel, Assoc, Fragment, LinkFragment, Pair, Entity, Link, State, Writing, EntityWrites, LinkWrites, key_of, key_props, value_beside}
use Rattle.schema_laws.specs.state_demand.MadeTables.{given_cells}
use Rattle.schema_laws.specs.state_demand.Writings.{entity_writing, link_writing}
use Rattle.regions.specs.declared.pattern.Symbol.{Symbol}
use Rattle.regions.specs.declared.pattern.Symbol.TheVariants as symbol
use Rattle.regions.specs.Basis.{Basis, Host, host_key}
use Rattle.regions.specs.Symbols.{SymbolWriting}
use Rattle.regions.specs.Patterns.{Valuation, cell_symbols, value_under}

-- the columns with the values of their symbols
abbrev pub concrete : Valuation → List (ColId × Symbol) → List (ColId × Value)
concrete valuation cells = map (λ cell. (cell.0, value_under valuation cell.1)) cells

-- the valuation tells the key at one end of a link by what the pairs write: the entity's own properties where this end hosts, else parts of the end's key
abbrev pub TellsEnd : EntityModel → Valuation → AssocId → Bool → Bool → TypeId → List Pair → List Value → Type 0
TellsEnd model valuation assoc first hosts ty pairs key =
    All (λ pair. value_under valuation (if hosts then symbol.Prop pair.prop else symbol.End assoc first pair.prop) ≡ value_beside pair.prop (key_props model ty) key) pairs

-- the writing is to the same table, and gives the columns these symbols' values
pub record IsConcrete (valuation : Valuation) (symbols : SymbolWriting) (writing : Writing) : Type 0 where
  pub table : writing.table ≡ symbols.table
  pub cells : given_cells writing ≡ concrete valuation symbols.cells

-- the writings of this kind are just those in symbols
pub record AreConcrete (valuation : Valuation) (symbols : List SymbolWriting) (IsOne : Writing → Type 0) : Type 0 where
  pub listed : (writing : Writing) → IsOne writing → (one : SymbolWriting) × Contains symbols one × IsConcrete valuation one writing
  pub written : (one : SymbolWriting) → Contains symbols one → (writing : Writing) × IsOne writing × IsConcrete valuation one writing

-- a fragment of the set writes the entity
pub record WritesEntity (basis : Basis) (state : State) (s : SetId) (entity : Entity) (writing : Writing) : Type 0 where
  pub fragment : Fragment
  pub of_set : fragment.set ≡ s
  pub writes : EntityWrites basis.schema state fragment entity
  pub is : writing ≡ entity_writing basis.schema.model fragment entity

-- a link fragment of an association that is hosted at the set writes a link that the entity hosts
pub record WritesHosted (basis : Basis) (state : State) (s : SetId) (entity : Entity) (writing : Writing) : Type 0 where
  pub host : Host
  pub fragment : LinkFragment
  pub assoc : Assoc
  pub link : Link
  pub hosts : Contains (basis.hosts s) host
  pub of_assoc : fragment.assoc ≡ host.assoc
  pub writes : LinkWrites basis.schema state fragment assoc link
  pub at_key : host_key host.first_hosts link ≡ key_of basis.schema.model entity
  pub is : writing ≡ link_writing basis.schema.model fragment assoc link

-- a writing of an entity of the set, or of a link that it hosts
abbrev pub IsWritingAt : Basis → State → SetId → Entity → Writing → Type 0
IsWritingAt basis state s entity writing = WritesEntity basis state s entity writing ⊎ WritesHosted basis state s entity writing

-- a writing of a link of the association
pub record IsWritingOfLink (basis : Basis) (state : State) (a : AssocId) (assoc : Assoc) (link : Link) (writing : Writing) : Type 0 where
  pub fragment : LinkFragment
  pub of_assoc : fragment.assoc ≡ a
  pub writes : LinkWrites basis.schema state fragment assoc link
  pub is : writing ≡ link_writing basis.schema.model fragment assoc link

-- one of the cell's symbols has the value
pub record HasSymbol (valuation : Valuation) (writings : List SymbolWriting) (t : TableId) (col : ColId) (value : Value) : Type 0 where
  pub one : Symbol
  pub listed : Contains (cell_symbols writings t col) one
  pub is : value ≡ value_under valuation one
