-- What a state demands of the tables: rows, and values of cells.
-- Source: MSL version 3, MappingFragment, ScalarProperty, EndProperty and Condition; Melnik, Adya and Bernstein, SIGMOD 2007.
use Rattle.std.specs.Prelude.{◌≡◌, ◌⊎◌, ◌==◌, List, [], ◌∷◌, ◌++◌, map, Contains, true, slice_get, if◌then◌else◌}
use Rattle.std.specs.Option.{option_map_or}
use Rattle.round_trip.specs.Types.{TypeId, TableId, ColId, Value, Null, EntityModel, Assoc, StoreModel, Fragment, Pair, LinkFragment, Cond, Schema, Entity, Link, At, key_props, value_beside, value_of, State, entities_in, links_in, Selects}
use Rattle.edm_types.specs.declared.mapping.CondOn.TheVariants as on
use Rattle.edm_types.specs.declared.mapping.Test.TheVariants.{IsNull, Equals}

-- what one entity or link writes by one fragment: the written columns with their values, and the fragment's conditions
pub record Writing : Type 0 where
  pub table : TableId
  pub cells : List (ColId × Value)
  pub conds : List Cond

-- an entity writes its values
abbrev pub entity_cells : EntityModel → Fragment → Entity → List (ColId × Value)
entity_cells model fragment entity = map (λ pair. (pair.col, value_of model entity pair.prop)) fragment.pairs

-- one end of a link writes the parts of its key
abbrev pub end_cells : EntityModel → TypeId → List Pair → List Value → List (ColId × Value)
end_cells model ty pairs key = map (λ pair. (pair.col, value_beside pair.prop (key_props model ty) key)) pairs

-- a link writes both keys
abbrev pub link_cells : EntityModel → Assoc → LinkFragment → Link → List (ColId × Value)
link_cells model assoc fragment link = end_cells model assoc.first.ty fragment.first link.first ++ end_cells model assoc.second.ty fragment.second link.second

-- an entity that a fragment selects
pub record EntityWrites (schema : Schema) (state : State) (fragment : Fragment) (entity : Entity) : Type 0 where
  pub mapped : Contains schema.mapping.fragments fragment
  pub stands : Contains (entities_in state fragment.set) entity
  pub selected : Selects schema.model fragment entity

-- a link of an association that a link fragment maps; it selects every one
pub record LinkWrites (schema : Schema) (state : State) (fragment : LinkFragment) (assoc : Assoc) (link : Link) : Type 0 where
  pub mapped : Contains schema.mapping.links fragment
  pub is_assoc : At schema.model.assocs fragment.assoc.index assoc
  pub stands : Contains (links_in state fragment.assoc) link

-- the state writes this by one of its entities or links
abbrev pub Writes : Schema → State → Writing → Type 0
Writes schema state writing =
    ((fragment : Fragment) × (entity : Entity) × EntityWrites schema state fragment entity
    × (writing ≡ record { table = fragment.table; cells = entity_cells schema.model fragment entity; conds = fragment.conds }))
    ⊎ ((fragment : LinkFragment) × (assoc : Assoc) × (link : Link) × LinkWrites schema state fragment assoc link
    × (writing ≡ record { table = fragment.table; cells = link_cells schema.model assoc fragment link; conds = fragment.conds }))

-- the value that is written to a column
abbrev pub written_to : List (ColId × Value) → ColId → Value
written_to [] col = Null
written_to (cell ∷ cells) col = if cell.0.index == col.index then cell.1 else written_to cells col

-- the columns of a table's primary key
abbrev pub key_columns : StoreModel → TableId → List ColId
key_columns store t = option_map_or (λ table. table.key) (slice_get store.tables t.index) []

-- the primary key that is written
abbrev pub written_key : StoreModel → Writing → List Value
written_key store writing = map (written_to writing.cells) (key_columns store writing.table)

-- a writing fills a column with its written value, the constant of a Value condition, or null by an IsNull condition
abbrev pub Fills : Writing → ColId → Value → Type 0
Fills writing col value = Contains writing.cells (col, value)
    ⊎ Contains writing.conds (record { on = on.Col col; test = Equals value })
    ⊎ (Contains writing.conds (record { on = on.Col col; test = IsNull true }) × (value ≡ Null))

-- a writing to this row
pub record WritesRow (schema : Schema) (state : State) (t : TableId) (key : List Value) (writing : Writing) : Type 0 where
  pub writes : Writes schema state writing
  pub to_table : writing.table ≡ t
  pub to_key : written_key schema.store writing ≡ key

-- the row is demanded
abbrev pub DemandsRow : Schema → State → TableId → List Value → Type 0
DemandsRow schema state t key = (writing : Writing) × WritesRow schema state t key writing

-- the cell is demanded to hold the value
abbrev pub DemandsCell : Schema → State → TableId → List Value → ColId → Value → Type 0
DemandsCell schema state t key col value = (writing : Writing) × WritesRow schema state t key writing × Fills writing col value
