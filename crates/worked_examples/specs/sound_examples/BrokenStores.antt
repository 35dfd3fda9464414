-- Stores of which one part is broken.
use Rattle.std.specs.Prelude.{List, [], ◌∷◌, codes}
use Rattle.round_trip.specs.Words.{StoreModel, Table, ForeignKey}
use Rattle.emc_base.specs.declared.value.Kind.TheVariants as kind
use Rattle.worked_examples.specs.Ids.{table_id, col_id, needed_column, optional_column}
use Rattle.worked_examples.specs.people.People.{people_table}
use Rattle.worked_examples.specs.bosses.JoinedBosses.{joined_table}

-- a store of these tables and foreign keys
abbrev pub store_of : List Table → List ForeignKey → StoreModel
store_of tables keys = record { namespace = codes "S"; container = codes "D"; tables = tables; keys = keys }

-- a table whose key may be null
abbrev pub optional_table : Table
optional_table = record { name = codes "People"; cols = optional_column (codes "Id") kind.Int32 ∷ []; key = col_id 0 ∷ [] }

abbrev pub optional_key : StoreModel
optional_key = store_of (optional_table ∷ []) []

-- a table with two columns of one name
abbrev pub one_name : StoreModel
one_name = store_of (record { name = codes "People"; cols = needed_column (codes "Id") kind.Int32 ∷ optional_column (codes "Id") kind.Int32 ∷ []; key = col_id 0 ∷ [] } ∷ []) []

-- a foreign key that points from an id to itself
abbrev pub to_itself : StoreModel
to_itself = store_of (people_table ∷ []) (record { name = codes "FK"; from = table_id 0; from_cols = col_id 0 ∷ []; to = table_id 0; to_cols = col_id 0 ∷ [] } ∷ [])

-- a foreign key that points to one column of a key of two
abbrev pub to_half : StoreModel
to_half = store_of (people_table ∷ joined_table ∷ []) (record { name = codes "FK"; from = table_id 0; from_cols = col_id 0 ∷ []; to = table_id 1; to_cols = col_id 0 ∷ [] } ∷ [])
