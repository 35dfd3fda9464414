-- Where a table document is of another shape than the store asks for.
-- Source: SSDL version 3, EntitySet, EntityType and Property; RFC 8259.
use Rattle.std.specs.Prelude.{◌≡◌, ◌⊎◌, ℕ, List, [], Option, Some, None, option_and_then, slice_get}
use Rattle.serde_json.specs.Data.{Data}
use Rattle.groupings.specs.least_fault.Least.{Among}
use Rattle.groupings.specs.name_places.GivenNames.{first_place}
use Rattle.edm_types.specs.declared.store.StoreModel.{StoreModel}
use Rattle.edm_types.specs.declared.store.Table.{Table}
use Rattle.edm_types.specs.declared.store.Column.{Column}
use Rattle.data_documents.specs.declared.shape_faults.place.ShapeStep.{ShapeStep}
use Rattle.data_documents.specs.shape_faults.Nodes.{IsArrayFault, IsLack, IsObjectFault}
use Rattle.data_documents.specs.shape_faults.Values.{value_in}

-- the table of a name, and the column of a name: the first, where names stand twice
abbrev pub table_named : List Table → List ℕ → Option Table
table_named tables name = option_and_then (slice_get tables) (first_place (λ table. table.name) tables name)

abbrev pub column_named : List Column → List ℕ → Option Column
column_named cols name = option_and_then (slice_get cols) (first_place (λ col. col.name) cols name)

-- a member of a row: it is that of no column, or of another form than the column's
abbrev pub IsCellFault : Option Column → Data → List ShapeStep → Type 0
IsCellFault None d place = place ≡ []
IsCellFault (Some column) d place = (value_in column.kind d ≡ None) × (place ≡ [])

-- a row: it is no object, or something is wrong with one of its members, or a column has none; named tells the column of a name
abbrev pub IsRowFaultBy : (List ℕ → Option Column) → List Column → Data → List ShapeStep → Type 0
IsRowFaultBy named cols d place =
    IsObjectFault (λ name. IsCellFault (named name)) d place ⊎ Among (λ rank column. IsLack rank column.name d) cols place

-- the rows of a table with these columns: no array, or something is wrong with one of its items
abbrev pub IsRowsFault : List Column → Data → List ShapeStep → Type 0
IsRowsFault cols = IsArrayFault (IsRowFaultBy (column_named cols) cols)

-- a member of the document: it is that of no table, or its rows aren't those of the table
abbrev pub IsMemberFault : Option Table → Data → List ShapeStep → Type 0
IsMemberFault None d place = place ≡ []
IsMemberFault (Some table) d place = IsRowsFault table.cols d place

-- the document: no object, or something is wrong with one of its members
abbrev pub IsDocFault : StoreModel → Data → List ShapeStep → Type 0
IsDocFault store = IsObjectFault (λ name. IsMemberFault (table_named store.tables name))
