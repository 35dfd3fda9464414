-- What reading a table document answers.
use Rattle.std.specs.Prelude.{◌≡◌, ℕ, List, Result, Ok, Err, Some, None, ⊤}
use Rattle.serde_json.specs.Data.{Data}
use Rattle.groupings.specs.least_fault.Least.{IsLeast}
use Rattle.round_trip.specs.Words.{StoreModel}
use Rattle.edm_types.specs.Rows.{AreTables, Tables}
use Rattle.data_documents.specs.declared.shape_faults.fault.ShapeFault.{ShapeFault}
use Rattle.data_documents.specs.declared.shape_faults.fault.ShapeFault.TheVariants.{Shape, Memory}
use Rattle.data_documents.specs.declared.shape_faults.place.ShapeStep.{ShapeStep}
use Rattle.data_documents.specs.shape_faults.Places.{place_cmp, pointer_of_place}
use Rattle.data_documents.specs.table_documents.Shapes.{IsDocFault}
use Rattle.data_documents.specs.table_documents.Tables.{tables_in}

-- the document has the shape that the store asks for, and these are its tables
pub record ReadAs (store : StoreModel) (d : Data) (tables : Tables) : Type 0 where
  pub shape : IsLeast place_cmp (IsDocFault store d) None
  pub tables_are : tables ≡ tables_in store d
  pub fit : AreTables store tables

-- it hasn't, and this is the pointer of the first place where that is so
pub record FailsFirstAt (store : StoreModel) (d : Data) (pointer : List ℕ) : Type 0 where
  pub place : List ShapeStep
  pub first : IsLeast place_cmp (IsDocFault store d) (Some place)
  pub told : pointer ≡ pointer_of_place place

-- the tables, or the first place of another shape; want of memory says nothing
abbrev pub ReadsTables : StoreModel → Data → Result Tables ShapeFault → Type 0
ReadsTables store d (Ok tables) = ReadAs store d tables
ReadsTables store d (Err (Shape pointer)) = FailsFirstAt store d pointer
ReadsTables store d (Err Memory) = ⊤
