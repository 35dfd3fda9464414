-- What reading a document of entities, of tables or of changes answers.
-- Source: RFC 8259; this project's entity documents, table documents and change documents.
use Rattle.std.specs.Prelude.{◌≡◌, ◌⊎◌, ℕ, List, [], Some, None, Result, Ok, Err, ⊤}
use Rattle.serde_json.specs.Data.{Data}
use Rattle.json_form.specs.declared.doc.Doc.{Doc}
use Rattle.json_form.specs.Documents.{tree_of}
use Rattle.json_form.specs.TreeParts.{tree_at}
use Rattle.data_documents.specs.declared.shape_faults.fault.ShapeFault.{ShapeFault}
use Rattle.data_documents.specs.declared.shape_faults.fault.ShapeFault.TheVariants.{Shape, Memory}
use Rattle.data_documents.specs.entity_documents.DocShapes.{IsDocFault}
use Rattle.data_documents.specs.entity_documents.Reading.{FailsFirstAt, MeansState, ReadAs}
use Rattle.data_documents.specs.change_documents.Reading.{TellsChanges}
use Rattle.data_documents.specs.change_documents.Shapes as change
use Rattle.data_documents.specs.table_documents.Reading as table
use Rattle.entity_changes.specs.declared.change.Change.{Change}
use Rattle.round_trip.specs.Words.{EntityModel, State, StoreModel, Tables}

-- the document that a file holds; or that it holds none, which is told at the root. Memory says nothing.
abbrev pub ReadsDocument : List ℕ → Result Doc ShapeFault → Type 0
ReadsDocument bytes (Ok doc) = tree_at bytes ≡ Some (tree_of doc)
ReadsDocument bytes (Err (Shape pointer)) = (tree_at bytes ≡ None) × (pointer ≡ [])
ReadsDocument bytes (Err Memory) = ⊤

-- the file holds a document of the right shape, and this is the state that it tells
abbrev pub HoldsState : EntityModel → List ℕ → State → Type 0
HoldsState model bytes state = (d : Data) × (tree_at bytes ≡ Some d) × ReadAs (IsDocFault model d) (MeansState model d) state

-- the file holds no document, which is told at the root; or one of another shape, and this is the first place where that is so
abbrev pub HoldsNoState : EntityModel → List ℕ → List ℕ → Type 0
HoldsNoState model bytes pointer = ((tree_at bytes ≡ None) × (pointer ≡ [])) ⊎ ((d : Data) × (tree_at bytes ≡ Some d) × FailsFirstAt (IsDocFault model d) [] pointer)

-- the state, or the first place of another shape. Memory says nothing.
abbrev pub ReadsEntities : EntityModel → List ℕ → Result State ShapeFault → Type 0
ReadsEntities model bytes (Ok state) = HoldsState model bytes state
ReadsEntities model bytes (Err (Shape pointer)) = HoldsNoState model bytes pointer
ReadsEntities model bytes (Err Memory) = ⊤

-- the file holds a document of the right shape, and these are the tables that it tells
abbrev pub HoldsTables : StoreModel → List ℕ → Tables → Type 0
HoldsTables store bytes tables = (d : Data) × (tree_at bytes ≡ Some d) × table.ReadAs store d tables

-- the file holds no document, which is told at the root; or one of another shape, and this is the first place where that is so
abbrev pub HoldsNoTables : StoreModel → List ℕ → List ℕ → Type 0
HoldsNoTables store bytes pointer = ((tree_at bytes ≡ None) × (pointer ≡ [])) ⊎ ((d : Data) × (tree_at bytes ≡ Some d) × table.FailsFirstAt store d pointer)

-- the tables, or the first place of another shape. Memory says nothing.
abbrev pub ReadsTables : StoreModel → List ℕ → Result Tables ShapeFault → Type 0
ReadsTables store bytes (Ok tables) = HoldsTables store bytes tables
ReadsTables store bytes (Err (Shape pointer)) = HoldsNoTables store bytes pointer
ReadsTables store bytes (Err Memory) = ⊤

-- the file holds a document of the right shape, and these are the changes that it tells
abbrev pub HoldsChanges : EntityModel → List ℕ → List Change → Type 0
HoldsChanges model bytes changes = (d : Data) × (tree_at bytes ≡ Some d) × ReadAs (change.IsDocFault model d) (TellsChanges model d) changes

-- the file holds no document, which is told at the root; or one of another shape, and this is the first place where that is so
abbrev pub HoldsNoChanges : EntityModel → List ℕ → List ℕ → Type 0
HoldsNoChanges model bytes pointer = ((tree_at bytes ≡ None) × (pointer ≡ []))
    ⊎ ((d : Data) × (tree_at bytes ≡ Some d) × FailsFirstAt (change.IsDocFault model d) [] pointer)

-- the changes, or the first place of another shape. Memory says nothing.
abbrev pub ReadsChangeList : EntityModel → List ℕ → Result (List Change) ShapeFault → Type 0
ReadsChangeList model bytes (Ok changes) = HoldsChanges model bytes changes
ReadsChangeList model bytes (Err (Shape pointer)) = HoldsNoChanges model bytes pointer
ReadsChangeList model bytes (Err Memory) = ⊤
