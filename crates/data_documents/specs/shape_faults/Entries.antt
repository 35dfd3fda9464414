-- Members as entries of the map that keeps them.
use Rattle.std.specs.Prelude.{ℕ, List, String, string_bytes}
use Rattle.std.specs.declared.alloc.Global.{Global}
use Rattle.serde_json.specs.declared.value.Value.{Value}
use Rattle.serde_json.specs.Data.{Data}
use Rattle.serde_json.specs.View.{view}
use Rattle.groupings.specs.least_fault.Least.{Among}
use Rattle.data_documents.specs.declared.shape_faults.place.ShapeStep.{ShapeStep}
use Rattle.data_documents.specs.declared.shape_faults.place.ShapeStep.TheVariants.{Member}
use Rattle.data_documents.specs.shape_faults.Nodes.{Behind}

-- P says what is wrong with a member, seen from it; the same of an entry, at whatever place it stands, seen from the object
abbrev pub AtEntry : (List ℕ → Data → List ShapeStep → Type 0) → ℕ → String Global × Value → List ShapeStep → Type 0
AtEntry P i entry = Behind (Member (string_bytes entry.0)) (P (string_bytes entry.0) (view entry.1))

-- the same of any entry
abbrev pub InEntries : (List ℕ → Data → List ShapeStep → Type 0) → List (String Global × Value) → List ShapeStep → Type 0
InEntries P = Among (AtEntry P)
