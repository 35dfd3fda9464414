-- What the steps of reading three documents answer.
use Rattle.std.specs.Prelude.{◌≡◌, ℕ, List, [], Some, None, Result, Ok, Err, ⊤}
use Rattle.serde_json.specs.Data.{Data}
use Rattle.json_form.specs.declared.doc.Doc.{Doc}
use Rattle.json_form.specs.Documents.{tree_of}
use Rattle.json_form.specs.TreeParts.{tree_at}
use Rattle.layouts.specs.declared.fault.Fault.{Fault}
use Rattle.layouts.specs.declared.rule.Rule.TheVariants.{IsJson}
use Rattle.edm_types.specs.declared.faults.VocabFault.{VocabFault}
use Rattle.edm_types.specs.declared.faults.VocabFault.TheVariants.{Rule, Memory}
use Rattle.round_trip.specs.Words.{VocabFile}
use Rattle.layouts.specs.told_rules.Reads.{Answers}
use Rattle.layouts.specs.told_rules.Told.{told_as}
use Rattle.mapping_core.specs.Rules.{IsFaultBy}

-- the document that a file holds; or, as it is told, that it holds none
abbrev pub ReadsTree : VocabFile → List ℕ → Result Doc VocabFault → Type 0
ReadsTree file bytes (Ok doc) = tree_at bytes ≡ Some (tree_of doc)
ReadsTree file bytes (Err (Rule told)) = (tree_at bytes ≡ None) × (told ≡ told_as file (record { rule = IsJson; place = [] }))
ReadsTree file bytes (Err Memory) = ⊤

-- what was read of the tree that a file holds
pub record IsReadOf {X : Type 0} (IsRead : Data → X → Type 0) (bytes : List ℕ) (read : X) : Type 0 where
  pub tree : Data
  pub held : tree_at bytes ≡ Some tree
  pub is_read : IsRead tree read

-- by the rules of a vocabulary, and what Ok says of what was read of the tree: else the least fault of the file is told. Memory says nothing.
abbrev pub ReadsFile : {X : Type 0} → VocabFile → (Data → Fault → Type 0) → (Data → X → Type 0) → List ℕ → Result X VocabFault → Type 0
ReadsFile file BreaksRule IsRead bytes = Answers file (IsFaultBy BreaksRule bytes) (IsReadOf IsRead bytes)
