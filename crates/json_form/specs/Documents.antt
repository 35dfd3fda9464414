-- What a document holds, and what reading one answers.
use Rattle.std.specs.Prelude.{◌≡◌, ℕ, List, [], ◌∷◌, ◌++◌, Option, Some, None, Result, Ok, Err, ⊤}
use Rattle.serde_json.specs.Data.{Data}
use Rattle.serde_json.specs.View.{view}
use Rattle.serde_json.specs.Written.{compact_text}
use Rattle.json_form.specs.declared.doc.Doc.{Doc}
use Rattle.json_form.specs.declared.doc.DocFault.{DocFault}
use Rattle.json_form.specs.declared.doc.DocFault.TheVariants.{NotJson, Memory}

-- the tree of a document
abbrev pub tree_of : Doc → Data
tree_of doc = view doc.tree

-- The answer is the tree, and NotJson exactly where there is none, want of memory aside.
abbrev pub Reads : Option Data → Result Doc DocFault → Type 0
Reads tree (Ok doc) = tree ≡ Some (tree_of doc)
Reads tree (Err NotJson) = tree ≡ None
Reads tree (Err Memory) = ⊤

-- a printed document: its compact text and one line feed
abbrev pub printed : Data → List ℕ
printed d = compact_text d ++ 10 ∷ []
