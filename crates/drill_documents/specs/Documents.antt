-- The generated documents.
-- Source: this project's entity documents and change documents.
use Rattle.std.specs.Prelude.{ℕ, [], ◌∷◌, codes}
use Rattle.serde_json.specs.Data.{Data}
use Rattle.json_form.specs.Trees.{array_of, object_of}
use Rattle.drill_documents.specs.Lists.{changes, documents, links, people}

-- an entity document of this mapping: the links of the association set, and the entities of the two sets
abbrev pub tree_of_lists : Data → Data → Data → Data
tree_of_lists links documents people = object_of ((codes "Boss", links) ∷ (codes "Documents", documents) ∷ (codes "People", people) ∷ [])

-- the entity document
abbrev pub entities_tree : ℕ → ℕ → Data
entities_tree seed count = tree_of_lists (array_of (links seed count)) (array_of (documents seed count)) (array_of (people seed count))

-- the change document
abbrev pub changes_tree : ℕ → ℕ → Data
changes_tree seed count = array_of (changes seed count)
