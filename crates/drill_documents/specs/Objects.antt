-- The objects of the generated documents, each by its Id and its draw.
-- Source: this project's entity documents and change documents.
use Rattle.std.specs.Prelude.{ℕ, List, [], ◌∷◌, ◌++◌, ◌%◌, ◌==◌, Bool, if◌then◌else◌, codes, decimal}
use Rattle.serde_json.specs.Data.{Data, null, number, string, unsigned}
use Rattle.json_form.specs.Trees.{array_of, object_of}

-- a number as JSON
abbrev pub whole : ℕ → Data
whole n = number (unsigned n)

-- an Employee of this Id, name and level
abbrev pub employee : ℕ → List ℕ → Data → Data
employee i name level = object_of ((codes "$type", string (codes "N.Employee")) ∷ (codes "Id", whole i) ∷ (codes "Level", level) ∷ (codes "Name", string name) ∷ [])

-- a Person who is no Employee
abbrev pub plain_person : ℕ → List ℕ → Data
plain_person i name = object_of ((codes "$type", string (codes "N.Person")) ∷ (codes "Id", whole i) ∷ (codes "Name", string name) ∷ [])

-- whether the person of a draw is an Employee: where it is odd
abbrev pub is_employee : ℕ → Bool
is_employee d = d % 2 == 1

-- person i under a name: an Employee, whose level is the draw, or a plain Person
abbrev pub person_named : ℕ → ℕ → List ℕ → Data
person_named i d name = if is_employee d then employee i name (whole d) else plain_person i name

-- person i: the name is the letter n and the draw
abbrev pub person : ℕ → ℕ → Data
person i d = person_named i d (codes "n" ++ decimal d)

-- whether the document of a draw is a Report: where it is a multiple of 5
abbrev pub is_report : ℕ → Bool
is_report d = d % 5 == 0

-- document i: the title is the letter t and the Id; a Report, whose pages are the draw, or a plain Document
abbrev pub document : ℕ → ℕ → Data
document i d = let title = string (codes "t" ++ decimal i) in if is_report d
    then object_of ((codes "$type", string (codes "N.Report")) ∷ (codes "Id", whole i) ∷ (codes "Pages", whole d) ∷ (codes "Title", title) ∷ [])
    else object_of ((codes "$type", string (codes "N.Document")) ∷ (codes "Id", whole i) ∷ (codes "Title", title) ∷ [])

-- the link of Employee i to a manager
abbrev pub link : ℕ → ℕ → Data
link i manager = object_of ((codes "Manager", array_of (whole manager ∷ [])) ∷ (codes "Staff", array_of (whole i ∷ [])) ∷ [])

-- a change of the set People that gives an entity
abbrev pub change_of_person : List ℕ → Data → Data
change_of_person op entity = object_of ((codes "entity", entity) ∷ (codes "op", string op) ∷ (codes "set", string (codes "People")) ∷ [])

-- person i gets another name, the letter m and the Id
abbrev pub renamed : ℕ → ℕ → Data
renamed i d = change_of_person (codes "update") (person_named i d (codes "m" ++ decimal i))

-- an Employee of this Id comes, whose name is new and whose level isn't known
abbrev pub hired : ℕ → Data
hired i = change_of_person (codes "insert") (employee i (codes "new") null)

-- document 1 goes
abbrev pub first_document_gone : Data
first_document_gone = object_of ((codes "key", array_of (whole 1 ∷ [])) ∷ (codes "op", string (codes "delete")) ∷ (codes "set", string (codes "Documents")) ∷ [])
