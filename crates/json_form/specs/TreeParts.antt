-- The parts of a JSON tree, and what a list of bytes is read as.
-- Source: RFC 8259 as the crate `serde_json` reads it. Of a member that stands twice the last counts, members are in byte order
-- of their names, arrays and objects nest at most 127 deep, and a whole number past 64 bits is a float.
use Rattle.std.specs.Prelude.{ℕ, ℤ, List, [], ◌∷◌, length, Option, None, option_and_then, if◌then◌else◌}
use Rattle.std.specs.Str.{is_utf8}
use Rattle.serde_json.specs.Data.{Data, null, boolean, number, string, array, object, Items, no_items, item, Members, no_members, member}
use Rattle.serde_json.specs.Read.{read}
use Rattle.serde_json.specs.Find.{as_number, as_i64}

-- the tree that the bytes are read as
abbrev pub tree_at : List ℕ → Option Data
tree_at bytes = if is_utf8 bytes then read bytes else None

-- items as a list
abbrev pub list_of_items : Items → List Data
list_of_items no_items = []
list_of_items (item d ds) = d ∷ list_of_items ds

-- members as a list of names and trees
abbrev pub list_of_members : Members → List (List ℕ × Data)
list_of_members no_members = []
list_of_members (member name d ds) = (name, d) ∷ list_of_members ds

-- the items of an array, and none of anything else
abbrev pub items_in : Data → List Data
items_in null = []
items_in (boolean b) = []
items_in (number n) = []
items_in (string s) = []
items_in (array ds) = list_of_items ds
items_in (object ms) = []

-- the members of an object in byte order of their names, and none of anything else
abbrev pub members_in : Data → List (List ℕ × Data)
members_in null = []
members_in (boolean b) = []
members_in (number n) = []
members_in (string s) = []
members_in (array ds) = []
members_in (object ms) = list_of_members ms

-- how many items or members there are
abbrev pub count_in : Data → ℕ
count_in null = 0
count_in (boolean b) = 0
count_in (number n) = 0
count_in (string s) = 0
count_in (array ds) = length (list_of_items ds)
count_in (object ms) = length (list_of_members ms)

-- a number that is whole and fits 64 bits with a sign
abbrev pub whole_of : Data → Option ℤ
whole_of d = option_and_then as_i64 (as_number d)
