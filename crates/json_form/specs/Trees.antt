-- Values, keys and places as JSON trees, texts in quotes, and objects made member by member.
-- Source: RFC 8259; a byte list is told as the text of its bytes in two lower-case hexadecimal digits each.
use Rattle.std.specs.Prelude.{ℕ, List, [], ◌∷◌, map, codes}
use Rattle.hex.specs.Hex.{encode_lower}
use Rattle.serde_json.specs.Data.{Data, null, boolean, number, string, array, object, Members, no_members, put}
use Rattle.serde_json.specs.Find.{of_integer}
use Rattle.serde_json.specs.View.{items_of}
use Rattle.serde_json.specs.Written.{compact_text}
use Rattle.emc_base.specs.declared.place.Place.{Place}
use Rattle.emc_base.specs.declared.value.Value.{Value}
use Rattle.emc_base.specs.declared.value.Value.TheVariants as value

-- a value: null, a number, a flag, a text, or a byte list as a text
abbrev pub value_tree : Value → Data
value_tree value.Null = null
value_tree (value.Whole n) = number (of_integer n)
value_tree (value.Flag flag) = boolean flag
value_tree (value.Text text) = string text
value_tree (value.Bytes bytes) = string (encode_lower bytes)

-- an array of trees
abbrev pub array_of : List Data → Data
array_of trees = array (items_of trees)

-- a key: the array of its values
abbrev pub key_tree : List Value → Data
key_tree key = array_of (map value_tree key)

-- the members with these put in one after another, each at its place by its name
abbrev pub put_all : Members → List (List ℕ × Data) → Members
put_all members [] = members
put_all members (entry ∷ entries) = put_all (put entry.0 entry.1 members) entries

-- the object of these members
abbrev pub object_of : List (List ℕ × Data) → Data
object_of entries = object (put_all no_members entries)

-- a text as JSON text
abbrev pub quoted : List ℕ → List ℕ
quoted text = compact_text (string text)

-- a place: the object of its three parts
abbrev pub place_tree : Place → Data
place_tree place = object (put (codes "part") (string place.part) (put (codes "name") (string place.name) (put (codes "key") (key_tree place.key) no_members)))
