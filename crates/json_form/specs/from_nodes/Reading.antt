-- The members of a node by their names, each with a default where it is missing or of another sort.
use Rattle.std.specs.Prelude.{ℕ, ℤ, List, [], Bool, Option, map, option_and_then, unwrap_or}
use Rattle.std.specs.Option.{option_map_or}
use Rattle.serde_json.specs.Data.{Data, null}
use Rattle.serde_json.specs.Find.{as_bool, as_str, get}
use Rattle.json_form.specs.TreeParts.{items_in, whole_of}

-- the member of a name; null where there is none
abbrev pub object_at : List ℕ → Data → Data
object_at name d = unwrap_or (get name d) null

-- its text, where it is one
abbrev pub optional_text_at : List ℕ → Data → Option (List ℕ)
optional_text_at name d = option_and_then as_str (get name d)

-- its text; the empty text where it is none
abbrev pub text_at : List ℕ → Data → List ℕ
text_at name d = unwrap_or (optional_text_at name d) []

-- its flag; the default where it is none
abbrev pub flag_at : List ℕ → Bool → Data → Bool
flag_at name default d = unwrap_or (option_and_then as_bool (get name d)) default

-- its number, where it is whole and fits 64 bits with a sign
abbrev pub whole_at : List ℕ → Data → Option ℤ
whole_at name d = option_and_then whole_of (get name d)

-- the items of the array of this name; none where there is no array
abbrev pub items_at : List ℕ → Data → List Data
items_at name d = option_map_or items_in (get name d) []

-- a text, and the empty text where it is none
abbrev pub text_of : Data → List ℕ
text_of d = unwrap_or (as_str d) []

-- the texts of the array of this name
abbrev pub texts_at : List ℕ → Data → List (List ℕ)
texts_at name d = map text_of (items_at name d)
