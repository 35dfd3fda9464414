-- The parts of a tree that holds texts hold texts.
use Rattle.std.proofs.Common.{◌≡◌, ℕ, List, [], Bool, true, false, cond, All, IsUtf8, Option, Some, None, unwrap_or, Ordering, Less, Equal, Greater, refl}
use Rattle.std.specs.Option.{option_map_or}
use Rattle.std.specs.Ordering.{match_ordering, nat_cmp}
use Rattle.std.specs.Cmp.Lexicographic.{slice_cmp}
use Rattle.std.specs.Str.{is_utf8}
use Rattle.std.proofs.lemmas.List.Elements.{All-cons, All-nil}
use Rattle.std.proofs.lemmas.Option.{none-some}
use Rattle.std.proofs.lemmas.Str.{IsUtf8-from_is_utf8, IsUtf8-nil}
use Rattle.serde_json.specs.Data.{Data, null, boolean, number, string, array, object, Items, no_items, item, Members, no_members, member}
use Rattle.serde_json.specs.Find.{as_str, get, get_member}
use Rattle.serde_json.specs.Read.{read}
use Rattle.json_form.specs.TreeParts.{items_in, list_of_items, tree_at}
use Rattle.json_form.specs.from_nodes.Reading.{items_at, object_at, text_at}
use Rattle.data_documents.specs.printed.Texts.{HasTexts, ItemsHaveTexts, MembersHaveTexts}
use Rattle.data_documents.proofs.printed.texts.Trees.{Finds, finds_then, read_texts}

by_utf8 : (bytes : List ℕ) (d : Data) (b : Bool) → is_utf8 bytes ≡ b → cond b (read bytes) None ≡ Some d → HasTexts d
by_utf8 bytes d true is found = read_texts bytes d (IsUtf8-from_is_utf8 bytes is) found
by_utf8 bytes d false is found = absurd (none-some d found)

-- what is read of bytes holds texts
pub read_of_bytes : (bytes : List ℕ) (d : Data) → tree_at bytes ≡ Some d → HasTexts d
read_of_bytes bytes d found = by_utf8 bytes d (is_utf8 bytes) refl found

member_texts : (ms : Members) → MembersHaveTexts ms → (name : List ℕ) → Finds HasTexts (get_member name ms)
member_texts no_members texts name = tt
member_texts (member l e ms) texts name = by (slice_cmp nat_cmp name l) (member_texts ms texts.2 name)
  where
    by : (o : Ordering) → Finds HasTexts (get_member name ms) → Finds HasTexts (match_ordering o (get_member name ms) (Some e) (get_member name ms))
    by Less later = later
    by Equal later = texts.1
    by Greater later = later

get_texts : (name : List ℕ) (d : Data) → HasTexts d → Finds HasTexts (get name d)
get_texts name null texts = tt
get_texts name (boolean b) texts = tt
get_texts name (number n) texts = tt
get_texts name (string s) texts = tt
get_texts name (array ds) texts = tt
get_texts name (object ms) texts = member_texts ms texts name

string_text : (d : Data) → HasTexts d → Finds IsUtf8 (as_str d)
string_text null texts = tt
string_text (boolean b) texts = tt
string_text (number n) texts = tt
string_text (string s) texts = texts
string_text (array ds) texts = tt
string_text (object ms) texts = tt

or_empty : (o : Option (List ℕ)) → Finds IsUtf8 o → IsUtf8 (unwrap_or o [])
or_empty None text = IsUtf8-nil
or_empty (Some s) text = text

-- the text of a member
pub text_at_text : (name : List ℕ) (d : Data) → HasTexts d → IsUtf8 (text_at name d)
text_at_text name d texts = or_empty _ (finds_then HasTexts IsUtf8 as_str string_text (get name d) (get_texts name d texts))

or_null : (o : Option Data) → Finds HasTexts o → HasTexts (unwrap_or o null)
or_null None texts = tt
or_null (Some d) texts = texts

-- a member
pub object_at_texts : (name : List ℕ) (d : Data) → HasTexts d → HasTexts (object_at name d)
object_at_texts name d texts = or_null (get name d) (get_texts name d texts)

list_texts : (ds : Items) → ItemsHaveTexts ds → All HasTexts (list_of_items ds)
list_texts no_items texts = All-nil HasTexts
list_texts (item d ds) texts = All-cons HasTexts d (list_of_items ds) texts.0 (list_texts ds texts.1)

items_in_texts : (d : Data) → HasTexts d → All HasTexts (items_in d)
items_in_texts null texts = All-nil HasTexts
items_in_texts (boolean b) texts = All-nil HasTexts
items_in_texts (number n) texts = All-nil HasTexts
items_in_texts (string s) texts = All-nil HasTexts
items_in_texts (array ds) texts = list_texts ds texts
items_in_texts (object ms) texts = All-nil HasTexts

or_no_items : (o : Option Data) → Finds HasTexts o → All HasTexts (option_map_or items_in o [])
or_no_items None texts = All-nil HasTexts
or_no_items (Some d) texts = items_in_texts d texts

-- the items of a member
pub items_at_texts : (name : List ℕ) (d : Data) → HasTexts d → All HasTexts (items_at name d)
items_at_texts name d texts = or_no_items (get name d) (get_texts name d texts)
