-- Items and members of a tree as lists.
use Rattle.std.proofs.Common.{◌≡◌, ℕ, zero, suc, List, [], ◌∷◌, map, Option, Some, None, option_map, String, Vec, BTreeMap, Global, string_bytes, refl, sym, ap, ◌∙◌, slice_get, btree_map_len, Bool, true, false, cond}
use Rattle.std.proofs.Math.ListN.{length-map}
use Rattle.std.proofs.lemmas.Option.{slice_get-map}
use Rattle.std.specs.Vec.{vec_len}
use Rattle.std.specs.Str.{is_utf8, IsUtf8}
use Rattle.std.proofs.lemmas.Str.{is_utf8-from_IsUtf8, IsUtf8-from_is_utf8}
use Rattle.serde_json.specs.Read.{read}
use Rattle.serde_json.specs.Data.{Data, null, boolean, number, string, array, object, Items, no_items, item, Members}
use Rattle.serde_json.specs.Find.{at, get_item, as_object}
use Rattle.serde_json.specs.View.{view, items_view, members_view}
use Rattle.serde_json.specs.declared.value.Value.{Value, Array, Object}
use Rattle.serde_json.proofs.Views.{view-Array, view-Object, Entry}
use Rattle.json_form.specs.TreeParts.{items_in, members_in, count_in, tree_at, list_of_items, list_of_members}

-- an object's entries as names and trees
abbrev pub shown : Entry → List ℕ × Data
shown entry = (string_bytes entry.0, view entry.1)

get_item-list_of_items : (i : ℕ) (ds : Items) → get_item i ds ≡ slice_get (list_of_items ds) i
get_item-list_of_items i no_items = refl
get_item-list_of_items zero (item d ds) = refl
get_item-list_of_items (suc i) (item d ds) = get_item-list_of_items i ds

-- the item at a place, by the list of items
pub at-items_in : (i : ℕ) (d : Data) → at i d ≡ slice_get (items_in d) i
at-items_in i null = refl
at-items_in i (boolean b) = refl
at-items_in i (number n) = refl
at-items_in i (string s) = refl
at-items_in i (array ds) = get_item-list_of_items i ds
at-items_in i (object ms) = refl

pub list_of_items-items_view : (vs : List Value) → list_of_items (items_view vs) ≡ map view vs
list_of_items-items_view [] = refl
list_of_items-items_view (v ∷ vs) = ap (λ ds. view v ∷ ds) (list_of_items-items_view vs)

pub list_of_members-members_view : (es : List Entry) → list_of_members (members_view es) ≡ map shown es
list_of_members-members_view [] = refl
list_of_members-members_view (e ∷ es) = ap (λ ms. shown e ∷ ms) (list_of_members-members_view es)

pub items_in-Array : (v : Vec Value Global) → items_in (view (Array v)) ≡ map view v.items
items_in-Array v = rw (view-Array v) (list_of_items-items_view v.items)

pub count_in-Array : (v : Vec Value Global) → count_in (view (Array v)) ≡ vec_len v
count_in-Array v = rw (view-Array v, list_of_items-items_view) (length-map v.items view ∙ sym v.ok.0)

pub count_in-Object : (m : BTreeMap (String Global) Value) → count_in (view (Object m)) ≡ btree_map_len m
count_in-Object m = rw (view-Object m, list_of_members-members_view) (length-map m.entries shown)

members_in-as_object : (d : Data) (ms : Members) → Some ms ≡ as_object d → members_in d ≡ list_of_members ms
members_in-as_object null ms is = cc
members_in-as_object (boolean b) ms is = cc
members_in-as_object (number n) ms is = cc
members_in-as_object (string s) ms is = cc
members_in-as_object (array ds) ms is = cc
members_in-as_object (object es) ms is = let same : ms ≡ es = cc in ap list_of_members (sym same)

-- the members, by the entries of the map that keeps them
pub members_in-entries : (d : Data) (es : List Entry) → Some (members_view es) ≡ as_object d → members_in d ≡ map shown es
members_in-entries d es is = members_in-as_object d (members_view es) is ∙ list_of_members-members_view es

-- the member at a place
pub slice_get-members_in : (d : Data) (es : List Entry) (i : ℕ) → Some (members_view es) ≡ as_object d → slice_get (members_in d) i ≡ option_map shown (slice_get es i)
slice_get-members_in d es i is = ap (λ ms. slice_get ms i) (members_in-entries d es is) ∙ slice_get-map shown es i

-- what is no object has no members
pub members_in-None : (d : Data) → None ≡ as_object d → members_in d ≡ []
members_in-None null is = refl
members_in-None (boolean b) is = refl
members_in-None (number n) is = refl
members_in-None (string s) is = refl
members_in-None (array ds) is = refl
members_in-None (object es) is = cc

none_by : (utf8 : Bool) (tree : Option Data) → (utf8 ≡ true → tree ≡ None) → cond utf8 tree None ≡ None
none_by true tree none = none refl
none_by false tree none = refl

-- no tree stands in bytes that are no text, nor in a text that isn't read
pub tree_at-None : (bytes : List ℕ) → (IsUtf8 bytes → read bytes ≡ None) → tree_at bytes ≡ None
tree_at-None bytes none = none_by (is_utf8 bytes) (read bytes) (λ e. none (IsUtf8-from_is_utf8 bytes e))

-- the tree of a text is what is read of it
pub tree_at-text : (bytes : List ℕ) → IsUtf8 bytes → tree_at bytes ≡ read bytes
tree_at-text bytes text = ap (λ utf8. cond utf8 (read bytes) None) (is_utf8-from_IsUtf8 bytes text)
