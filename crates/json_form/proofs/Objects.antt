-- Objects made in a loop, and trees without floats.
use Rattle.std.proofs.Common.{◌≡◌, ◌+◌, ℕ, List, [], ◌∷◌, ◌++◌, map, take, Bool, true, false, ◌||◌, Some, slice_get, Ordering, Less, Equal, Greater, refl, ap, ◌∙◌, ℤ, pos, negsuc}
use Rattle.std.specs.Ordering.{match_ordering, nat_cmp}
use Rattle.std.specs.Cmp.Lexicographic.{slice_cmp}
use Rattle.std.proofs.lemmas.List.{map-append}
use Rattle.emc_base.proofs.Loops.{take_item}
use Rattle.serde_json.specs.Data.{Data, Members, no_members, member, put}
use Rattle.serde_json.specs.Find.{of_integer, is_float}
use Rattle.serde_json.specs.Written.{has_float, members_have_float}
use Rattle.emc_base.specs.declared.value.Value.{Value}
use Rattle.emc_base.specs.declared.value.Value.TheVariants as value
use Rattle.json_form.specs.Trees.{value_tree, key_tree, array_of, put_all}

pub put_all-append : (start : Members) (entries : List (List ℕ × Data)) (entry : List ℕ × Data)
    → put_all start (entries ++ entry ∷ []) ≡ put entry.0 entry.1 (put_all start entries)
put_all-append start [] entry = refl
put_all-append start (first ∷ entries) entry = put_all-append (put first.0 first.1 start) entries entry

-- one more turn of a loop that puts a member for each
pub put_all-take : {X : Type 0} (start : Members) (f : X → List ℕ × Data) (xs : List X) (i : ℕ) (x : X) → slice_get xs i ≡ Some x
    → put_all start (map f (take (i + 1) xs)) ≡ put (f x).0 (f x).1 (put_all start (map f (take i xs)))
put_all-take start f xs i x here =
    ap (λ taken. put_all start (map f taken)) (take_item xs i x here)
    ∙ ap (put_all start) (map-append f (take i xs) (x ∷ [])) ∙ put_all-append start (map f (take i xs)) (f x)

members_put : (o : Ordering) (name : List ℕ) (d e : Data) (other : List ℕ) (rest later : Members) → has_float d ≡ false → has_float e ≡ false
    → members_have_float rest ≡ false → members_have_float later ≡ false
    → members_have_float (match_ordering o (member name d (member other e rest)) (member other d rest) (member other e later)) ≡ false
members_put Less name d e other rest later plain kept others more = rw (plain, kept) others
members_put Equal name d e other rest later plain kept others more = rw plain others
members_put Greater name d e other rest later plain kept others more = rw kept more

or_false : (a b : Bool) → (a || b) ≡ false → (a ≡ false) × (b ≡ false)
or_false true b h = cc
or_false false b h = (refl, h)

-- a member without floats adds none
pub members_have_float-put : (name : List ℕ) (d : Data) (members : Members) → has_float d ≡ false → members_have_float members ≡ false
    → members_have_float (put name d members) ≡ false
members_have_float-put name d no_members plain none = rw plain refl
members_have_float-put name d (member other e rest) plain none =
    let parts = or_false (has_float e) (members_have_float rest) none in
    members_put (slice_cmp nat_cmp name other) name d e other rest (put name d rest) plain parts.0 parts.1 (members_have_float-put name d rest plain parts.1)

of_integer-plain : (n : ℤ) → is_float (of_integer n) ≡ false
of_integer-plain (pos n) = refl
of_integer-plain (negsuc n) = refl

pub value_tree-plain : (v : Value) → has_float (value_tree v) ≡ false
value_tree-plain value.Null = refl
value_tree-plain (value.Whole n) = of_integer-plain n
value_tree-plain (value.Flag flag) = refl
value_tree-plain (value.Text text) = refl
value_tree-plain (value.Bytes bytes) = refl

or_plain : (a b : Bool) → a ≡ false → b ≡ false → (a || b) ≡ false
or_plain a b first second = rw (first, second) refl

-- an array of trees without floats
pub array_of-plain : {X : Type 0} (f : X → Data) (xs : List X) → ((x : X) → has_float (f x) ≡ false) → has_float (array_of (map f xs)) ≡ false
array_of-plain f [] plain = refl
array_of-plain f (x ∷ xs) plain = or_plain (has_float (f x)) _ (plain x) (array_of-plain f xs plain)

pub key_tree-plain : (key : List Value) → has_float (key_tree key) ≡ false
key_tree-plain key = array_of-plain value_tree key value_tree-plain

-- members without floats stay so when members without floats are put in
pub put_all-plain : {X : Type 0} (start : Members) (f : X → List ℕ × Data) (xs : List X) → ((x : X) → has_float (f x).1 ≡ false)
    → members_have_float start ≡ false → members_have_float (put_all start (map f xs)) ≡ false
put_all-plain start f [] plain none = none
put_all-plain start f (x ∷ xs) plain none = put_all-plain (put (f x).0 (f x).1 start) f xs plain (members_have_float-put (f x).0 (f x).1 start (plain x) none)
