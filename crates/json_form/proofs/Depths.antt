-- What stands in a node is less deep than the node.
use Rattle.std.proofs.Common.{◌≡◌, ◌<◌, ◌≤◌, ℕ, zero, suc, max, List, [], ◌∷◌, Some, arith, sym, subst}
use Rattle.std.proofs.Math.Nat.{le-max_left, le-max_right}
use Rattle.serde_json.specs.Data.{Data, null, boolean, number, string, array, object, Items, no_items, item, Members, depth, items_depth, members_depth}
use Rattle.serde_json.specs.Find.{as_object}
use Rattle.serde_json.specs.View.{members_view, view}
use Rattle.serde_json.proofs.Views.{Entry}
use Rattle.emc_base.specs.Lists.{At}
use Rattle.json_form.specs.TreeParts.{items_in, list_of_items}

listed_depth : (ds : Items) (i : ℕ) (part : Data) → At (list_of_items ds) i part → depth part ≤ items_depth ds
listed_depth no_items i part here = absurd cc
listed_depth (item d ds) zero part here =
    let is : d ≡ part = cc in
    let P : Data → Type 0 = λ e. depth e ≤ max (depth d) (items_depth ds) in
    subst P is (le-max_left (depth d) (items_depth ds))
listed_depth (item d ds) (suc i) part there =
    let less : depth part ≤ items_depth ds = listed_depth ds i part there in
    let more : items_depth ds ≤ max (depth d) (items_depth ds) = le-max_right (depth d) (items_depth ds) in
    omega arith

-- an item is less deep than its array
pub item_depth : (d : Data) (i : ℕ) (part : Data) → At (items_in d) i part → depth part < depth d
item_depth (array ds) i part here = let less : depth part ≤ items_depth ds = listed_depth ds i part here in omega arith
item_depth null i part here = absurd cc
item_depth (boolean b) i part here = absurd cc
item_depth (number n) i part here = absurd cc
item_depth (string s) i part here = absurd cc
item_depth (object ms) i part here = absurd cc

-- the tree of an entry is at most as deep as all of them
pub entry_depth : (entries : List Entry) (i : ℕ) (entry : Entry) → At entries i entry → depth (view entry.1) ≤ members_depth (members_view entries)
entry_depth [] i entry here = absurd cc
entry_depth (first ∷ entries) zero entry here =
    let is : first ≡ entry = cc in
    let P : Entry → Type 0 = λ e. depth (view e.1) ≤ max (depth (view first.1)) (members_depth (members_view entries)) in
    subst P is (le-max_left (depth (view first.1)) (members_depth (members_view entries)))
entry_depth (first ∷ entries) (suc i) entry there =
    let less : depth (view entry.1) ≤ members_depth (members_view entries) = entry_depth entries i entry there in
    let more : members_depth (members_view entries) ≤ max (depth (view first.1)) (members_depth (members_view entries)) = le-max_right (depth (view first.1)) (members_depth (members_view entries)) in
    omega arith

-- an object is deeper than its members
pub object_depth : (d : Data) (ms : Members) → Some ms ≡ as_object d → members_depth ms < depth d
object_depth (object es) ms is =
    let same : ms ≡ es = cc in
    let P : Members → Type 0 = λ m. members_depth m < suc (members_depth es) in
    subst P (sym same) (omega arith)
object_depth null ms is = absurd cc
object_depth (boolean b) ms is = absurd cc
object_depth (number n) ms is = absurd cc
object_depth (string s) ms is = absurd cc
object_depth (array ds) ms is = absurd cc
