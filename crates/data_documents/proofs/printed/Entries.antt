-- Objects and arrays that are made of entries and of trees: what is so of each of these is so of what stands in them.
use Rattle.std.proofs.Common.{◌≡◌, ◌-◌, ◌<◌, inl, inr, ℕ, zero, suc, List, [], ◌∷◌, map, All, IsUtf8, Option, Ordering, Less, Equal, Greater, refl, ap, subst, ◌∙◌}
use Rattle.std.specs.Prelude.{⊤}
use Rattle.std.specs.Option.{option_map_or}
use Rattle.std.specs.Ordering.{match_ordering, nat_cmp}
use Rattle.std.specs.Cmp.Lexicographic.{slice_cmp}
use Rattle.std.specs.FinMap.{nat_cmp-IsAntisymmetric, slice_cmp-IsAntisymmetric}
use Rattle.std.proofs.lemmas.List.Elements.{All-head, All-map, All-tail}
use Rattle.std.proofs.lemmas.Option.{same_Some}
use Rattle.serde_json.specs.Data.{Data, Members, no_members, member, put}
use Rattle.serde_json.specs.View.{items_of}
use Rattle.emc_base.specs.Lists.{At}
use Rattle.json_form.specs.TreeParts.{items_in, list_of_items, list_of_members}
use Rattle.json_form.specs.Trees.{array_of, object_of, put_all}
use Rattle.entity_state.specs.Tells.{TellsEach}
use Rattle.data_documents.specs.declared.shape_faults.place.ShapeStep.{ShapeStep}
use Rattle.data_documents.specs.shape_faults.Nodes.{IsArrayFault, IsObjectFault}
use Rattle.data_documents.proofs.printed.Lists.{all_at, given_back}
use Rattle.data_documents.proofs.printed.spelled.Rising.{IsRising, rising_put}
use Rattle.data_documents.proofs.printed.spelled.Whole.{AreWhole, HaveWhole, IsWhole, have_put}

-- the items of an array of trees are the trees
pub listed : (trees : List Data) → list_of_items (items_of trees) ≡ trees
listed [] = refl
listed (tree ∷ trees) = ap (λ rest. tree ∷ rest) (listed trees)

-- an entry whose name is a text, and whose tree is told part by part
abbrev pub IsWholeEntry : ℕ → List ℕ × Data → Type 0
IsWholeEntry n entry = IsUtf8 entry.0 × IsWhole n entry.1

put_whole : (n : ℕ) (start : Members) (entries : List (List ℕ × Data)) → All (IsWholeEntry n) entries → HaveWhole n start → IsRising start
    → HaveWhole n (put_all start entries) × IsRising (put_all start entries)
put_whole n start [] all have rising = (have, rising)
put_whole n start (entry ∷ entries) all have rising =
    let first = All-head (IsWholeEntry n) entry entries all in
    put_whole n (put entry.0 entry.1 start) entries (All-tail (IsWholeEntry n) entry entries all)
    (have_put n entry.0 entry.1 start first.0 first.1 have) (rising_put entry.0 entry.1 start rising)

-- an object of such entries is told part by part
pub object_whole : (n : ℕ) (entries : List (List ℕ × Data)) → 0 < n → All (IsWholeEntry (n - 1)) entries → IsWhole n (object_of entries)
object_whole n entries some all = let put = put_whole (n - 1) no_members entries all tt tt in (some, put.0, put.1)

are_whole : (n : ℕ) (trees : List Data) → All (IsWhole n) trees → AreWhole n (items_of trees)
are_whole n [] all = tt
are_whole n (tree ∷ trees) all = (All-head (IsWhole n) tree trees all, are_whole n trees (All-tail (IsWhole n) tree trees all))

module _ {X : Type 0} (f : X → Data) (xs : List X) where
  -- an array of trees that are told part by part is told so
  pub array_whole : (n : ℕ) → 0 < n → All (λ x. IsWhole (n - 1) (f x)) xs → IsWhole n (array_of (map f xs))
  array_whole n some all = (some, are_whole (n - 1) (map f xs) (All-map (IsWhole (n - 1)) f xs all))

  -- nothing is wrong with an array of trees with none of which something is wrong
  pub array_good : (IsWrong : Data → List ShapeStep → Type 0) → All (λ x. (place : List ShapeStep) → ¬ IsWrong (f x) place) xs
      → (place : List ShapeStep) → ¬ IsArrayFault IsWrong (array_of (map f xs)) place
  array_good IsWrong all place (inl none) = absurd (none.0 refl)
  array_good IsWrong all place (inr among) =
      let IsGoodTree : Data → Type 0 = λ tree. (inside : List ShapeStep) → ¬ IsWrong tree inside in
      let at : At (map f xs) among.i among.item = subst (λ items. At items among.i among.item) (listed (map f xs)) among.here in
      all_at IsGoodTree (map f xs) among.i among.item (All-map IsGoodTree f xs all) at among.holds.rest among.holds.holds

-- where a member is the array of trees that tell these items, and each tree gives its item, it gives the items
pub member_back : {X : Type 0} (P : X → Type 0) (R : X → Data → Type 0) (f : Data → X) → ((x : X) (d : Data) → P x → R x d → f d ≡ x) → (xs : List X) → All P xs
    → (found : Option Data) → TellsEach R xs found → map f (option_map_or items_in found []) ≡ xs
member_back P R f back xs all found told =
    ap (λ member. map f (option_map_or items_in member [])) told.1 ∙ ap (map f) (listed told.0) ∙ given_back P R f back xs told.0 all told.2

module _ (P : List ℕ × Data → Type 0) where
  abbrev Holds : Members → Type 0
  Holds no_members = ⊤
  Holds (member k d ms) = P (k, d) × Holds ms

  holds_put : (k : List ℕ) (d : Data) (ms : Members) → P (k, d) → Holds ms → Holds (put k d ms)
  holds_put k d no_members one holds = (one, tt)
  holds_put k d (member l e ms) one holds = by (slice_cmp nat_cmp k l) refl (holds_put k d ms one holds.1)
    where
      by : (o : Ordering) → slice_cmp nat_cmp k l ≡ o → Holds (put k d ms) → Holds (match_ordering o (member k d (member l e ms)) (member l d ms) (member l e (put k d ms)))
      by Less is later = (one, holds)
      by Equal is later =
          let same : k ≡ l = slice_cmp-IsAntisymmetric nat_cmp-IsAntisymmetric k l is in
          let Q : List ℕ → Type 0 = λ name. P (name, d) in
          (subst Q same one, holds.1)
      by Greater is later = (holds.0, later)

  holds_all : (start : Members) (entries : List (List ℕ × Data)) → Holds start → All P entries → Holds (put_all start entries)
  holds_all start [] holds all = holds
  holds_all start (entry ∷ entries) holds all =
      holds_all (put entry.0 entry.1 start) entries (holds_put entry.0 entry.1 start (All-head P entry entries all) holds) (All-tail P entry entries all)

  holds_at : (ms : Members) (i : ℕ) (entry : List ℕ × Data) → Holds ms → At (list_of_members ms) i entry → P entry
  holds_at no_members i entry holds here = absurd cc
  holds_at (member k d ms) zero entry holds here = subst P (same_Some (k, d) entry here) holds.0
  holds_at (member k d ms) (suc i) entry holds here = holds_at ms i entry holds.1 here

  -- what is so of each entry is so of each member
  each_member : (entries : List (List ℕ × Data)) → All P entries → (i : ℕ) (entry : List ℕ × Data) → At (list_of_members (put_all no_members entries)) i entry → P entry
  each_member entries all i entry here = holds_at (put_all no_members entries) i entry (holds_all no_members entries tt all) here

-- nothing is wrong with an object of entries with none of which something is wrong
pub object_good : (IsWrong : List ℕ → Data → List ShapeStep → Type 0) (entries : List (List ℕ × Data))
    → All (λ entry. (place : List ShapeStep) → ¬ IsWrong entry.0 entry.1 place) entries → (place : List ShapeStep) → ¬ IsObjectFault IsWrong (object_of entries) place
object_good IsWrong entries all place (inl none) = absurd (none.0 refl)
object_good IsWrong entries all place (inr among) =
    each_member (λ entry. (inside : List ShapeStep) → ¬ IsWrong entry.0 entry.1 inside) entries all among.i among.item among.here among.holds.rest among.holds.holds
