-- The order of lent keys is that of what they show.
use Rattle.std.proofs.Common.{◌≡◌, List, [], ◌∷◌, map, filter, cond, Bool, true, false, refl, sym, ap, ◌∙◌}
use Rattle.std.specs.Borrow.{Bor}
use Rattle.std.specs.Cmp.{IsTotalOrder}
use Rattle.std.specs.Cmp.Lexicographic.{slice_cmp}
use Rattle.std.specs.Global.{Vec}
use Rattle.std.specs.Ordering.{is_eq, ordering_reverse, ordering_then}
use Rattle.std.specs.declared.cmp.Ordering.{Ordering}
use Rattle.emc_base.specs.Order.{value_cmp}
use Rattle.emc_base.specs.OrderLaws.{key_cmp_total}
use Rattle.edm_types.specs.Types.{Value}
use Rattle.groupings.specs.item_groups.Groups.{items_of}
use Rattle.keyed_rows.specs.row_groups.KeyGroups.{with_key}
use Rattle.keyed_rows.specs.row_groups.Shown.{shown_cells, shown_keyed}

-- the order of lent keys
abbrev pub lent_cmp : Vec (Bor Value) → Vec (Bor Value) → Ordering
lent_cmp one two = slice_cmp (λ (x y : Bor Value). value_cmp x.now y.now) one.items two.items

lists_cmp : (xs ys : List (Bor Value)) → slice_cmp (λ (x y : Bor Value). value_cmp x.now y.now) xs ys ≡ slice_cmp value_cmp (map (λ x. x.now) xs) (map (λ y. y.now) ys)
lists_cmp [] [] = refl
lists_cmp [] (y ∷ ys) = refl
lists_cmp (x ∷ xs) [] = refl
lists_cmp (x ∷ xs) (y ∷ ys) = ap (ordering_then (value_cmp x.now y.now)) (lists_cmp xs ys)

-- it is the order of what they show
pub shown_cmp : (one two : Vec (Bor Value)) → lent_cmp one two ≡ slice_cmp value_cmp (shown_cells one) (shown_cells two)
shown_cmp one two = lists_cmp one.items two.items

-- so it is total
pub lent_total : IsTotalOrder lent_cmp
lent_total = record {
  antisymm = λ x y. shown_cmp x y ∙ key_cmp_total.antisymm (shown_cells x) (shown_cells y) ∙ ap ordering_reverse (sym (shown_cmp y x));
  trans = λ x y z first second. shown_cmp x z
      ∙ key_cmp_total.trans (shown_cells x) (shown_cells y) (shown_cells z) (sym (shown_cmp x y) ∙ first) (sym (shown_cmp y z) ∙ second);
  congr = λ x y z same. shown_cmp x z ∙ key_cmp_total.congr (shown_cells x) (shown_cells y) (shown_cells z) (sym (shown_cmp x y) ∙ same) ∙ sym (shown_cmp y z);
}

module _ {X : Type 0} where
  one_item_more : (a b : Bool) (one : Vec (Bor Value) × X) (lent : List (Vec (Bor Value) × X)) (shown : List (List Value × X)) → a ≡ b
      → map (λ (item : Vec (Bor Value) × X). item.1) lent ≡ map (λ (item : List Value × X). item.1) shown
      → map (λ (item : Vec (Bor Value) × X). item.1) (cond a (one ∷ lent) lent) ≡ map (λ (item : List Value × X). item.1) (cond b (shown_keyed one ∷ shown) shown)
  one_item_more true true one lent shown same rest = ap (λ items. one.1 ∷ items) rest
  one_item_more false false one lent shown same rest = rest
  one_item_more true false one lent shown same rest = cc
  one_item_more false true one lent shown same rest = cc

  -- the items of a lent key are those of what it shows
  pub shown_items : (keyed : List (Vec (Bor Value) × X)) (key : Vec (Bor Value)) → items_of lent_cmp keyed key ≡ with_key (map shown_keyed keyed) (shown_cells key)
  shown_items [] key = refl
  shown_items (one ∷ keyed) key =
      one_item_more (is_eq (lent_cmp one.0 key)) (is_eq (slice_cmp value_cmp (shown_cells one.0) (shown_cells key))) one
      (filter (λ item. is_eq (lent_cmp item.0 key)) keyed) (filter (λ item. is_eq (slice_cmp value_cmp item.0 (shown_cells key))) (map shown_keyed keyed))
      (ap is_eq (shown_cmp one.0 key)) (shown_items keyed key)
