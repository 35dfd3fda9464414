-- A stable sort by keys leaves the items of each key as they stood.
use Rattle.std.proofs.Common.{◌≡◌, ◌&&◌, List, [], ◌∷◌, length, map, not, Bool, refl, sym, ap, ◌∙◌, arith}
use Rattle.std.specs.Cmp.{IsTotalOrder}
use Rattle.std.specs.List.Sorted.{IsStableBy, ties}
use Rattle.std.specs.Ordering.{is_eq, is_lt, ordering_reverse}
use Rattle.std.specs.declared.cmp.Ordering.{Ordering}
use Rattle.std.specs.declared.cmp.Ordering.TheVariants.{Less, Equal, Greater}
use Rattle.std.proofs.lemmas.List.Elements.{filter_agree}
use Rattle.groupings.specs.item_groups.Groups.{items_of}

-- what is neither less nor greater is equal
neither : (order : Ordering) → (not (is_lt (ordering_reverse order)) && not (is_lt order)) ≡ is_eq order
neither Less = refl
neither Equal = refl
neither Greater = refl

module _ {K X : Type 0} (cmp : K → K → Ordering) (total : IsTotalOrder cmp) where
  -- whether an item comes before another, by their keys
  abbrev pub before : K × X → K × X → Bool
  before one other = is_lt (cmp one.0 other.0)

  -- whether an item ties with one of a key, and whether its key is equal to that
  tied : (key : K) (x : X) (one : K × X) → ties before (key, x) one ≡ is_eq (cmp one.0 key)
  tied key x one = ap (λ order. not (is_lt order) && not (is_lt (cmp one.0 key))) (total.antisymm key one.0) ∙ neither (cmp one.0 key)

  pub stable_items : (keyed sorted : List (K × X)) → length sorted ≡ length keyed → IsStableBy before keyed sorted → (key : K)
      → items_of cmp sorted key ≡ items_of cmp keyed key
  stable_items [] [] same stable key = refl
  stable_items [] (one ∷ sorted) same stable key = absurd (omega arith)
  stable_items (first ∷ keyed) sorted same stable key =
      let tie = filter_agree (ties before (key, first.1)) (λ one. is_eq (cmp one.0 key)) (tied key first.1) in
      ap (map (λ (one : K × X). one.1)) (sym (tie sorted) ∙ stable (key, first.1) ∙ tie (first ∷ keyed))
