-- What a stable sort of lent items ensures, of the items that they stand for.
use Rattle.std.proofs.Common.{◌≡◌, ◌+◌, ◌<◌, List, [], ◌∷◌, length, map, filter, Bool, true, false, cond, IsPermutation, refl, sym, ap, ◌∙◌, arith}
use Rattle.std.specs.Borrow.{Bor}
use Rattle.std.specs.Cmp.{IsTotalOrder}
use Rattle.std.specs.Cmp.Lexicographic.{slice_cmp}
use Rattle.std.specs.List.Sorted.{IsSortedBy, IsStableBy, ties}
use Rattle.std.specs.declared.cmp.Ordering.{Ordering}
use Rattle.std.specs.Ordering.{is_lt}
use Rattle.std.proofs.lemmas.Cmp.{on_total, then_total}
use Rattle.std.proofs.lemmas.List.{get_or-map, length-map}
use Rattle.std.proofs.lemmas.List.Sorted.{IsPermutation-map, length_permutation}
use Rattle.emc_base.specs.Order.{value_cmp}
use Rattle.emc_base.specs.OrderLaws.{key_cmp_total}
use Rattle.round_trip.specs.Words.{EntityModel, Link, key_of}
use Rattle.entity_state.specs.InOrder.{IsInOrderOf, entity_cmp, lent, link_cmp}

module _ {X : Type 0} (lt : X → X → Bool) where
  sorted_lent : (items : List (Bor X)) → IsSortedBy (λ one two. lt one.now two.now) items → IsSortedBy lt (lent items)
  sorted_lent [] sorted k d low high = absurd (omega arith)
  sorted_lent (item ∷ items) sorted k d low high =
      let within : k + 1 < length (item ∷ items) = rw length-map at high in
      rw (get_or-map (λ (i : Bor X). i.now) (item ∷ items) (k + 1) item d within, get_or-map (λ (i : Bor X). i.now) (item ∷ items) k item d (omega arith)) (sorted k item low within)

  filter_lent : (test : X → Bool) (items : List (Bor X)) → filter test (lent items) ≡ lent (filter (λ item. test item.now) items)
  filter_lent test [] = refl
  filter_lent test (item ∷ items) = by (test item.now) (filter_lent test items)
    where
      by : (b : Bool) → filter test (lent items) ≡ lent (filter (λ (i : Bor X). test i.now) items)
          → cond b (item.now ∷ filter test (lent items)) (filter test (lent items))
          ≡ lent (cond b (item ∷ filter (λ (i : Bor X). test i.now) items) (filter (λ (i : Bor X). test i.now) items))
      by true rest = ap (λ l. item.now ∷ l) rest
      by false rest = rest

  stable_lent : (items sorted : List (Bor X)) → length sorted ≡ length items → IsStableBy (λ one two. lt one.now two.now) items sorted
      → IsStableBy lt (lent items) (lent sorted)
  stable_lent [] [] same stable x = refl
  stable_lent [] (item ∷ sorted) same stable x = absurd (omega arith)
  stable_lent (item ∷ items) sorted same stable x =
      let at : Bor X = record { ref_ptr = item.ref_ptr; now = x } in
      filter_lent (ties lt x) sorted ∙ ap lent (stable at) ∙ sym (filter_lent (ties lt x) (item ∷ items))

-- what a stable sort of lent items ensures
pub in_order : {X : Type 0} (cmp : X → X → Ordering) (items sorted : List (Bor X)) → IsPermutation items sorted
    → IsSortedBy (λ one two. is_lt (cmp one.now two.now)) sorted → IsStableBy (λ one two. is_lt (cmp one.now two.now)) items sorted
    → IsInOrderOf cmp (lent items) (lent sorted)
in_order {X} cmp items sorted same rising stable = record {
  same = IsPermutation-map (λ (item : Bor X). item.now) items sorted same;
  rising = sorted_lent (λ one two. is_lt (cmp one two)) sorted rising;
  stable = stable_lent (λ one two. is_lt (cmp one two)) items sorted (length_permutation items sorted same) stable;
}

-- the orders of entities and of links are total
pub entity_cmp_total : (model : EntityModel) → IsTotalOrder (entity_cmp model)
entity_cmp_total model = on_total (key_of model) key_cmp_total

pub link_cmp_total : IsTotalOrder link_cmp
link_cmp_total = then_total (on_total (λ (link : Link). link.first) key_cmp_total) (on_total (λ (link : Link). link.second) key_cmp_total)
