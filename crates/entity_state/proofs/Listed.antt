-- Lists of lists put in order one by one: what is so of each list stays so of the sorted ones.
use Rattle.std.proofs.Common.{◌≡◌, ◌+◌, ◌<◌, ℕ, zero, suc, List, [], ◌∷◌, ◌++◌, map, take, length, get_or, slice_get, unwrap_or, sym, ap, subst₂, ◌∙◌}
use Rattle.std.specs.List.{AllZip}
use Rattle.std.specs.declared.cmp.Ordering.{Ordering}
use Rattle.std.proofs.lemmas.List.{get_or-map, map_push, take_more}
use Rattle.std.proofs.lemmas.List.Elements.{AllZip-push, length_all_zip}
use Rattle.std.proofs.lemmas.List.Sorted.{All-permutation, IsPermutation-refl}
use Rattle.std.proofs.lemmas.Option.{unwrap_or-slice_get}
use Rattle.std.specs.Prelude.{IsPermutation}
use Rattle.round_trip.specs.Words.{AssocId, EntityModel, Assoc, IsEntity, IsLink, IsState, State, At}
use Rattle.entity_state.specs.InOrder.{IsInOrderOf, IsSortedState, entity_cmp, link_cmp}

-- the list at a place among sorted ones has the items of the one at this place among the others
same_items : {X : Type 0} (cmp : X → X → Ordering) (lists sorted : List (List X)) → AllZip (IsInOrderOf cmp) lists sorted → (i : ℕ)
    → IsPermutation (unwrap_or (slice_get lists i) []) (unwrap_or (slice_get sorted i) [])
same_items cmp [] [] order i = IsPermutation-refl []
same_items cmp [] (list ∷ sorted) order i = absurd order
same_items cmp (list ∷ lists) [] order i = absurd order
same_items cmp (list ∷ lists) (other ∷ sorted) order zero = order.0.same
same_items cmp (list ∷ lists) (other ∷ sorted) order (suc i) = same_items cmp lists sorted order.1 i

-- one more list is in order
pub one_more_in_order : {X Y : Type 0} (cmp : X → X → Ordering) (f : Y → List X) (lists : List (List X)) (made next : List Y) (i : ℕ) (list : List X) (new : Y)
    → i < length lists → list ≡ get_or lists i list → next ≡ made ++ new ∷ [] → IsInOrderOf cmp list (f new)
    → AllZip (IsInOrderOf cmp) (take i lists) (map f made) → AllZip (IsInOrderOf cmp) (take (i + 1) lists) (map f next)
one_more_in_order cmp f lists made next i list new within here pushed order sofar =
    subst₂ (AllZip (IsInOrderOf cmp))
    (sym (take_more lists i list within ∙ ap (λ last. take i lists ++ last ∷ []) (sym here)))
    (sym (ap (map f) pushed ∙ map_push f made new))
    (AllZip-push (IsInOrderOf cmp) (take i lists) (map f made) list (f new) sofar order)

-- a sorted state has the shape of the model, as the state has
pub sorted_is_state : (model : EntityModel) (state sorted : State) → IsSortedState model state sorted → IsState model state → IsState model sorted
sorted_is_state model state sorted order is = record {
  sets = sym (length_all_zip (IsInOrderOf (entity_cmp model)) state.entities sorted.entities order.entities) ∙ is.sets;
  assocs = sym (length_all_zip (IsInOrderOf link_cmp) state.links sorted.links order.links) ∙ is.assocs;
  entities = λ set. All-permutation (IsEntity model) _ _ (same_items (entity_cmp model) state.entities sorted.entities order.entities set.index) (is.entities set);
  links = λ id assoc here. All-permutation (IsLink model assoc) _ _ (same_items link_cmp state.links sorted.links order.links id.index) (is.links id assoc here);
}

-- the list at a place among lists that are made one by one
pub list_mapped : {X Y : Type 0} (f : X → List Y) (xs : List X) (i : ℕ) (x : X) → i < length xs → x ≡ get_or xs i x → unwrap_or (slice_get (map f xs) i) [] ≡ f x
list_mapped f xs i x within is = unwrap_or-slice_get (map f xs) i [] ∙ get_or-map f xs i x [] within ∙ ap f (sym is)
