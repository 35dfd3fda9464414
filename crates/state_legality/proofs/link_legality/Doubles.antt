-- Links by the keys at their ends, and the first that stands twice.
use Rattle.std.proofs.Common.{◌≡◌, ◌↔◌, ℕ, ◌<◌, List, [], ◌∷◌, ◌++◌, length, get_or, map, Option, Some, None, IsTrue, refl, sym, ap, subst, ◌∙◌, arith}
use Rattle.std.specs.Cmp.{Equal-is}
use Rattle.std.specs.Cmp.Lexicographic.{slice_cmp}
use Rattle.std.specs.declared.cmp.Ordering.{Ordering}
use Rattle.std.specs.declared.cmp.Ordering.TheVariants.{Less, Equal, Greater}
use Rattle.std.specs.Ordering.{eq_by_cmp, is_eq, ordering_then}
use Rattle.std.proofs.lemmas.List.{get_or-map, length-map}
use Rattle.std.proofs.lemmas.Option.{slice_get_read, slice_get_within}
use Rattle.emc_base.specs.Order.{value_cmp}
use Rattle.emc_base.specs.OrderLaws.{key_cmp_apart}
use Rattle.emc_base.proofs.facts.Images.{map_at}
use Rattle.emc_base.proofs.Joined.{at_map}
use Rattle.emc_base.proofs.facts.Keys.{tied_keys}
use Rattle.groupings.specs.least_fault.Least.{IsLeast}
use Rattle.round_trip.specs.Words.{AssocId, Assoc, Link, Place, Value, place_at}
use Rattle.entity_state.specs.breach_order.Founds.{found_cmp}
use Rattle.entity_state.specs.breach_order.Repeats.{IsFirstRepeat}
use Rattle.entity_state.proofs.breach_order.FirstFound.{first_repeat_found}
use Rattle.entity_state.specs.declared.breach_order.found.Found.{Found}
use Rattle.state_legality.specs.link_legality.Once.{link_of}
use Rattle.state_legality.specs.link_legality.Tells.{HasDouble}

module _ {X Y : Type 0} (f : X → Y) where
  -- items that are alike where their images are equal: the first repeat is that of the images
  pub repeat_of_images : (Like : X → X → Type 0) → ((x y : X) → Like x y ↔ (f x ≡ f y)) → (xs : List X) (first : Option ℕ)
      → IsFirstRepeat Like xs first → IsFirstRepeat (λ (one : Y) (other : Y). one ≡ other) (map f xs) first
  repeat_of_images Like alike xs None apart = λ i j d before within same.
      (let inside : j < length xs = subst (λ (n : ℕ). j < n) (length-map xs f) within in
      apart_at i j before inside d same)
    where
      apart_at : (i j : ℕ) → i < j → j < length xs → (d : Y) → get_or (map f xs) i d ≡ get_or (map f xs) j d → ⊥
      apart_at i j before inside d same =
          let some = item xs j inside in
          apart i j some before inside ((alike (get_or xs i some) (get_or xs j some)).1
          (sym (get_or-map f xs i some d (early i j before inside)) ∙ same ∙ get_or-map f xs j some d inside))
        where
          item : (list : List X) (k : ℕ) → k < length list → X
          item [] k less = absurd (omega arith)
          item (x ∷ list) k less = x

          early : (i j : ℕ) → i < j → j < length xs → i < length xs
          early i j one two = omega arith
  repeat_of_images Like alike xs (Some place) first = (
    record {
      earlier = first.0.earlier;
      before = first.0.before;
      item = f first.0.item;
      other = f first.0.other;
      here = at_map f xs place first.0.item first.0.here;
      there = at_map f xs first.0.earlier first.0.other first.0.there;
      like = (alike first.0.other first.0.item).0 first.0.like;
    },
    λ other repeat.
        (let here = map_at f xs other repeat.item repeat.here in
        let there = map_at f xs repeat.earlier repeat.other repeat.there in
        first.1 other (record {
          earlier = repeat.earlier;
          before = repeat.before;
          item = here.0;
          other = there.0;
          here = here.1;
          there = there.1;
          like = (alike there.0 here.0).1 (there.2 ∙ repeat.like ∙ sym here.2);
        })),
  )

-- the first link that stands twice
pub told_double : (a : AssocId) (assoc : Assoc) (links : List Link) (told : Option ℕ) (i : ℕ) (link : Link) (found : Found) (rule : ℕ) (place : Place)
    → IsFirstRepeat (λ (one : Link) (other : Link). one ≡ other) links told → told ≡ Some i → link ≡ get_or links i link
    → found ≡ record { rule = rule; spot = a.index ∷ i ∷ []; place = place } → rule ≡ 6 → place ≡ place_at assoc.set_name (link.first ++ link.second) []
    → IsLeast found_cmp (HasDouble a assoc links) (Some found)
told_double a assoc links told i link found rule place first is here found_is is_rule is_place =
    let place_of : Link → Place = λ other. place_at assoc.set_name (other.first ++ other.second) [] in
    let P : Option ℕ → Type 0 = λ o. IsFirstRepeat (λ (one : Link) (other : Link). one ≡ other) links o in
    let repeat : IsFirstRepeat (λ (one : Link) (other : Link). one ≡ other) links (Some i) = subst P is first in
    let within : i < length links = slice_get_within links i repeat.0.item repeat.0.here in
    let R : Found → Type 0 = λ one. IsLeast found_cmp (HasDouble a assoc links) (Some one) in
    let whole : found ≡ repeat_at place_of link = found_is ∙ (λ k. record { rule = is_rule k; spot = a.index ∷ i ∷ []; place = is_place k }) in
    subst R (sym whole) (first_repeat_found 6 a.index place_of links i link (slice_get_read links (length links) i link refl within here) repeat)
  where
    repeat_at : (Link → Place) → Link → Found
    repeat_at place_of one = record { rule = 6; spot = a.index ∷ i ∷ []; place = place_of one }

-- the order of the keys at the first end, and then of those at the second
abbrev pub pair_cmp : List Value × List Value → List Value × List Value → Ordering
pair_cmp x y = ordering_then (slice_cmp value_cmp x.0 y.0) (slice_cmp value_cmp x.1 y.1)

both_equal : (one other : Ordering) → ordering_then one other ≡ Equal → (one ≡ Equal) × (other ≡ Equal)
both_equal Less other is = absurd cc
both_equal Equal other is = (refl, is)
both_equal Greater other is = absurd cc

equal_both : (one other : Ordering) → one ≡ Equal → other ≡ Equal → ordering_then one other ≡ Equal
equal_both Less other is also = absurd cc
equal_both Equal other is also = also
equal_both Greater other is also = absurd cc

tied : (one other : List Value) → one ≡ other → slice_cmp value_cmp one other ≡ Equal
tied one other same = (Equal-is (slice_cmp value_cmp one other)).0 ((tied_keys one other).1 same)

-- it ties just the pairs of equal links
pub pairs_tie : (x y : List Value × List Value) → IsTrue (eq_by_cmp pair_cmp x y) ↔ (link_of x ≡ link_of y)
pairs_tie x y = (
  λ is.
      (let equal = both_equal (slice_cmp value_cmp x.0 y.0) (slice_cmp value_cmp x.1 y.1) ((Equal-is (pair_cmp x y)).0 is) in
      let first : x.0 ≡ y.0 = key_cmp_apart x.0 y.0 equal.0 in
      let second : x.1 ≡ y.1 = key_cmp_apart x.1 y.1 equal.1 in
      λ i. record { first = first i; second = second i }),
  λ same. ap is_eq (equal_both (slice_cmp value_cmp x.0 y.0) (slice_cmp value_cmp x.1 y.1)
      (tied x.0 y.0 (ap (λ (link : Link). link.first) same)) (tied x.1 y.1 (ap (λ (link : Link). link.second) same))),
)
