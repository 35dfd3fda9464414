-- Lists that rise and have the same members are the same.
use Rattle.std.proofs.Common.{◌≡◌, ◌⊎◌, ⊎_elim, List, [], ◌∷◌, AllPairs, Contains, refl, sym, ap, subst, ◌∙◌}
use Rattle.std.specs.declared.cmp.Ordering.TheVariants.{Less}
use Rattle.std.specs.Ordering.{ordering_reverse}
use Rattle.std.specs.List.Sorted.{IsStrictlySortedBy}
use Rattle.std.proofs.lemmas.List.Elements.{All-contains, All-from_recursion}
use Rattle.std.proofs.lemmas.List.Kept.{AllPairs-cons}
use Rattle.std.proofs.lemmas.Map.Keys.{sorted_head, sorted_tail}
use Rattle.emc_base.specs.Order.{value_cmp}
use Rattle.emc_base.specs.OrderLaws.{value_cmp_total}
use Rattle.round_trip.specs.Words.{Value}
use Rattle.schema_laws.proofs.state_demand.lists.Lists.{head_stands, member_cases, none_in_nil, tail_stands}
use Rattle.member_groups.specs.MemberGroups.{ListsJust}
use Rattle.regions.proofs.region_laws.lists.Choices.{pairs_head, pairs_nil, pairs_tail}

module _ {X : Type 0} (R : X → X → Type 0) (never : (x y : X) → R x y → R y x → ⊥) where
  -- two rising lists, each with the first of the other, have one and the same first
  same_first : (x y : X) (xs ys : List X) → AllPairs R (x ∷ xs) → AllPairs R (y ∷ ys) → (x ≡ y) ⊎ Contains ys x → (y ≡ x) ⊎ Contains xs y → x ≡ y
  same_first x y xs ys up_x up_y here there = ⊎_elim
      (λ (same : x ≡ y). same)
      (λ (later : Contains ys x). ⊎_elim
      (λ (same : y ≡ x). sym same)
      (λ (other : Contains xs y). absurd (never x y (All-contains (R x) xs y (pairs_head R x xs up_x) other) (All-contains (R y) ys x (pairs_head R y ys up_y) later)))
      there)
      here

  -- then what stands behind the one stands behind the other
  rest_has : (x y z : X) (xs ys : List X) → AllPairs R (x ∷ xs) → x ≡ y → Contains (y ∷ ys) z → Contains xs z → Contains ys z
  rest_has x y z xs ys up same there has = ⊎_elim
      (λ (first : z ≡ y).
      let itself : R x x = subst (R x) (first ∙ sym same) (All-contains (R x) xs z (pairs_head R x xs up) has) in
      absurd (never x x itself itself))
      (λ (later : Contains ys z). later)
      (member_cases y ys z there)

  -- rising lists of the same members are the same
  pub same_rising : (xs ys : List X) → AllPairs R xs → AllPairs R ys → ((z : X) → Contains xs z → Contains ys z) → ((z : X) → Contains ys z → Contains xs z) → xs ≡ ys
  same_rising [] [] up_x up_y to back = refl
  same_rising [] (y ∷ ys) up_x up_y to back = absurd (none_in_nil y (back y (head_stands y ys)))
  same_rising (x ∷ xs) [] up_x up_y to back = absurd (none_in_nil x (to x (head_stands x xs)))
  same_rising (x ∷ xs) (y ∷ ys) up_x up_y to back =
      let same : x ≡ y = same_first x y xs ys up_x up_y (member_cases y ys x (to x (head_stands x xs))) (member_cases x xs y (back y (head_stands y ys))) in
      let rest : xs ≡ ys = same_rising xs ys (pairs_tail R x xs up_x) (pairs_tail R y ys up_y)
      (λ z has. rest_has x y z xs ys up_x same (to z (tail_stands x xs z has)) has)
      (λ z has. rest_has y x z ys xs up_y (sym same) (back z (tail_stands y ys z has)) has) in
      λ k. same k ∷ rest k

-- a value that stands below another
abbrev Below : Value → Value → Type 0
Below one later = value_cmp one later ≡ Less

-- of two values not each is below the other
never_both : (one two : Value) → Below one two → Below two one → ⊥
never_both one two below above =
    let turned : Less ≡ ordering_reverse Less = sym below ∙ value_cmp_total.antisymm one two ∙ ap ordering_reverse above in cc

-- values in strict order rise
values_rise : (values : List Value) → IsStrictlySortedBy value_cmp values → AllPairs Below values
values_rise [] up = pairs_nil Below
values_rise (x ∷ xs) up = AllPairs-cons Below x xs (All-from_recursion (Below x) xs (sorted_head value_cmp x xs up)) (values_rise xs (sorted_tail value_cmp x xs up))

-- two lists of just these values are the same
pub same_listed : (P : Value → Type 0) (xs ys : List Value) → ListsJust P xs → ListsJust P ys → xs ≡ ys
same_listed P xs ys one two = same_rising Below never_both xs ys (values_rise xs one.sorted) (values_rise ys two.sorted)
    (λ value has. (two.each value).1 ((one.each value).0 has))
    (λ value has. (one.each value).1 ((two.each value).0 has))
