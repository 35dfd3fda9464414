-- An order in which each type follows its base: no type stands above itself, and chains end.
use Rattle.std.proofs.Common.{◌≡◌, ℕ, ◌<◌, ◌≤◌, min, List, length, take, Contains, Option, sym, ◌∙◌, arith}
use Rattle.std.proofs.lemmas.List.{get_or-take, length-take}
use Rattle.std.proofs.lemmas.List.Elements.{All-contains}
use Rattle.emc_base.specs.Lists.{At}
use Rattle.emc_base.proofs.Lists.{same_place}
use Rattle.emc_base.proofs.Mapped.{contains_at}
use Rattle.graphs.specs.base_chains.Chains.{IsAncestor, direct, further, StaysWithin, base_at}
use Rattle.graphs.specs.base_chains.Walks.{IsBasesFirst}
use Rattle.graphs.proofs.base_chains.Chains.{Ends, closed_ancestors, ends, few_apart, has_base}
pub use Rattle.emc_base.proofs.facts.Standing.{place_of_member}

-- a member of the first so many stands at an earlier place
pub earlier_place : {X : Type 0} (xs : List X) (k : ℕ) (x : X) → Contains (take k xs) x → (m : ℕ) × (m < k) × At xs m x
earlier_place xs k x has =
    let few : length (take k xs) ≡ min k (length xs) = length-take k xs in
    let within : has.0 < length (take k xs) = has.1 in
    let before : has.0 < k = omega arith in
    let inside : has.0 < length xs = omega arith in
    (has.0, before, place_of_member xs x (has.0, inside, sym (get_or-take k xs has.0 x before) ∙ has.2))

-- where all places stand in an order, and each after its base, all bases are places
pub stays_within : (bases : List (Option ℕ)) (order : List ℕ) → IsBasesFirst (base_at bases) (length bases) order → StaysWithin (base_at bases) (length bases)
stays_within bases order based i j is =
    let has = based.each i (has_base bases i j is) in
    let next = earlier_place order has.0 j (based.before has.0 i j (place_of_member order i has) is) in
    All-contains (λ x. x < length bases) order j based.within (contains_at order next.0 j next.2)

module _ (base : ℕ → Option ℕ) (count : ℕ) (order : List ℕ) (based : IsBasesFirst base count order) where
  -- what stands above a place comes before it
  pub above_before : (k i x : ℕ) → At order k i → IsAncestor base i x → (m : ℕ) × (m < k) × At order m x
  above_before k i x at (direct _ _ is) = earlier_place order k x (based.before k i x at is)
  above_before k i x at (further _ j _ is rest) =
      let next = earlier_place order k j (based.before k i j at is) in
      let last = above_before next.0 j x next.2 rest in
      (last.0, (let one : next.0 < k = next.1 in let two : last.0 < next.0 = last.1 in omega arith), last.2)

  -- the order is no longer than there are places
  pub order_short : length order ≤ count
  order_short = few_apart base order count based.once (λ x has. All-contains (λ i. i < count) order x based.within has)

  module _ (within : StaysWithin base count) where
    pub none_above_itself : (x : ℕ) → ¬ IsAncestor base x x
    none_above_itself x above =
        let inside : x < count = closed_ancestors base (λ y. y < count) (λ y j _ next. within y j next) x x (within x) above in
        let has = based.each x inside in
        let here = place_of_member order x has in
        let there = above_before has.0 x x here above in
        let same : there.0 ≡ has.0 = same_place (λ (i : ℕ). i) order there.0 has.0 x x based.once there.2 here (λ i. x) in
        let before : there.0 < has.0 = there.1 in
        omega arith

    pub ends_by_order : (i : ℕ) → i < count → Ends base count i
    ends_by_order i inside = ends base none_above_itself count within i inside
