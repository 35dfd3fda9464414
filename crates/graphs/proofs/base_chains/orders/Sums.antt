-- Sums along chains, one place further in an order in which each type follows its base.
use Rattle.std.proofs.Common.{◌≡◌, ◌≢◌, ⊎_elim, ℕ, ◌+◌, ◌*◌, ◌<◌, ◌≤◌, List, [], ◌∷◌, length, replicate, set, map, slice_index, sum_by, Contains, Option, Some, None, get_or-set_same, get_or-set_other, refl, sym, ap, subst, ◌∙◌, arith}
use Rattle.std.specs.List.{range_with_len}
use Rattle.std.specs.Option.{option_map_or}
use Rattle.std.proofs.lemmas.Bool.{cases_eq}
use Rattle.std.proofs.lemmas.List.{get_or-replicate}
use Rattle.std.proofs.lemmas.List.Elements.{All-contains}
use Rattle.std.proofs.lemmas.List.Sums.{sum_by_push, sum_by-cons}
use Rattle.emc_base.specs.Lists.{At}
use Rattle.emc_base.proofs.Mapped.{contains_at}
use Rattle.graphs.specs.base_chains.Chains.{IsAncestor, StaysWithin, chain, chain_size}
use Rattle.graphs.specs.base_chains.Walks.{IsBasesFirst}
use Rattle.graphs.proofs.base_chains.Chains.{Ends, chain_root, chain_step, closed_ancestors, in_chain}
use Rattle.graphs.proofs.base_chains.orders.Filled.{Is, IsFilled, filled_all, filled_more, made_base, map_of_each}
use Rattle.emc_base.proofs.Members.{contains_head, contains_tail}
use Rattle.graphs.proofs.base_chains.orders.Orders.{ends_by_order}

-- where each counts as one, a sum is a length
sum_of_ones : (f : ℕ → ℕ) (xs : List ℕ) → ((x : ℕ) → Contains xs x → f x ≡ 1) → sum_by f xs ≡ length xs
sum_of_ones f [] ones = refl
sum_of_ones f (x ∷ xs) ones =
    let first : f x ≡ 1 = ones x (contains_head x xs) in
    let rest : sum_by f xs ≡ length xs = sum_of_ones f xs (λ y has. ones y (contains_tail x xs y has)) in
    let both : sum_by f (x ∷ xs) ≡ f x + sum_by f xs = sum_by-cons f x xs in
    both ∙ omega (arith, first, rest)

-- where each has one of its own, a size is the length of the chain: how deep a type stands
pub size_of_ones : (base : ℕ → Option ℕ) (count : ℕ) → StaysWithin base count → (i : ℕ) → i < count → chain_size base count (replicate count 1) i ≡ length (chain base count i)
size_of_ones base count within i inside = sum_of_ones (λ j. slice_index (replicate count 1) j) (chain base count i)
    (λ x has. get_or-replicate count x 1 0 (⊎_elim
    (λ (same : x ≡ i). let w : x ≡ i = same in omega arith)
    (λ (above : IsAncestor base i x). closed_ancestors base (λ y. y < count) (λ y j _ next. within y j next) i x (within i) above)
    (in_chain base count i x has)))

module _ (base : ℕ → Option ℕ) (count : ℕ) (own : List ℕ) where
  -- a size is that of the base, and its own
  pub size_step : (i : ℕ) → Ends base count i → chain_size base count own i ≡ option_map_or (chain_size base count own) (base i) 0 + slice_index own i
  size_step i ends = by (base i) refl
    where
      f : ℕ → ℕ
      f j = slice_index own j

      by : (o : Option ℕ) → base i ≡ o → sum_by f (chain base count i) ≡ option_map_or (λ j. sum_by f (chain base count j)) o 0 + f i
      by None is = ap (sum_by f) (chain_root base count i ends is)
      by (Some j) is = ap (sum_by f) (chain_step base count i j ends is) ∙ sum_by_push f (chain base count j) i

  -- the sizes of the first places of an order are made, and none is great
  pub record IsSizing (order : List ℕ) (n : ℕ) (sizes : List ℕ) : Type 0 where
    pub filled : IsFilled (Is (chain_size base count own)) count order n sizes
    pub few : (i : ℕ) → slice_index sizes i ≤ n * 4294967295

  module _ (order : List ℕ) (based : IsBasesFirst base count order) (within : StaysWithin base count) (n : ℕ) (sizes : List ℕ) (sizing : IsSizing order n sizes) where
    -- the size of a base isn't great
    pub few_above : (place : Option ℕ) → option_map_or (slice_index sizes) place 0 ≤ n * 4294967295
    few_above None = omega arith
    few_above (Some j) = sizing.few j

    -- one place more
    pub sizing_more : (i size : ℕ) → At order n i → slice_index own i ≤ 4294967295
        → size ≡ option_map_or (slice_index sizes) (base i) 0 + slice_index own i → IsSizing order (n + 1) (set sizes i size)
    sizing_more i size here small is = record {
      filled = filled_more (Is (chain_size base count own)) count base order based n sizes sizing.filled i size here
          (is ∙ ap (λ upper. upper + slice_index own i) (made_base (chain_size base count own) base count order based n sizes sizing.filled i 0 here)
          ∙ sym (size_step i (ends_by_order base count order based within i inside)));
      few = λ x. ⊎_elim
          (λ (same : x ≡ i). let P : ℕ → Type 0 = λ y. slice_index (set sizes i size) y ≤ (n + 1) * 4294967295 in subst P (sym same) few_now)
          (λ (other : x ≢ i).
          let kept : slice_index (set sizes i size) x ≡ slice_index sizes x = get_or-set_other sizes i x size 0 other in
          let few : slice_index sizes x ≤ n * 4294967295 = sizing.few x in
          omega (arith, kept, few))
          (cases_eq x i);
    }
      where
        inside : i < count
        inside = All-contains (λ j. j < count) order i based.within (contains_at order n i here)

        few_now : slice_index (set sizes i size) i ≤ (n + 1) * 4294967295
        few_now =
            let within_sizes : i < length sizes = let same : length sizes ≡ count = sizing.filled.size in let below : i < count = inside in omega arith in
            let written : slice_index (set sizes i size) i ≡ size = get_or-set_same sizes i size 0 within_sizes in
            let few : option_map_or (slice_index sizes) (base i) 0 ≤ n * 4294967295 = few_above (base i) in
            omega (arith, written, is, few, small)

    -- after the last place
    pub sizing_all : length order ≤ n → sizes ≡ map (chain_size base count own) (range_with_len 0 count)
    sizing_all end = map_of_each (chain_size base count own) count sizes sizing.filled.size
        (filled_all (Is (chain_size base count own)) count base order based n sizes sizing.filled end)
