-- How deep the places of a forest stand, what stands above one place, and where one jumps to.
use Rattle.std.proofs.Common.{◌≡◌, ◌⊎◌, ⊎_elim, inl, inr, ℕ, ◌+◌, ◌<◌, ◌≤◌, List, [], ◌∷◌, length, get_or, slice_index, Option, Some, None, refl, sym, ap, subst, ◌∙◌, arith}
use Rattle.std.specs.Option.{option_map_or}
use Rattle.std.proofs.lemmas.List.{get_or_default, length-append}
use Rattle.graphs.specs.base_chains.Chains.{IsAncestor, direct, further, IsUpFrom, base_at, chain}
use Rattle.graphs.specs.base_chains.Jumps.{IsForest, IsJump, IsNoDeeper, KnowsDepths, depth}
use Rattle.graphs.specs.base_chains.Walks.{IsBasesFirst}
use Rattle.graphs.proofs.base_chains.Chains.{Ends, above_above, chain_apart, chain_root, chain_step, closed_ancestors, ends, few_apart, in_chain}
use Rattle.graphs.proofs.base_chains.orders.Orders.{none_above_itself, stays_within}

-- bases for which there is an order make a forest
pub forest_by_order : (bases : List (Option ℕ)) (order : List ℕ) → IsBasesFirst (base_at bases) (length bases) order → IsForest (base_at bases) (length bases)
forest_by_order bases order based = record {
  within = stays_within bases order based;
  rooted = none_above_itself (base_at bases) (length bases) order based (stays_within bases order based);
}

module _ (base : ℕ → Option ℕ) where
  -- what is up from the place to which one jumps from above a place stands above that
  pub above_jump : (i j k : ℕ) → IsAncestor base i j → IsJump base j k → IsAncestor base i k
  above_jump i j k above = ⊎_elim
      (λ (upper : IsAncestor base j k). above_above base i j k above upper)
      (λ (own : (j ≡ k) × (base j ≡ None)). subst (λ (x : ℕ). IsAncestor base i x) own.0 above)

  -- of two that stand above a place, the second is up from the first, or the first above the second
  pub one_way_above : (i j k : ℕ) → IsAncestor base i j → IsAncestor base i k → IsUpFrom base j k ⊎ IsAncestor base k j
  one_way_above i j k (direct _ _ one) (direct _ _ other) = inl (inl (let both = sym one ∙ other in cc))
  one_way_above i j k (direct _ _ one) (further _ m _ other rest) = inl (inr (subst (λ (x : ℕ). IsAncestor base x k) (let both = sym other ∙ one in let same : m ≡ j = cc in same) rest))
  one_way_above i j k (further _ m _ one rest) (direct _ _ other) = inr (subst (λ (x : ℕ). IsAncestor base x j) (let both = sym one ∙ other in let same : m ≡ k = cc in same) rest)
  one_way_above i j k (further _ m _ one rest) (further _ n _ other upper) =
      one_way_above m j k rest (subst (λ (x : ℕ). IsAncestor base x k) (let both = sym other ∙ one in let same : n ≡ m = cc in same) upper)

  -- from the place to which a base jumps one jumps on, above the place whose base it is
  module _ (jumps : List ℕ) (place upper : ℕ) (is : base place ≡ Some upper) (made : (j : ℕ) → IsAncestor base place j → IsJump base j (slice_index jumps j)) where
    pub first_jump : IsJump base upper (slice_index jumps upper)
    first_jump = made upper (direct place upper is)

    pub first_above : IsAncestor base place (slice_index jumps upper)
    first_above = above_jump place upper (slice_index jumps upper) (direct place upper is) first_jump

    pub second_jump : IsJump base (slice_index jumps upper) (slice_index jumps (slice_index jumps upper))
    second_jump = made (slice_index jumps upper) first_above

    pub second_above : IsAncestor base place (slice_index jumps (slice_index jumps upper))
    second_above = above_jump place (slice_index jumps upper) (slice_index jumps (slice_index jumps upper)) first_above second_jump

  module _ (count : ℕ) (forest : IsForest base count) where
    each_ends : (i : ℕ) → i < count → Ends base count i
    each_ends i inside = ends base forest.rooted count forest.within i inside

    -- a place stands one deeper than its base
    pub depth_step : (i j : ℕ) → i < count → base i ≡ Some j → depth base count i ≡ depth base count j + 1
    depth_step i j inside is = ap (λ (xs : List ℕ). length xs) (chain_step base count i j (each_ends i inside) is) ∙ length-append (chain base count j) (i ∷ [])

    pub depth_root : (i : ℕ) → i < count → base i ≡ None → depth base count i ≡ 1
    depth_root i inside is = ap (λ (xs : List ℕ). length xs) (chain_root base count i (each_ends i inside) is)

    pub depth_by_base : (i : ℕ) → i < count → option_map_or (depth base count) (base i) 0 + 1 ≡ depth base count i
    depth_by_base i inside = by (base i) refl
      where
        by : (o : Option ℕ) → base i ≡ o → option_map_or (depth base count) o 0 + 1 ≡ depth base count i
        by None is = let root : depth base count i ≡ 1 = depth_root i inside is in omega (arith, root)
        by (Some j) is = sym (depth_step i j inside is)

    pub above_inside : (i x : ℕ) → IsAncestor base i x → x < count
    above_inside i x above = closed_ancestors base (λ y. y < count) (λ y j _ next. forest.within y j next) i x (forest.within i) above

    -- no place stands deeper than there are places
    pub depth_few : (i : ℕ) → i < count → depth base count i ≤ count
    depth_few i inside = few_apart base (chain base count i) count (chain_apart base forest.rooted count i)
        (λ x has. ⊎_elim
        (λ (same : x ≡ i). let w : x ≡ i = same in omega arith)
        (λ (above : IsAncestor base i x). above_inside i x above)
        (in_chain base count i x has))

    -- what stands above stands less deep
    pub above_less : (i x : ℕ) → i < count → IsAncestor base i x → depth base count x < depth base count i
    above_less i x inside (direct _ _ is) = let step : depth base count i ≡ depth base count x + 1 = depth_step i x inside is in omega (arith, step)
    above_less i x inside (further _ j _ is rest) =
        let step : depth base count i ≡ depth base count j + 1 = depth_step i j inside is in
        let less : depth base count x < depth base count j = above_less j x (forest.within i j is) rest in
        omega (arith, step, less)

    -- one jumps to a place of the forest, no deeper
    pub jump_inside : (i j : ℕ) → i < count → IsJump base i j → j < count
    jump_inside i j inside = ⊎_elim (λ (above : IsAncestor base i j). above_inside i j above)
        (λ (own : (i ≡ j) × (base i ≡ None)). subst (λ (x : ℕ). x < count) own.0 inside)

    pub jump_no_deeper : (i j : ℕ) → i < count → IsJump base i j → depth base count j ≤ depth base count i
    jump_no_deeper i j inside = ⊎_elim
        (λ (above : IsAncestor base i j). let less : depth base count j < depth base count i = above_less i j inside above in omega (arith, less))
        (λ (own : (i ≡ j) × (base i ≡ None)). subst (λ (x : ℕ). depth base count x ≤ depth base count i) own.0 (omega arith))

    -- a place that is no less deep than another, and stands above a third, is as good to ask from as the third
    pub climbed_on : (i to upper : ℕ) → i < count → upper < count → IsAncestor base i to → depth base count upper ≤ depth base count to → IsUpFrom base i upper → IsUpFrom base to upper
    climbed_on i to upper inside upper_inside above deep up = ⊎_elim
        (λ (same : i ≡ upper).
        let less : depth base count to < depth base count upper = subst (λ (x : ℕ). depth base count to < depth base count x) same (above_less i to inside above) in
        absurd (omega (arith, deep, less)))
        (λ (far : IsAncestor base i upper). ⊎_elim
        (λ (on : IsUpFrom base to upper). on)
        (λ (past : IsAncestor base upper to). let less : depth base count to < depth base count upper = above_less upper to upper_inside past in absurd (omega (arith, deep, less)))
        (one_way_above i to upper above far))
        up

    pub climbed_back : (i to upper : ℕ) → IsAncestor base i to → IsUpFrom base to upper → IsUpFrom base i upper
    climbed_back i to upper above up = inr (⊎_elim
        (λ (same : to ≡ upper). subst (λ (x : ℕ). IsAncestor base i x) same above)
        (λ (far : IsAncestor base to upper). above_above base i to upper above far)
        up)

    -- where a place stands no deeper than another, only itself can be up from it
    pub up_level : (i upper : ℕ) → i < count → depth base count i ≤ depth base count upper → IsUpFrom base i upper → i ≡ upper
    up_level i upper inside level = ⊎_elim
        (λ (same : i ≡ upper). same)
        (λ (above : IsAncestor base i upper). let less : depth base count upper < depth base count i = above_less i upper inside above in absurd (omega (arith, level, less)))

    -- below a depth of more than one stands a base
    pub deep_base : (i : ℕ) → i < count → 1 < depth base count i → (j : ℕ) × (base i ≡ Some j)
    deep_base i inside deep = by (base i) refl
      where
        by : (o : Option ℕ) → base i ≡ o → (j : ℕ) × (o ≡ Some j)
        by None is = let one : depth base count i ≡ 1 = depth_root i inside is in absurd (omega (arith, deep, one))
        by (Some j) is = (j, refl)

    -- from a place that has a base one jumps to one above it
    pub jump_above : (i j : ℕ) → i < count → 1 < depth base count i → IsJump base i j → IsAncestor base i j
    jump_above i j inside deep = ⊎_elim
        (λ (above : IsAncestor base i j). above)
        (λ (own : (i ≡ j) × (base i ≡ None)). let one : depth base count i ≡ 1 = depth_root i inside own.1 in absurd (omega (arith, deep, one)))

    pub depth_some : (i : ℕ) → i < count → 0 < depth base count i
    depth_some i inside = let is : option_map_or (depth base count) (base i) 0 + 1 ≡ depth base count i = depth_by_base i inside in omega (arith, is)

    module _ (depths : List ℕ) (known : KnowsDepths base count depths) where
      -- a depth as it is read
      pub depth_read : (i n : ℕ) → i < count → n ≡ get_or depths i n → n ≡ depth base count i
      depth_read i n inside read = read ∙ get_or_default depths i n 0 (let same : length depths ≡ count = known.size in omega (arith, inside, same)) ∙ known.deep i inside

      pub no_deeper : (i j : ℕ) → i < count → IsJump base i j → IsNoDeeper depths i j
      no_deeper i j inside jump =
          let same : length depths ≡ count = known.size in
          let there : j < count = jump_inside i j inside jump in
          let one : slice_index depths i ≡ depth base count i = known.deep i inside in
          let other : slice_index depths j ≡ depth base count j = known.deep j there in
          let level : depth base count j ≤ depth base count i = jump_no_deeper i j inside jump in
          (omega (arith, inside, same), omega (arith, there, same), omega (arith, one, other, level))
