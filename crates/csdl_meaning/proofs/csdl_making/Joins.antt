-- Lists along chains, one place further in an order in which each follows its base.
use Rattle.std.proofs.Common.{◌≡◌, ◌≢◌, ⊎_elim, ℕ, ◌+◌, ◌<◌, ◌≤◌, List, [], ◌∷◌, ◌++◌, append-nil, length, set, length-set, get_or-set_same, get_or-set_other, Option, Some, None, refl, sym, ap, subst, ◌∙◌, arith}
use Rattle.std.specs.List.{flat_map}
use Rattle.std.specs.Option.{option_map_or}
use Rattle.std.proofs.lemmas.Bool.{cases_eq}
use Rattle.std.proofs.lemmas.Grind.{flat_map-append}
use Rattle.std.proofs.lemmas.List.Concat.{flat_map-cons}
use Rattle.std.proofs.lemmas.List.Elements.{All-contains}
use Rattle.emc_base.specs.Lists.{At}
use Rattle.emc_base.proofs.Lists.{same_place}
use Rattle.emc_base.proofs.Mapped.{contains_at}
use Rattle.emc_base.proofs.facts.Behind.{at_earlier}
use Rattle.graphs.specs.base_chains.Chains.{StaysWithin, chain}
use Rattle.graphs.specs.base_chains.Walks.{IsBasesFirst}
use Rattle.graphs.proofs.base_chains.Chains.{Ends, chain_root, chain_step}
use Rattle.graphs.proofs.base_chains.orders.Orders.{earlier_place, ends_by_order, place_of_member}
use Rattle.csdl_meaning.specs.csdl_making.Making.{chain_list, list_at}

module _ {X : Type 0} (base : ℕ → Option ℕ) (count : ℕ) (own : List (List X)) where
  -- a list is that of the base, and the own one
  pub list_step : (i : ℕ) → Ends base count i → chain_list base count own i ≡ option_map_or (chain_list base count own) (base i) [] ++ list_at own i
  list_step i end = by (base i) refl
    where
      by : (o : Option ℕ) → base i ≡ o → flat_map (list_at own) (chain base count i) ≡ option_map_or (λ j. flat_map (list_at own) (chain base count j)) o [] ++ list_at own i
      by None is = ap (flat_map (list_at own)) (chain_root base count i end is) ∙ flat_map-cons (list_at own) i [] ∙ append-nil (list_at own i)
      by (Some j) is = ap (flat_map (list_at own)) (chain_step base count i j end is) ∙ flat_map-append (list_at own) (chain base count j) (i ∷ [])
          ∙ ap (λ xs. flat_map (list_at own) (chain base count j) ++ xs) (flat_map-cons (list_at own) i [] ∙ append-nil (list_at own i))

  -- the lists of the first places of an order are made, and the others are as they were
  pub record IsJoining (order : List ℕ) (n : ℕ) (lists : List (List X)) : Type 0 where
    pub size : length lists ≡ count
    pub made : (m i : ℕ) → m < n → At order m i → list_at lists i ≡ chain_list base count own i
    pub left : (m i : ℕ) → n ≤ m → At order m i → list_at lists i ≡ list_at own i

  module _ (order : List ℕ) (based : IsBasesFirst base count order) (within : StaysWithin base count) where
    -- before the first
    pub joining_none : length own ≡ count → IsJoining order 0 own
    joining_none size = record { size = size; made = λ m i below at. absurd (omega arith); left = λ m i above at. refl }

    module _ (n : ℕ) (lists : List (List X)) (joining : IsJoining order n lists) where
      -- the list of a base was made before
      made_above : (i : ℕ) → At order n i → option_map_or (list_at lists) (base i) [] ≡ option_map_or (chain_list base count own) (base i) []
      made_above i here = by (base i) refl
        where
          by : (o : Option ℕ) → base i ≡ o → option_map_or (list_at lists) o [] ≡ option_map_or (chain_list base count own) o []
          by None is = refl
          by (Some j) is = let next = earlier_place order n j (based.before n i j here is) in joining.made next.0 j next.1 next.2

      -- one place more
      pub joining_more : (i : ℕ) (list : List X) → At order n i → list ≡ option_map_or (list_at lists) (base i) [] ++ list_at lists i → IsJoining order (n + 1) (set lists i list)
      joining_more i list here is = record {
        size = length-set lists i list ∙ joining.size;
        made = λ m x below at. ⊎_elim
            (λ (same : x ≡ i). let P : ℕ → Type 0 = λ y. list_at (set lists i list) y ≡ chain_list base count own y in subst P (sym same) now)
            (λ (other : x ≢ i). get_or-set_other lists i x list [] other ∙ joining.made m x (before m x below at other) at)
            (cases_eq x i);
        left = λ m x above at. get_or-set_other lists i x list [] (apart m x above at) ∙ joining.left m x (omega arith) at;
      }
        where
          inside : i < count
          inside = All-contains (λ j. j < count) order i based.within (contains_at order n i here)

          now : list_at (set lists i list) i ≡ chain_list base count own i
          now =
              let size : length lists ≡ count = joining.size in
              let below : i < count = inside in
              get_or-set_same lists i list [] (omega (arith, size, below)) ∙ is
              ∙ (λ k. made_above i here k ++ joining.left n i (omega arith) here k)
              ∙ sym (list_step i (ends_by_order base count order based within i inside))

          before : (m x : ℕ) → m < n + 1 → At order m x → x ≢ i → m < n
          before = at_earlier order n i here

          apart : (m x : ℕ) → n + 1 ≤ m → At order m x → x ≢ i
          apart m x above at same =
              let place : m ≡ n = same_place (λ (j : ℕ). j) order m n x i based.once at here same in
              omega (arith, place, above)

      -- after the last place
      pub joining_all : length order ≤ n → (i : ℕ) → i < count → list_at lists i ≡ chain_list base count own i
      joining_all end i inside =
          let has = based.each i inside in
          let passed : has.0 < length order = has.1 in
          joining.made has.0 i (omega (arith, end, passed)) (place_of_member order i has)
