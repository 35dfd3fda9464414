-- A list that is filled by an order in which each type follows its base: what is good for each place, one place further.
use Rattle.std.proofs.Common.{◌≡◌, ◌≢◌, ⊎_elim, ℕ, ◌+◌, ◌<◌, ◌≤◌, List, length, set, map, slice_index, Option, Some, None, length-set, get_or-set_same, get_or-set_other, refl, sym, subst, zero-add, ◌∙◌, arith}
use Rattle.std.specs.List.{range_with_len}
use Rattle.std.specs.Option.{option_map_or}
use Rattle.std.proofs.lemmas.Bool.{cases_eq}
use Rattle.std.proofs.lemmas.List.{get_or_default, same_lists}
use Rattle.std.proofs.lemmas.List.Elements.{All-contains}
use Rattle.std.proofs.lemmas.List.FromFn.{get_or-map-range_with_len, length-map-range_with_len}
use Rattle.emc_base.specs.Lists.{At}
use Rattle.emc_base.proofs.Mapped.{contains_at}
use Rattle.emc_base.proofs.facts.Behind.{at_earlier}
use Rattle.graphs.specs.base_chains.Chains.{IsAncestor}
use Rattle.graphs.specs.base_chains.Walks.{IsBasesFirst}
use Rattle.graphs.proofs.base_chains.orders.Orders.{above_before, earlier_place, place_of_member}

module _ (Good : ℕ → ℕ → Type 0) (count : ℕ) where
  -- the values of the first places of an order are good
  pub record IsFilled (order : List ℕ) (n : ℕ) (values : List ℕ) : Type 0 where
    pub size : length values ≡ count
    pub made : (m i : ℕ) → m < n → At order m i → Good i (slice_index values i)

  pub filled_start : (order values : List ℕ) → length values ≡ count → IsFilled order 0 values
  filled_start order values size = record { size = size; made = λ m i below at. absurd (omega arith) }

  module _ (base : ℕ → Option ℕ) (order : List ℕ) (based : IsBasesFirst base count order) (n : ℕ) (values : List ℕ) (filled : IsFilled order n values) where
    -- the value of what stands above was made before
    pub made_above : (i j : ℕ) → At order n i → IsAncestor base i j → Good j (slice_index values j)
    made_above i j here above = let next = above_before base count order based n i j here above in filled.made next.0 j next.1 next.2

    -- one place more
    pub filled_more : (i value : ℕ) → At order n i → Good i value → IsFilled order (n + 1) (set values i value)
    filled_more i value here good = record {
      size = length-set values i value ∙ filled.size;
      made = λ m x below at. ⊎_elim
          (λ (same : x ≡ i). let P : ℕ → Type 0 = λ y. Good y (slice_index (set values i value) y) in subst P (sym same) now)
          (λ (other : x ≢ i). subst (Good x) (sym (get_or-set_other values i x value 0 other)) (filled.made m x (before m x below at other) at))
          (cases_eq x i);
    }
      where
        inside : i < count
        inside = All-contains (λ j. j < count) order i based.within (contains_at order n i here)

        now : Good i (slice_index (set values i value) i)
        now = let within : i < length values = let same : length values ≡ count = filled.size in let below : i < count = inside in omega arith in
            subst (Good i) (sym (get_or-set_same values i value 0 within)) good

        before : (m x : ℕ) → m < n + 1 → At order m x → x ≢ i → m < n
        before = at_earlier order n i here

    -- after the last place
    pub filled_all : length order ≤ n → (i : ℕ) → i < count → Good i (slice_index values i)
    filled_all end i inside =
        let has = based.each i inside in
        let passed : has.0 < length order = has.1 in
        filled.made has.0 i (omega arith) (place_of_member order i has)

-- where a function says what is good, a list that is good at each place is its map
pub map_of_each : (f : ℕ → ℕ) (count : ℕ) (values : List ℕ) → length values ≡ count → ((i : ℕ) → i < count → slice_index values i ≡ f i) → values ≡ map f (range_with_len 0 count)
map_of_each f count values size each = same_lists values (map f (range_with_len 0 count))
    (size ∙ sym (length-map-range_with_len f 0 count))
    (λ k d k_in.
    let inside : k < count = subst (λ len. k < len) size k_in in
    get_or_default values k d 0 k_in ∙ each k inside ∙ sym (get_or-map-range_with_len f 0 count k k d inside (zero-add k)))

module _ (f : ℕ → ℕ) where
  -- what a function says of each place
  abbrev pub Is : ℕ → ℕ → Type 0
  Is i value = value ≡ f i

  -- what is read for a base, where the values of the places above are made
  pub made_base : (base : ℕ → Option ℕ) (count : ℕ) (order : List ℕ) → IsBasesFirst base count order → (n : ℕ) (values : List ℕ) → IsFilled Is count order n values
      → (i none : ℕ) → At order n i → option_map_or (slice_index values) (base i) none ≡ option_map_or f (base i) none
  made_base base count order based n values filled i none here = by (base i) refl
    where
      by : (o : Option ℕ) → base i ≡ o → option_map_or (slice_index values) o none ≡ option_map_or f o none
      by None is = refl
      by (Some j) is = let next = earlier_place order n j (based.before n i j here is) in filled.made next.0 j next.1 next.2
