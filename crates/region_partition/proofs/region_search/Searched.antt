-- What a binary search finds in a list that rises.
use Rattle.std.proofs.Common.{◌≡◌, ◌≤◌, ◌<◌, ⊎_elim, ℕ, List, length, Contains, get_or, Ok, Err, Result, sym, ap, ◌∙◌, arith}
use Rattle.std.specs.List.Sorted.{IsBinarySearchResult, IsNonDecreasingBy, IsSearchInRange}
use Rattle.std.specs.Result.{result_ok}
use Rattle.std.specs.declared.cmp.Ordering.{Ordering}
use Rattle.std.specs.declared.cmp.Ordering.TheVariants.{Less, Equal, Greater}
use Rattle.std.specs.Ordering.{ordering_index}
use Rattle.std.proofs.lemmas.Bool.{cases_lt, cases_order}
use Rattle.std.proofs.lemmas.List.{get_or_default}
use Rattle.std.proofs.lemmas.Option.{get_or_from_slice_get}
use Rattle.emc_base.proofs.Lists.{item_at}
use Rattle.region_partition.specs.region_search.Standing.{FindsEqual, Rises}

-- no two of these are one
less_or_equal : (one : Ordering) → one ≡ Less → one ≡ Equal → ⊥
less_or_equal one less equal = let both : Less ≡ Equal = sym less ∙ equal in cc

greater_or_equal : (one : Ordering) → one ≡ Greater → one ≡ Equal → ⊥
greater_or_equal one greater equal = let both : Greater ≡ Equal = sym greater ∙ equal in cc

module _ {X : Type 0} (cmp : X → Ordering) (xs : List X) (rises : Rises cmp xs) where
  -- around a member that stands equal
  module _ (x : X) (has : Contains xs x) (is : cmp x ≡ Equal) where
    there : (d : X) → cmp (get_or xs has.0 d) ≡ Equal
    there d = ap cmp (get_or_default xs has.0 d x has.1 ∙ has.2) ∙ is

    before : (i : ℕ) (d : X) → i < has.0 → cmp (get_or xs i d) ≡ Less
    before i d below = (rises i has.0 d below has.1).0 (there d)

    after : (i : ℕ) (d : X) → has.0 < i → i < length xs → cmp (get_or xs i d) ≡ Greater
    after i d above within = (rises has.0 i d above within).1 (there d)

    index_there : (i : ℕ) (d : X) → i ≡ has.0 → ordering_index (cmp (get_or xs i d)) ≡ 1
    index_there i d same = ap ordering_index (ap (λ n. cmp (get_or xs n d)) same ∙ there d)

    goes_up : IsNonDecreasingBy (λ y. ordering_index (cmp y)) xs
    goes_up i j d order within = ⊎_elim
        (λ (i_there : i ≡ has.0).
        let one = index_there i d i_there in
        ⊎_elim
        (λ (j_there : j ≡ has.0). let two = index_there j d j_there in omega (arith, one, two))
        (⊎_elim
        (λ (j_below : j < has.0). absurd (omega (arith, order, i_there, j_below)))
        (λ (j_above : has.0 < j). let two = ap ordering_index (after j d j_above within) in omega (arith, one, two)))
        (cases_order j has.0))
        (⊎_elim
        (λ (i_below : i < has.0). let one = ap ordering_index (before i d i_below) in omega (arith, one))
        (λ (i_above : has.0 < i).
        let one = ap ordering_index (after i d i_above (omega (arith, order, within))) in
        let two = ap ordering_index (after j d (omega (arith, order, i_above)) within) in
        omega (arith, one, two)))
        (cases_order i has.0)

    -- a search that tells no item is wrong
    pub found_some : (place : ℕ) → IsBinarySearchResult cmp xs (Err place) → ⊥
    found_some place found =
        let parts = found goes_up in
        ⊎_elim
        (λ (below : has.0 < place). less_or_equal (cmp (get_or xs has.0 x)) (parts.0 has.0 x (omega arith) below) (there x))
        (λ (above : place ≤ has.0). greater_or_equal (cmp (get_or xs has.0 x)) (parts.1 has.0 x above has.1) (there x))
        (cases_lt has.0 place)

  -- no two members stand equal
  pub one_equal : (x y : X) → Contains xs x → Contains xs y → cmp x ≡ Equal → cmp y ≡ Equal → x ≡ y
  one_equal x y has_x has_y is_x is_y = ⊎_elim
      (λ (same : has_x.0 ≡ has_y.0).
      sym has_x.2 ∙ ap (λ n. get_or xs n x) same ∙ get_or_default xs has_y.0 x y has_y.1 ∙ has_y.2)
      (⊎_elim
      (λ (below : has_x.0 < has_y.0). absurd (less_or_equal (cmp (get_or xs has_x.0 x)) (before y has_y is_y has_x.0 x below) (there x has_x is_x x)))
      (λ (above : has_y.0 < has_x.0). absurd (greater_or_equal (cmp (get_or xs has_x.0 x)) (after y has_y is_y has_x.0 x above has_x.1) (there x has_x is_x x))))
      (cases_order has_x.0 has_y.0)

pub finds_equal : {X : Type 0} (cmp : X → Ordering) (xs : List X) (found : Result ℕ ℕ) → IsSearchInRange found (length xs) → IsBinarySearchResult cmp xs found
    → FindsEqual cmp xs (result_ok found)
finds_equal cmp xs (Ok place) within holds =
    let item = item_at xs place within in
    (item.0, item.1, sym (ap cmp (get_or_from_slice_get xs place item.0 item.0 item.1)) ∙ holds item.0)
finds_equal cmp xs (Err place) within holds = λ rises x has is. found_some cmp xs rises x has is place holds
