-- Numbers in rising order are the one list that rises and has the same members; a sort leaves it, where repeats are dropped after it.
use Rattle.std.proofs.Common.{◌≡◌, ⊎_elim, ◌⊎◌, ℤ, List, [], ◌∷◌, AllPairs, Contains, refl, sym, subst, ◌∙◌, arith}
use Rattle.std.specs.Prelude.{◌<ℤ◌, if◌then◌else◌}
use Rattle.std.specs.Cmp.{int_ranks, signed_Decides}
use Rattle.std.specs.List.{dedup}
use Rattle.std.specs.List.Retain.{DiffersFromLast, IsFiltered}
use Rattle.std.specs.List.Sorted.{IsPermutation, IsSorted, IsStrictlySortedBy}
use Rattle.std.specs.declared.cmp.Ordering.{Ordering}
use Rattle.std.specs.declared.cmp.Ordering.TheVariants.{Less, Equal, Greater}
use Rattle.std.specs.Ordering.{MatchOrdering, int_cmp, int_eq, is_eq, is_lt}
use Rattle.std.proofs.lemmas.Cmp.{int_cmp_total, int_eq_equiv}
use Rattle.std.proofs.lemmas.Int.{ints}
use Rattle.std.proofs.lemmas.List.Elements.{All-contains, All-contains_itself, All-from_recursion, All-weaker}
use Rattle.std.proofs.lemmas.List.Filters.{dedup_is}
use Rattle.std.proofs.lemmas.List.Kept.{AllPairs-cons, Contains-dedup, Contains-from_dedup, IsStrictlySortedBy-dedup}
use Rattle.std.proofs.lemmas.List.Sorted.{Contains-permutation, IsPermutation-sym}
use Rattle.emc_base.proofs.Members.{contains_cons_cases, contains_head, contains_nil, contains_tail}
use Rattle.csdl_meaning.specs.Rising.{rising, with_number}
use Rattle.emc_base.proofs.Joined.{pairs_head, pairs_tail}
use Rattle.csdl_meaning.proofs.lists.Rising.{rising_all, rising_rises}

-- the numbers rise
abbrev pub Rises : List ℤ → Type 0
Rises = AllPairs (λ one next. one <ℤ next)

-- of two rising lists of the same numbers the first numbers are the same
same_first : (x y : ℤ) (xs ys : List ℤ) → Rises (x ∷ xs) → Rises (y ∷ ys) → (x ≡ y) ⊎ Contains ys x → (y ≡ x) ⊎ Contains xs y → x ≡ y
same_first x y xs ys up_x up_y here there = ⊎_elim
    (λ (same : x ≡ y). same)
    (λ (later : Contains ys x). ⊎_elim
    (λ (same : y ≡ x). sym same)
    (λ (other : Contains xs y). absurd (
    let less : y <ℤ x = All-contains (λ next. y <ℤ next) ys x (pairs_head (λ one next. one <ℤ next) y ys up_y) later in
    let more : x <ℤ y = All-contains (λ next. x <ℤ next) xs y (pairs_head (λ one next. one <ℤ next) x xs up_x) other in
    omega (arith, ints)))
    there)
    here

-- and the rest of one has what that of the other has
rest_has : (x y z : ℤ) (xs ys : List ℤ) → Rises (x ∷ xs) → x ≡ y → Contains (y ∷ ys) z → Contains xs z → Contains ys z
rest_has x y z xs ys up same there has = ⊎_elim
    (λ (first : z ≡ y). absurd (
    let less : x <ℤ z = All-contains (λ next. x <ℤ next) xs z (pairs_head (λ one next. one <ℤ next) x xs up) has in
    let P : ℤ → Type 0 = λ w. x <ℤ w in
    let itself : x <ℤ x = subst P (first ∙ sym same) less in
    omega (arith, ints)))
    (λ (later : Contains ys z). later)
    (contains_cons_cases y ys z there)

-- rising lists of the same numbers are the same
pub same_rising : (xs ys : List ℤ) → Rises xs → Rises ys → ((z : ℤ) → Contains xs z → Contains ys z) → ((z : ℤ) → Contains ys z → Contains xs z) → xs ≡ ys
same_rising [] [] up_x up_y to back = refl
same_rising [] (y ∷ ys) up_x up_y to back = absurd (contains_nil y (back y (contains_head y ys)))
same_rising (x ∷ xs) [] up_x up_y to back = absurd (contains_nil x (to x (contains_head x xs)))
same_rising (x ∷ xs) (y ∷ ys) up_x up_y to back =
    let same : x ≡ y = same_first x y xs ys up_x up_y (contains_cons_cases y ys x (to x (contains_head x xs))) (contains_cons_cases x xs y (back y (contains_head y ys))) in
    let rest : xs ≡ ys = same_rising xs ys (pairs_tail (λ one next. one <ℤ next) x xs up_x) (pairs_tail (λ one next. one <ℤ next) y ys up_y)
    (λ z has. rest_has x y z xs ys up_x same (to z (contains_tail x xs z has)) has)
    (λ z has. rest_has y x z ys xs up_y (sym same) (back z (contains_tail y ys z has)) has) in
    λ k. same k ∷ rest k

-- a number that is put among rising ones is there
with_itself : (number : ℤ) (numbers : List ℤ) → Contains (with_number number numbers) number
with_itself number [] = contains_head number []
with_itself number (first ∷ rest) = by (int_cmp number first) (int_ranks number first) (with_itself number rest)
  where
    by : (order : Ordering) → MatchOrdering order (number <ℤ first) (number ≡ first) (first <ℤ number) → Contains (with_number number rest) number
        → Contains (if is_lt order then number ∷ first ∷ rest else if is_eq order then first ∷ rest else first ∷ with_number number rest) number
    by Less less later = contains_head number (first ∷ rest)
    by Equal same later = let P : ℤ → Type 0 = λ z. Contains (first ∷ rest) z in subst P (sym same) (contains_head first rest)
    by Greater more later = contains_tail first (with_number number rest) number later

-- and the others stay
with_others : (number z : ℤ) (numbers : List ℤ) → Contains numbers z → Contains (with_number number numbers) z
with_others number z [] has = absurd (contains_nil z has)
with_others number z (first ∷ rest) has = by (int_cmp number first) (with_others number z rest)
  where
    by : (order : Ordering) → (Contains rest z → Contains (with_number number rest) z)
        → Contains (if is_lt order then number ∷ first ∷ rest else if is_eq order then first ∷ rest else first ∷ with_number number rest) z
    by Less later = contains_tail number (first ∷ rest) z has
    by Equal later = has
    by Greater later = ⊎_elim
        (λ (same : z ≡ first). let P : ℤ → Type 0 = λ w. Contains (first ∷ with_number number rest) w in subst P (sym same) (contains_head first (with_number number rest)))
        (λ (there : Contains rest z). contains_tail first (with_number number rest) z (later there))
        (contains_cons_cases first rest z has)

-- each number is there in rising order
pub in_rising : (z : ℤ) (numbers : List ℤ) → Contains numbers z → Contains (rising numbers) z
in_rising z [] has = absurd (contains_nil z has)
in_rising z (number ∷ numbers) has = ⊎_elim
    (λ (same : z ≡ number). let P : ℤ → Type 0 = λ w. Contains (rising (number ∷ numbers)) w in subst P (sym same) (with_itself number (rising numbers)))
    (λ (there : Contains numbers z). with_others number z (rising numbers) (in_rising z numbers there))
    (contains_cons_cases number numbers z has)

-- and no others are
pub from_rising : (z : ℤ) (numbers : List ℤ) → Contains (rising numbers) z → Contains numbers z
from_rising z numbers has = All-contains (Contains numbers) (rising numbers) z (rising_all (Contains numbers) numbers (All-contains_itself numbers)) has

-- a list that is sorted with no repeats rises
less_by : (x y : ℤ) → int_cmp x y ≡ Less → x <ℤ y
less_by x y is = let P : Ordering → Type 0 = λ order. MatchOrdering order (x <ℤ y) (x ≡ y) (y <ℤ x) in subst P is (int_ranks x y)

sorted_rises : (xs : List ℤ) → IsStrictlySortedBy int_cmp xs → Rises xs
unfolding IsStrictlySortedBy
sorted_rises [] up = λ i j d below within. absurd (omega arith)
sorted_rises (x ∷ xs) up = AllPairs-cons (λ one next. one <ℤ next) x xs
    (All-weaker (λ y. int_cmp x y ≡ Less) (λ y. x <ℤ y) (less_by x) xs (All-from_recursion (λ y. int_cmp x y ≡ Less) xs up.0))
    (sorted_rises xs up.1)

-- what a sort leaves after which repeats are dropped
pub sorted_once : (numbers sorted kept : List ℤ) → IsPermutation numbers sorted → IsSorted int_cmp sorted → IsFiltered (DiffersFromLast int_eq) [] sorted kept
    → kept ≡ rising numbers
sorted_once numbers sorted kept moved up filtered =
    let is : kept ≡ dedup int_eq sorted = dedup_is int_eq sorted kept filtered in
    is ∙ same_rising (dedup int_eq sorted) (rising numbers)
    (sorted_rises (dedup int_eq sorted) (IsStrictlySortedBy-dedup int_cmp_total (λ x y. refl) sorted up))
    (rising_rises numbers)
    (λ z has. in_rising z numbers (Contains-permutation sorted numbers z (IsPermutation-sym numbers sorted moved) (Contains-from_dedup int_eq sorted z has)))
    (λ z has. Contains-dedup int_eq_equiv (λ x y same. (signed_Decides x y).0 same) sorted z (Contains-permutation numbers sorted z moved (from_rising z numbers has)))
