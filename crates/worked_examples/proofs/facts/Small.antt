-- Facts on short lists, by their items.
use Rattle.std.proofs.Common.{◌≡◌, ℕ, zero, suc, List, [], ◌∷◌, refl, sym, ap, subst, arith}
use Rattle.std.specs.Prelude.{⊤, slice_get, unwrap_or, Any, AllPairs, Contains}
use Rattle.std.specs.List.{AllByRecursion}
use Rattle.std.proofs.lemmas.List.Elements.{All-from_recursion, All-contains}
use Rattle.std.proofs.lemmas.List.Kept.{AllPairs-cons}
use Rattle.round_trip.specs.Words.{At, AtMostOne}

-- Q of each place with its item
abbrev pub EachAt : {X : Type 0} → (ℕ → X → Type 0) → List X → Type 0
EachAt Q [] = ⊤
EachAt Q (x ∷ xs) = Q zero x × EachAt (λ i y. Q (suc i) y) xs

pub each_at : {X : Type 0} (Q : ℕ → X → Type 0) (xs : List X) → EachAt Q xs → (i : ℕ) (x : X) → At xs i x → Q i x
each_at Q [] all i x at = let none : ⊥ = cc in absurd none
each_at Q (y ∷ ys) all zero x at = let same : y ≡ x = cc in subst (λ z. Q zero z) same all.0
each_at Q (y ∷ ys) all (suc i) x at = each_at (λ j z. Q (suc j) z) ys all.1 i x at

-- P of each item of a list among lists, which is empty where there is none
pub each_list : {X : Type 0} (P : List X → Type 0) (xss : List (List X)) → P [] → AllByRecursion P xss → (i : ℕ) → P (unwrap_or (slice_get xss i) [])
each_list P [] empty all i = empty
each_list P (xs ∷ xss) empty all zero = all.0
each_list P (xs ∷ xss) empty all (suc i) = each_list P xss empty all.1 i

-- P of an item
pub each_of : {X : Type 0} (P : X → Type 0) (xs : List X) (x : X) → AllByRecursion P xs → Contains xs x → P x
each_of P xs x all among = All-contains P xs x (All-from_recursion P xs all) among

pub here : {X : Type 0} (x : X) (xs : List X) → Contains (x ∷ xs) x
here x xs = (0, omega arith, refl)

pub later : {X : Type 0} (y x : X) (xs : List X) → Contains xs x → Contains (y ∷ xs) x
later y x xs among = (suc among.0, omega (arith, among.1), among.2)

pub any_here : {X : Type 0} (P : X → Type 0) (x : X) (xs : List X) → P x → Any P (x ∷ xs)
any_here P x xs h = (0, x, omega arith, refl, h)

pub any_later : {X : Type 0} (P : X → Type 0) (y : X) (xs : List X) → Any P xs → Any P (y ∷ xs)
any_later P y xs some = (suc some.0, some.1, omega (arith, some.2), some.3, some.4)

-- where the only item has P, it is that one
pub any_one : {X : Type 0} (P : X → Type 0) (x : X) → Any P (x ∷ []) → P x
any_one P x some = each_of (λ y. P y → P x) (x ∷ []) some.1 ((λ h. h), tt) (some.0, some.2, some.3) some.4

-- R of each item and each later one
abbrev pub PairsByRecursion : {X : Type 0} → (X → X → Type 0) → List X → Type 0
PairsByRecursion R [] = ⊤
PairsByRecursion R (x ∷ xs) = AllByRecursion (R x) xs × PairsByRecursion R xs

pub all_pairs : {X : Type 0} (R : X → X → Type 0) (xs : List X) → PairsByRecursion R xs → AllPairs R xs
all_pairs R [] all = λ i j d before below. absurd (omega arith)
all_pairs R (x ∷ xs) all = AllPairs-cons R x xs (All-from_recursion (R x) xs all.0) (all_pairs R xs all.1)

-- P of the item at a place
pub item_at : {X : Type 0} (P : X → Type 0) (xs : List X) → AllByRecursion P xs → (i : ℕ) (x : X) → At xs i x → P x
item_at P [] all i x at = let none : ⊥ = cc in absurd none
item_at P (y ∷ ys) all zero x at = let same : y ≡ x = cc in subst P same all.0
item_at P (y ∷ ys) all (suc i) x at = item_at P ys all.1 i x at

-- where no two items both have P, at most one has it
pub at_most_one : {X : Type 0} (P : X → Type 0) (xs : List X) → PairsByRecursion (λ x y. P x → ¬ P y) xs → AtMostOne P xs
at_most_one P [] all i j x y at_x at_y has_x has_y = let none : ⊥ = cc in absurd none
at_most_one P (z ∷ xs) all zero zero x y at_x at_y has_x has_y = refl
at_most_one P (z ∷ xs) all zero (suc j) x y at_x at_y has_x has_y =
    let same : z ≡ x = cc in
    absurd (item_at (λ w. P z → ¬ P w) xs all.0 j y at_y (subst P (sym same) has_x) has_y)
at_most_one P (z ∷ xs) all (suc i) zero x y at_x at_y has_x has_y =
    let same : z ≡ y = cc in
    absurd (item_at (λ w. P z → ¬ P w) xs all.0 i x at_x (subst P (sym same) has_y) has_x)
at_most_one P (z ∷ xs) all (suc i) (suc j) x y at_x at_y has_x has_y = ap suc (at_most_one P xs all.1 i j x y at_x at_y has_x has_y)
