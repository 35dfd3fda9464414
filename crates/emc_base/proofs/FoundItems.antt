-- What is found of items: where it stands, and how lists of it are mapped.
use Rattle.std.proofs.Common.{◌≡◌, ⊎_elim, List, [], ◌∷◌, map, AllPairs, Any, Contains, Option, Some, None, option_map, refl, sym, ap, subst, ◌∙◌, arith}
use Rattle.std.specs.List.{cons_option, filter_map, flat_map}
use Rattle.std.specs.Option.{option_and_then}
use Rattle.std.proofs.lemmas.List.Concat.{flat_map-cons}
use Rattle.std.proofs.lemmas.List.Elements.{All-contains, Contains-append_left, Contains-append_right}
use Rattle.std.proofs.lemmas.List.Kept.{AllPairs-cons}
use Rattle.std.proofs.lemmas.Option.{same_Some}
use Rattle.emc_base.specs.Lists.{HoldsEachOnce}
use Rattle.emc_base.proofs.Lists.{all_from_members}
use Rattle.emc_base.proofs.Members.{contains_nil, contains_cons_cases, contains_head, contains_tail}
use Rattle.emc_base.proofs.Joined.{found_apart, in_found, pairs_head, pairs_tail}

-- what is mapped of something found
pub map_some : {X Y : Type 0} (f : X → Y) (found : Option X) (y : Y) → option_map f found ≡ Some y → (x : X) × (found ≡ Some x) × (f x ≡ y)
map_some f None y is = absurd cc
map_some f (Some x) y is = (x, refl, same_Some (f x) y is)

-- what a look-up behind another found
pub and_then_some : {X Y : Type 0} (f : X → Option Y) (found : Option X) (y : Y) → option_and_then f found ≡ Some y → (x : X) × (found ≡ Some x) × (f x ≡ Some y)
and_then_some f None y is = absurd cc
and_then_some f (Some x) y is = (x, refl, is)

-- a member of which something holds
pub some_member : {X : Type 0} (P : X → Type 0) (xs : List X) (x : X) → Contains xs x → P x → Any P xs
some_member P xs x has holds = (has.0, x, has.1, has.2, holds)

-- and back
pub member_of : {X : Type 0} (P : X → Type 0) (xs : List X) → Any P xs → (x : X) × Contains xs x × P x
member_of P xs (k, x, within, is, holds) = (x, (k, within, is), holds)

module _ {X Y : Type 0} where
  -- what a member gives stands in what all give
  pub contains_flat_map : (f : X → List Y) (xs : List X) (x : X) (y : Y) → Contains xs x → Contains (f x) y → Contains (flat_map f xs) y
  contains_flat_map f [] x y has gives = absurd (contains_nil x has)
  contains_flat_map f (z ∷ xs) x y has gives =
      let P : List Y → Type 0 = λ ys. Contains ys y in
      subst P (sym (flat_map-cons f z xs)) (⊎_elim
      (λ (here : x ≡ z). Contains-append_left (f z) (flat_map f xs) y (let Q : X → Type 0 = λ w. Contains (f w) y in subst Q here gives))
      (λ (later : Contains xs x). Contains-append_right (f z) (flat_map f xs) y (contains_flat_map f xs x y later gives))
      (contains_cons_cases z xs x has))

  module _ (h : X → Option Y) where
    -- what is found of a member stands in what is found
    pub contains_found : (xs : List X) (x : X) (y : Y) → Contains xs x → h x ≡ Some y → Contains (filter_map h xs) y
    contains_found [] x y has is = absurd (contains_nil x has)
    contains_found (z ∷ xs) x y has is = ⊎_elim
        (λ (here : x ≡ z). let P : Option Y → Type 0 = λ found. Contains (cons_option found (filter_map h xs)) y in
        subst P (sym (ap h (sym here) ∙ is)) (contains_head y (filter_map h xs)))
        (λ (later : Contains xs x). by (h z) (contains_found xs x y later is))
        (contains_cons_cases z xs x has)
      where
        by : (found : Option Y) → Contains (filter_map h xs) y → Contains (cons_option found (filter_map h xs)) y
        by None rest = rest
        by (Some w) rest = contains_tail w (filter_map h xs) y rest

    -- what is told of the things found is told of the items
    pub map_found : {Z : Type 0} (tell : Y → Z) (of : X → Z) (xs : List X) → ((x : X) → Contains xs x → (y : Y) × (h x ≡ Some y) × (tell y ≡ of x)) → map tell (filter_map h xs) ≡ map of xs
    map_found tell of [] each = refl
    map_found {Z} tell of (x ∷ xs) each =
        let first = each x (contains_head x xs) in
        ap (λ (found : Option Y). map tell (cons_option found (filter_map h xs))) first.1
        ∙ ap (λ (z : Z). z ∷ map tell (filter_map h xs)) first.2
        ∙ ap (λ (zs : List Z). of x ∷ zs) (map_found tell of xs (λ y has. each y (contains_tail x xs y has)))

    -- where each item has something, and no two the same, equal things are found of equal items only
    pub same_found : ((x z : X) (y : Y) → h x ≡ Some y → h z ≡ Some y → x ≡ z) → (xs zs : List X) → ((x : X) → Contains xs x → (y : Y) × (h x ≡ Some y))
        → ((z : X) → Contains zs z → (y : Y) × (h z ≡ Some y)) → filter_map h xs ≡ filter_map h zs → xs ≡ zs
    same_found one [] [] first second same = refl
    same_found one [] (z ∷ zs) first second same =
        let found = second z (contains_head z zs) in
        let longer : [] ≡ found.0 ∷ filter_map h zs = same ∙ ap (λ (found : Option Y). cons_option found (filter_map h zs)) found.1 in
        absurd cc
    same_found one (x ∷ xs) [] first second same =
        let found = first x (contains_head x xs) in
        let longer : found.0 ∷ filter_map h xs ≡ [] = sym (ap (λ (found : Option Y). cons_option found (filter_map h xs)) found.1) ∙ same in
        absurd cc
    same_found one (x ∷ xs) (z ∷ zs) first second same =
        let a = first x (contains_head x xs) in
        let b = second z (contains_head z zs) in
        let both : a.0 ∷ filter_map h xs ≡ b.0 ∷ filter_map h zs = sym (ap (λ (found : Option Y). cons_option found (filter_map h xs)) a.1) ∙ same
        ∙ ap (λ (found : Option Y). cons_option found (filter_map h zs)) b.1 in
        let head : a.0 ≡ b.0 = cc in
        let rest : filter_map h xs ≡ filter_map h zs = cc in
        let item : x ≡ z = one x z b.0 (a.1 ∙ ap Some head) b.1 in
        let items : xs ≡ zs = same_found one xs zs (λ y has. first y (contains_tail x xs y has)) (λ y has. second y (contains_tail z zs y has)) rest in
        λ k. item k ∷ items k

    -- and a list that holds each of some items once gives a list that holds each of what they give once
    pub found_each_once : ((x z : X) (y : Y) → h x ≡ Some y → h z ≡ Some y → x ≡ z) → (these items : List X) → HoldsEachOnce these items
        → HoldsEachOnce (filter_map h these) (filter_map h items)
    found_each_once one these items holds = record {
      once = found_apart h one items holds.once;
      all = all_from_members (Contains (filter_map h items)) (filter_map h these) (λ y has.
          let found = in_found h these y has in
          contains_found items found.0 y (All-contains (Contains items) these found.0 holds.all found.1) found.2);
      only = all_from_members (Contains (filter_map h these)) (filter_map h items) (λ y has.
          let found = in_found h items y has in
          contains_found these found.0 y (All-contains (Contains these) items found.0 holds.only found.1) found.2);
    }

    -- what is found of items that go with one another goes with one another
    pub pairs_found : (S : X → X → Type 0) (R : Y → Y → Type 0) → ((x z : X) (y w : Y) → h x ≡ Some y → h z ≡ Some w → S x z → R y w)
        → (xs : List X) → AllPairs S xs → AllPairs R (filter_map h xs)
    pairs_found S R goes [] pairs = λ i j d below within. absurd (omega arith)
    pairs_found S R goes (x ∷ xs) pairs = by (h x) refl (pairs_found S R goes xs (pairs_tail S x xs pairs))
      where
        by : (found : Option Y) → h x ≡ found → AllPairs R (filter_map h xs) → AllPairs R (cons_option found (filter_map h xs))
        by None is rest = rest
        by (Some y) is rest = AllPairs-cons R y (filter_map h xs)
            (all_from_members (R y) (filter_map h xs) (λ w has.
            let item = in_found h xs w has in
            goes x item.0 y w is item.2 (All-contains (S x) xs item.0 (pairs_head S x xs pairs) item.1)))
            rest
