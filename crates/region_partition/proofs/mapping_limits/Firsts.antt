-- Lists that are put one behind the other: the first item of them, and where there is none.
use Rattle.std.proofs.Common.{◌≡◌, List, [], ◌∷◌, ◌++◌, flat_map, Contains, slice_get, Some, refl, sym, subst}
use Rattle.schema_laws.proofs.state_demand.lists.Lists.{contains_flat_map, head_stands, none_in_nil}

module _ {X : Type 0} where
  -- the first of a list is the first, whatever stands behind it
  pub first_before : (xs ys : List X) (x : X) → slice_get xs 0 ≡ Some x → slice_get (xs ++ ys) 0 ≡ Some x
  first_before [] ys x is = absurd cc
  first_before (z ∷ xs) ys x is = is

  -- two lists are empty that are empty together
  pub none_before : (xs ys : List X) → xs ++ ys ≡ [] → xs ≡ []
  none_before [] ys none = refl
  none_before (x ∷ xs) ys none = absurd cc

  pub none_behind : (xs ys : List X) → xs ++ ys ≡ [] → ys ≡ []
  none_behind [] ys none = none
  none_behind (x ∷ xs) ys none = absurd cc

-- of joined lists each is empty, if they are so together
pub none_each : {X Y : Type 0} (f : X → List Y) (xs : List X) (x : X) → Contains xs x → flat_map f xs ≡ [] → f x ≡ []
none_each {X} {Y} f xs x has none = by (f x) refl
  where
    by : (ys : List Y) → f x ≡ ys → f x ≡ []
    by [] is = is
    by (y ∷ ys) is =
        let Has : List Y → Type 0 = λ list. Contains list y in
        absurd (none_in_nil y (subst Has none (contains_flat_map f xs x y has (subst Has (sym is) (head_stands y ys)))))
