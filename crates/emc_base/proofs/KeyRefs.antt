-- The order of keys is decided by their first two parts, where these differ.
use Rattle.std.proofs.Common.{◌≡◌, List, [], ◌∷◌, true, false, refl, ap, sym, ◌∙◌}
use Rattle.std.specs.Cmp.Lexicographic.{slice_cmp}
use Rattle.std.specs.Ordering.{is_ne, ordering_then}
use Rattle.std.specs.declared.cmp.Ordering.{Ordering}
use Rattle.std.specs.declared.cmp.Ordering.TheVariants.{Less, Equal, Greater}
use Rattle.emc_base.specs.KeyRefs.{part_of}
use Rattle.emc_base.specs.Order.{value_cmp}
use Rattle.emc_base.specs.declared.value.Value.{Value}
use Rattle.emc_base.specs.declared.value.Value.TheVariants.{Null, Whole, Flag, Text, Bytes}

-- no value comes before null
null_first : (v : Value) → ordering_then (value_cmp Null v) Less ≡ Less
null_first Null = refl
null_first (Whole number) = refl
null_first (Flag flag) = refl
null_first (Text text) = refl
null_first (Bytes bytes) = refl

null_first_too : (v : Value) → ordering_then (value_cmp v Null) Greater ≡ Greater
null_first_too Null = refl
null_first_too (Whole number) = refl
null_first_too (Flag flag) = refl
null_first_too (Text text) = refl
null_first_too (Bytes bytes) = refl

-- an order that comes again decides nothing
alone : (order : Ordering) → ordering_then order (ordering_then order Equal) ≡ ordering_then order Equal
alone Less = refl
alone Equal = refl
alone Greater = refl

again : (order rest others : Ordering) → ordering_then rest others ≡ others → ordering_then order (ordering_then rest (ordering_then order others)) ≡ ordering_then order others
again Less rest others e = refl
again Equal rest others e = e
again Greater rest others e = refl

twice : (order rest : Ordering) → ordering_then order (ordering_then order rest) ≡ ordering_then order rest
twice Less rest = refl
twice Equal rest = refl
twice Greater rest = refl

-- the first two parts decide what all decide, where they decide
by_parts : (x y : List Value) → ordering_then (value_cmp (part_of x 0) (part_of y 0)) (ordering_then (value_cmp (part_of x 1) (part_of y 1)) (slice_cmp value_cmp x y)) ≡ slice_cmp value_cmp x y
by_parts [] [] = refl
by_parts [] (b ∷ []) = null_first b
by_parts [] (b ∷ next ∷ ys) = ap (ordering_then (value_cmp Null b)) (null_first next) ∙ null_first b
by_parts (a ∷ []) [] = null_first_too a
by_parts (a ∷ next ∷ xs) [] = ap (ordering_then (value_cmp a Null)) (null_first_too next) ∙ null_first_too a
by_parts (a ∷ []) (b ∷ []) = alone (value_cmp a b)
by_parts (a ∷ []) (b ∷ next ∷ ys) = again (value_cmp a b) (value_cmp Null next) Less (null_first next)
by_parts (a ∷ next ∷ xs) (b ∷ []) = again (value_cmp a b) (value_cmp next Null) Greater (null_first_too next)
by_parts (a ∷ next ∷ xs) (b ∷ other ∷ ys) =
    again (value_cmp a b) (value_cmp next other) (ordering_then (value_cmp next other) (slice_cmp value_cmp xs ys)) (twice (value_cmp next other) (slice_cmp value_cmp xs ys))

-- what comes after an order that decides isn't looked at, and what comes after one that doesn't is
decides : (order rest : Ordering) → is_ne order ≡ true → order ≡ ordering_then order rest
decides Less rest ne = refl
decides Equal rest ne = cc
decides Greater rest ne = refl

passes_on : (order rest : Ordering) → is_ne order ≡ false → rest ≡ ordering_then order rest
passes_on Less rest eq = cc
passes_on Equal rest eq = refl
passes_on Greater rest eq = cc

-- lent parts are compared as the parts of their keys
pub parts_compared : (v w p q : Value) (order : Ordering) → order ≡ value_cmp v w → v ≡ p → w ≡ q → order ≡ value_cmp p q
parts_compared v w p q order compared one other = compared ∙ ap (λ part. value_cmp part w) one ∙ ap (value_cmp p) other

module _ (x y : List Value) where
  firsts : Ordering
  firsts = value_cmp (part_of x 0) (part_of y 0)

  seconds : Ordering
  seconds = value_cmp (part_of x 1) (part_of y 1)

  -- keys are ordered as their first parts where these differ
  pub by_first : (order : Ordering) → order ≡ value_cmp (part_of x 0) (part_of y 0) → is_ne order ≡ true → order ≡ slice_cmp value_cmp x y
  unfolding firsts seconds
  by_first order is ne = is ∙ decides firsts (ordering_then seconds (slice_cmp value_cmp x y)) (ap is_ne (sym is) ∙ ne) ∙ by_parts x y

  -- and else as their second parts where these differ
  pub by_second : (order : Ordering) → order ≡ value_cmp (part_of x 0) (part_of y 0) → is_ne order ≡ false
      → (next : Ordering) → next ≡ value_cmp (part_of x 1) (part_of y 1) → is_ne next ≡ true → next ≡ slice_cmp value_cmp x y
  unfolding firsts seconds
  by_second order is eq next next_is ne =
      next_is ∙ decides seconds (slice_cmp value_cmp x y) (ap is_ne (sym next_is) ∙ ne)
      ∙ passes_on firsts (ordering_then seconds (slice_cmp value_cmp x y)) (ap is_ne (sym is) ∙ eq) ∙ by_parts x y
