-- Lists of choices, and lists without repeats.
use Rattle.std.specs.Prelude.{List, [], ◌∷◌, Bool, not, map, filter, flat_map}

-- all lists with an item of each of these lists, in their order; the last item varies fastest
abbrev pub choices : {X : Type 0} → List (List X) → List (List X)
choices [] = [] ∷ []
choices (xs ∷ rest) = flat_map (λ x. map (λ others. x ∷ others) (choices rest)) xs

-- each item once, where it first stands
abbrev pub firsts : {X : Type 0} → (X → X → Bool) → List X → List X
firsts same [] = []
firsts same (x ∷ xs) = x ∷ filter (λ other. not (same x other)) (firsts same xs)
