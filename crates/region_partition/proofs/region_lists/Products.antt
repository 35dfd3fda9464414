-- Products of lists of numbers.
use Rattle.std.proofs.Common.{◌≡◌, ℕ, ◌*◌, List, [], ◌∷◌, ◌++◌, map, sym, ap, ◌∙◌}
use Rattle.std.proofs.Math.Nat.{mul_assoc, mul-one, one-mul}
use Rattle.std.proofs.lemmas.List.{map-append}
use Rattle.regions.specs.region_laws.Counting.{product_of}
use Rattle.region_partition.specs.region_lists.Counts.{capped}
use Rattle.region_partition.proofs.region_lists.Counts.{capped_times}

pub product_append : (xs ys : List ℕ) → product_of (xs ++ ys) ≡ product_of xs * product_of ys
product_append [] ys = sym (one-mul (product_of ys))
product_append (x ∷ xs) ys = ap (λ n. x * n) (product_append xs ys) ∙ sym (mul_assoc x (product_of xs) (product_of ys))

-- more factors, where what came before is counted up to the bound
pub more_factors : {X : Type 0} (f : X → ℕ) (before more : List X) (product : ℕ) → product ≡ capped (product_of (map f before))
    → capped (product * product_of (map f more)) ≡ capped (product_of (map f (before ++ more)))
more_factors f before more product is =
    ap (λ n. capped (n * product_of (map f more))) is
    ∙ capped_times (product_of (map f before)) (product_of (map f more))
    ∙ ap capped (sym (product_append (map f before) (map f more)) ∙ ap product_of (sym (map-append f before more)))

-- one factor more
pub more_factor : {X : Type 0} (f : X → ℕ) (before : List X) (x : X) (product count : ℕ) → product ≡ capped (product_of (map f before)) → count ≡ f x
    → capped (product * count) ≡ capped (product_of (map f (before ++ x ∷ [])))
more_factor f before x product count is one = ap (λ n. capped (product * n)) (one ∙ sym (mul-one (f x))) ∙ more_factors f before (x ∷ []) product is
