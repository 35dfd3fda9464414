-- How many choices there are, and how many regions of a type.
use Rattle.std.proofs.Common.{◌≡◌, ℕ, ◌+◌, ◌*◌, List, [], ◌∷◌, map, flat_map, length, refl, sym, ap, ◌∙◌, suc-mul, zero-mul, add_comm}
use Rattle.std.proofs.lemmas.List.{length-append, length-map}
use Rattle.round_trip.specs.Words.{SetId, TypeId}
use Rattle.condition_logic.specs.declared.atoms.AtomOf.{AtomOf}
use Rattle.regions.specs.Lists.{choices}
use Rattle.regions.specs.Basis.{Basis}
use Rattle.regions.specs.Regions.{atoms_at, flags_at, regions_by, regions_with, tested_props}
use Rattle.regions.specs.region_laws.Counting.{count_by, product_of}
use Rattle.regions.proofs.region_laws.listing.Listed.{region_with}

-- lists of one length, joined
pub length_even : {X Y : Type 0} (f : X → List Y) (n : ℕ) → ((x : X) → length (f x) ≡ n) → (xs : List X) → length (flat_map f xs) ≡ length xs * n
length_even f n each [] = sym (zero-mul n)
length_even f n each (x ∷ xs) =
    let both : length (f x) + length (flat_map f xs) ≡ n + length xs * n = λ k. each x k + length_even f n each xs k in
    length-append (f x) (flat_map f xs) ∙ both ∙ add_comm n (length xs * n) ∙ sym (suc-mul (length xs) n)

-- the number of choices of one more list
pub length_choices : {X : Type 0} (xs : List X) (rest : List (List X)) → length (choices (xs ∷ rest)) ≡ length xs * length (choices rest)
length_choices xs rest = length_even (λ x. map (λ others. x ∷ others) (choices rest)) (length (choices rest)) (λ x. length-map (choices rest) (λ others. x ∷ others)) xs

-- the number of choices is the product of the lengths
pub choices_counted : {K X : Type 0} (f : K → List X) (ks : List K) → length (choices (map f ks)) ≡ product_of (map (λ k. length (f k)) ks)
choices_counted f [] = refl
choices_counted f (k ∷ ks) = length_choices (f k) (map f ks) ∙ ap (λ n. length (f k) * n) (choices_counted f ks)

-- the number of regions of a type
pub type_counted : (basis : Basis) (s : SetId) (t : TypeId) → length (regions_by basis s t) ≡ count_by basis s t
type_counted basis s t =
    let atoms : List (List AtomOf) = choices (map (atoms_at basis) (tested_props basis t)) in
    let flags = choices (map (flags_at basis t) (basis.hosts s)) in
    let product = length_even (regions_with basis s t) (length flags) (λ one. length-map flags (region_with basis s t one)) atoms in
    let one = choices_counted (atoms_at basis) (tested_props basis t) in
    let two = choices_counted (flags_at basis t) (basis.hosts s) in
    product ∙ (λ k. one k * two k)
