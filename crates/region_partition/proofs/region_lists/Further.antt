-- Choices among more lists are those among the first, each with each of those among the others behind it.
use Rattle.std.proofs.Common.{◌≡◌, List, [], ◌∷◌, ◌++◌, append-nil, map, flat_map, refl, sym, ap, ◌∙◌}
use Rattle.std.proofs.lemmas.List.{map-append, map-id}
use Rattle.std.proofs.lemmas.List.Concat.{flat_map-append, flat_map_single}
use Rattle.std.proofs.lemmas.Simd.{map-map}
use Rattle.regions.specs.Lists.{choices}
use Rattle.region_partition.specs.region_lists.Listing.{beside, joined_choices}

module _ {X : Type 0} where
  abbrev joined : List (List X) → List X
  joined choice = flat_map (λ list. list) choice

  -- an empty list, with others behind it
  beside_none : (seconds : List (List X)) → beside ([] ∷ []) seconds ≡ seconds
  beside_none seconds = append-nil (map (λ second. [] ++ second) seconds) ∙ map-id seconds

  beside_head : (x : X) (firsts seconds : List (List X)) → beside (map (λ first. x ∷ first) firsts) seconds ≡ map (λ list. x ∷ list) (beside firsts seconds)
  beside_head x [] seconds = refl
  beside_head x (first ∷ firsts) seconds =
      ap (λ rest. map (λ second. (x ∷ first) ++ second) seconds ++ rest) (beside_head x firsts seconds)
      ∙ ap (λ here. here ++ map (λ list. x ∷ list) (beside firsts seconds)) (sym (map-map (λ list. x ∷ list) (λ second. first ++ second) seconds))
      ∙ sym (map-append (λ list. x ∷ list) (map (λ second. first ++ second) seconds) (beside firsts seconds))

  beside_each : (xs : List X) (firsts seconds : List (List X)) → beside (flat_map (λ x. map (λ first. x ∷ first) firsts) xs) seconds
      ≡ flat_map (λ x. map (λ list. x ∷ list) (beside firsts seconds)) xs
  beside_each [] firsts seconds = refl
  beside_each (x ∷ xs) firsts seconds =
      flat_map-append (λ first. map (λ second. first ++ second) seconds) (map (λ first. x ∷ first) firsts) (flat_map (λ y. map (λ first. y ∷ first) firsts) xs)
      ∙ (λ i. beside_head x firsts seconds i ++ beside_each xs firsts seconds i)

  pub more_choices : (before more : List (List X)) → choices (before ++ more) ≡ beside (choices before) (choices more)
  more_choices [] more = sym (beside_none (choices more))
  more_choices (xs ∷ before) more =
      ap (λ lists. flat_map (λ x. map (λ list. x ∷ list) lists) xs) (more_choices before more) ∙ sym (beside_each xs (choices before) (choices more))

  -- one list more
  pub choices_one : (xs : List X) → choices (xs ∷ []) ≡ map (λ x. x ∷ []) xs
  choices_one xs = flat_map_single (λ x. x ∷ []) xs

module _ {X : Type 0} where
  joined_beside : (firsts seconds : List (List (List X))) → map joined (beside firsts seconds) ≡ beside (map joined firsts) (map joined seconds)
  joined_beside [] seconds = refl
  joined_beside (first ∷ firsts) seconds =
      map-append joined (map (λ second. first ++ second) seconds) (beside firsts seconds)
      ∙ (λ i. here i ++ joined_beside firsts seconds i)
    where
      apart : List (List X) → List X
      apart second = joined (first ++ second)

      together : List (List X) → List X
      together second = joined first ++ joined second

      each : apart ≡ together
      each i second = flat_map-append (λ (list : List X). list) first second i

      here : map joined (map (λ second. first ++ second) seconds) ≡ map (λ second. joined first ++ second) (map joined seconds)
      here = map-map joined (λ second. first ++ second) seconds
          ∙ ap (λ (f : List (List X) → List X). map f seconds) each
          ∙ sym (map-map (λ second. joined first ++ second) joined seconds)

  pub more_joined : (before more : List (List (List X))) → joined_choices (before ++ more) ≡ beside (joined_choices before) (joined_choices more)
  more_joined before more = ap (map joined) (more_choices before more) ∙ joined_beside (choices before) (choices more)

  -- one list more
  pub joined_one : (lists : List (List X)) → joined_choices (lists ∷ []) ≡ lists
  joined_one lists =
      ap (map joined) (choices_one lists)
      ∙ map-map joined (λ list. list ∷ []) lists
      ∙ ap (λ (f : List X → List X). map f lists) (λ i list. append-nil list i)
      ∙ map-id lists

-- the choices with those of one list more
pub choices_more : {K X : Type 0} (f : K → List X) (before : List K) (k : K) (made more : List (List X)) → made ≡ choices (map f before)
    → more ≡ beside made (map (λ x. x ∷ []) (f k)) → more ≡ choices (map f (before ++ k ∷ []))
choices_more f before k made more is next =
    let split = more_choices (map f before) (f k ∷ []) in
    next
    ∙ (λ i. beside (is i) (sym (choices_one (f k)) i))
    ∙ sym (ap choices (map-append f before (k ∷ [])) ∙ split)

pub joined_more : {K X : Type 0} (f : K → List (List X)) (before : List K) (k : K) (made more : List (List X)) → made ≡ joined_choices (map f before)
    → more ≡ beside made (f k) → more ≡ joined_choices (map f (before ++ k ∷ []))
joined_more f before k made more is next =
    let split = more_joined (map f before) (f k ∷ []) in
    next
    ∙ (λ i. beside (is i) (sym (joined_one (f k)) i))
    ∙ sym (ap joined_choices (map-append f before (k ∷ [])) ∙ split)
