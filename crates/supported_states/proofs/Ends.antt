-- The ends of associations by their places, and the types that numbers ask for.
use Rattle.std.proofs.Common.{◌≡◌, ◌≢◌, ◌==◌, ◌+◌, ◌-◌, ◌*◌, ◌/◌, ◌%◌, ◌<◌, ℕ, zero, suc, List, [], ◌∷◌, slice_get, option_map, Option, Bool, true, false, refl, ap, ◌∙◌, arith, mod-lt}
use Rattle.std.specs.Option.{option_map_or}
use Rattle.std.proofs.Math.Nat.{div-add-mod}
use Rattle.std.proofs.lemmas.Bool.Decides.{Decides-eqb, not_from_Decides}
use Rattle.round_trip.specs.Words.{SetId, EntityModel, EntitySet, Assoc, End}
use Rattle.population.specs.Numbered.{asked_type, end_of, ends_of, twice, type_at_end}
use Rattle.population.proofs.plain.Numbered.{twice_is}

-- the place of an end
abbrev pub end_place : Bool → ℕ → ℕ
end_place true n = twice n
end_place false n = suc (twice n)

-- the end at it
pub end_there : (first : Bool) (assocs : List Assoc) (n : ℕ) → slice_get (ends_of assocs) (end_place first n) ≡ option_map (end_of first) (slice_get assocs n)
end_there true [] n = refl
end_there false [] n = refl
end_there true (assoc ∷ assocs) zero = refl
end_there false (assoc ∷ assocs) zero = refl
end_there true (assoc ∷ assocs) (suc n) = end_there true assocs n
end_there false (assoc ∷ assocs) (suc n) = end_there false assocs n

-- the type that a number asks for
pub asked_some : (model : EntityModel) (u : SetId) (set : EntitySet) (number : ℕ) → number ≢ 0 → (end : Option End) → end ≡ slice_get (ends_of model.assocs) (number - 1)
    → option_map_or (type_at_end model u set) end set.element ≡ asked_type model u set number
asked_some model u set zero some end is = absurd (some refl)
asked_some model u set (suc place) some end is =
    let less : suc place - 1 ≡ place = omega arith in
    ap (λ found. option_map_or (type_at_end model u set) found set.element) (is ∙ ap (slice_get (ends_of model.assocs)) less)

-- the half of a place tells the association, and the rest the end
pub end_halved : (assocs : List Assoc) (place : ℕ) → slice_get (ends_of assocs) place ≡ option_map (end_of (place % 2 == 0)) (slice_get assocs (place / 2))
end_halved assocs place =
    let half : ℕ = place / 2 in
    let whole = div-add-mod place 2 in
    let small : place % 2 < 2 = mod-lt place (omega arith) in
    let double = twice_is half in
    by (place % 2 == 0) refl whole small double
  where
    by : (first : Bool) → (place % 2 == 0) ≡ first → 2 * (place / 2) + place % 2 ≡ place → place % 2 < 2 → twice (place / 2) ≡ place / 2 + place / 2
        → slice_get (ends_of assocs) place ≡ option_map (end_of first) (slice_get assocs (place / 2))
    by true told whole small double =
        let none : place % 2 ≡ 0 = (Decides-eqb (place % 2) 0).0 told in
        let is : place ≡ end_place true (place / 2) = omega (arith, none, whole, double) in
        ap (slice_get (ends_of assocs)) is ∙ end_there true assocs (place / 2)
    by false told whole small double =
        let some : place % 2 ≢ 0 = not_from_Decides (place % 2 == 0) (Decides-eqb (place % 2) 0) told in
        let is : place ≡ end_place false (place / 2) = omega (arith, some, small, whole, double) in
        ap (slice_get (ends_of assocs)) is ∙ end_there false assocs (place / 2)
