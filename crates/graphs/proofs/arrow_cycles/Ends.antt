-- The ends of arrows, listed for the places where these begin: one more place, and one more arrow.
use Rattle.std.proofs.Common.{◌≡◌, inl, inr, ℕ, ◌+◌, ◌<◌, List, [], ◌∷◌, ◌++◌, length, get_or, set, Contains, Option, Some, None, length-set, refl, sym, ap, subst, subst₂, ◌∙◌, arith}
use Rattle.std.proofs.lemmas.Bool.{cases_eq}
use Rattle.std.proofs.lemmas.List.{length-append}
use Rattle.std.proofs.lemmas.List.Elements.{Contains-append_left, Contains-push, Contains-push_cases}
use Rattle.std.proofs.lemmas.Option.{slice_get-get_or}
use Rattle.emc_base.specs.Lists.{At}
use Rattle.emc_base.proofs.Lists.{at_once}
use Rattle.emc_base.proofs.Members.{at_push_cases, at_push_last, contains_nil}
use Rattle.emc_base.proofs.Joined.{at_left}
use Rattle.graphs.specs.arrow_cycles.Arrows.{IsArrow, StayWithin}
use Rattle.graphs.specs.arrow_cycles.Ends.{GoesTo, IsEnds, IsFrom, with_arrow}
use Rattle.graphs.specs.declared.arrow_cycles.arrow.Arrow.{Arrow}
use Rattle.graphs.proofs.arrow_cycles.Places.{at_set, at_set_cases, at_set_other}

no_arrow : (from to : ℕ) → ¬ IsArrow [] from to
no_arrow from to is = let at = is.1 in absurd cc

-- no places, and no arrows
pub no_places : (ends : List (List ℕ)) → ends ≡ [] → IsEnds 0 [] ends
no_places ends none = let P : List (List ℕ) → Type 0 = λ xs. IsEnds 0 [] xs in subst P (sym none) (record {
  size = refl;
  only = λ from to goes. let at = goes.1 in absurd cc;
  each = λ from to is. absurd (no_arrow from to is);
})

-- one more place, at which no arrow begins
pub one_place : (count : ℕ) (ends : List (List ℕ)) → IsEnds count [] ends → IsEnds (count + 1) [] (ends ++ [] ∷ [])
one_place count ends so_far = record {
  size = length-append ends ([] ∷ []) ∙ ap (λ n. n + 1) so_far.size;
  only = λ from to goes. elim (at_push_cases ends [] from goes.0 goes.1) [
    | inl old ↦ so_far.only from to (goes.0, old, goes.2)
    | inr here ↦ let P : List ℕ → Type 0 = λ xs. Contains xs to in absurd (contains_nil to (subst P here.1 goes.2))
  ];
  each = λ from to is. absurd (no_arrow from to is);
}

-- the arrow at a place of the list, if there is one, begins at a place
pub begins_within : (count size : ℕ) (arrows : List (Option Arrow)) → size ≡ count → StayWithin count arrows → (k : ℕ) (one : Option Arrow) → At arrows k one → IsFrom size one
begins_within count size arrows same within k None at = tt
begins_within count size arrows same within k (Some one) at = let inside : one.from < count = (within.each one.from one.to (k, at)).0 in omega (arith, inside, same)

module _ (count : ℕ) (arrows : List (Option Arrow)) (ends : List (List ℕ)) (so_far : IsEnds count arrows ends) where
  -- an arrow of the list is one of a longer list
  still : (one : Option Arrow) (from to : ℕ) → IsArrow arrows from to → IsArrow (arrows ++ one ∷ []) from to
  still one from to is = (is.0, at_left arrows (one ∷ []) is.0 (Some (record { from = from; to = to })) is.1)

  -- no arrow more
  ends_same : IsEnds count (arrows ++ None ∷ []) ends
  ends_same = record {
    size = so_far.size;
    only = λ from to goes. still None from to (so_far.only from to goes);
    each = λ from to is. elim (at_push_cases arrows None is.0 (Some (record { from = from; to = to })) is.1) [
      | inl old ↦ so_far.each from to (is.0, old)
      | inr here ↦ let same = here.1 in absurd cc
    ];
  }

  module _ (one : Arrow) (inside : one.from < length ends) where
    abbrev listed : List ℕ
    listed = get_or ends one.from []

    abbrev longer : List (List ℕ)
    longer = set ends one.from (listed ++ one.to ∷ [])

    abbrev more : List (Option Arrow)
    more = arrows ++ Some one ∷ []

    at_before : At ends one.from listed
    at_before = slice_get-get_or ends one.from [] inside

    at_now : At longer one.from (listed ++ one.to ∷ [])
    at_now = at_set ends one.from (listed ++ one.to ∷ []) inside

    only_more : (from to : ℕ) → GoesTo longer from to → IsArrow more from to
    only_more from to goes = elim (at_set_cases ends one.from from (listed ++ one.to ∷ []) goes.0 goes.1) [
      | inl old ↦ still (Some one) from to (so_far.only from to (goes.0, old, goes.2))
      | inr here ↦
          let P : List ℕ → Type 0 = λ xs. Contains xs to in
          elim (Contains-push_cases listed one.to to (subst P here.1 goes.2)) [
            | inl earlier ↦
                let Q : ℕ → Type 0 = λ x. IsArrow more x to in
                subst Q here.0 (still (Some one) one.from to (so_far.only one.from to (listed, at_before, earlier)))
            | inr last ↦
                let Q : ℕ → ℕ → Type 0 = λ x y. IsArrow more x y in
                subst₂ Q here.0 last (length arrows, at_push_last arrows (Some one))
          ]
    ]

    -- what was listed before is listed still
    goes_still : (from to : ℕ) → GoesTo ends from to → GoesTo longer from to
    goes_still from to goes = elim (cases_eq one.from from) [
      | inl same ↦
          let P : List ℕ → Type 0 = λ xs. Contains xs to in
          let Q : ℕ → Type 0 = λ x. GoesTo longer x to in
          let R : ℕ → Type 0 = λ x. At ends x goes.0 in
          let is : goes.0 ≡ listed = at_once ends one.from goes.0 listed (subst R (sym same) goes.1) at_before in
          subst Q same (listed ++ one.to ∷ [], at_now, Contains-append_left listed (one.to ∷ []) to (subst P is goes.2))
      | inr other ↦ (goes.0, at_set_other ends one.from from (listed ++ one.to ∷ []) goes.0 goes.1 other, goes.2)
    ]

    each_more : (from to : ℕ) → IsArrow more from to → GoesTo longer from to
    each_more from to is = elim (at_push_cases arrows (Some one) is.0 (Some (record { from = from; to = to })) is.1) [
      | inl old ↦ goes_still from to (so_far.each from to (is.0, old))
      | inr here ↦
          let both = here.1 in
          let mine : Arrow = record { from = from; to = to } in
          let same : mine ≡ one = cc in
          let P : ℕ → ℕ → Type 0 = λ x y. GoesTo longer x y in
          subst₂ P (sym (ap (λ (a : Arrow). a.from) same)) (sym (ap (λ (a : Arrow). a.to) same)) (listed ++ one.to ∷ [], at_now, Contains-push listed one.to)
    ]

    ends_longer : IsEnds count more longer
    ends_longer = record { size = length-set ends one.from (listed ++ one.to ∷ []) ∙ so_far.size; only = only_more; each = each_more }

-- one more arrow
pub one_arrow : (count : ℕ) (arrows : List (Option Arrow)) (ends : List (List ℕ)) → IsEnds count arrows ends → (one : Option Arrow) → IsFrom (length ends) one
    → IsEnds count (arrows ++ one ∷ []) (with_arrow ends one)
one_arrow count arrows ends so_far None begins = ends_same count arrows ends so_far
one_arrow count arrows ends so_far (Some one) begins = ends_longer count arrows ends so_far one begins
