-- The ends of arrows, listed for the places where these begin: one more place, and one more arrow.
use Rattle.std.proofs.Common.{◌≡◌, ⊎_elim, inl, inr, ℕ, ◌+◌, ◌<◌, List, [], ◌∷◌, ◌++◌, length, get_or, Contains, length-set, refl, sym, ap, subst, subst₂, ◌∙◌}
use Rattle.std.proofs.lemmas.Bool.{cases_eq}
use Rattle.std.proofs.lemmas.List.{length-append}
use Rattle.std.proofs.lemmas.List.Elements.{Contains-append_left, Contains-push, Contains-push_cases}
use Rattle.std.proofs.lemmas.Option.{slice_get-get_or}
use Rattle.emc_base.specs.Lists.{At}
use Rattle.emc_base.proofs.Lists.{at_once}
use Rattle.emc_base.proofs.Members.{at_push_cases, contains_nil}
use Rattle.groupings.proofs.linked_places.Lists.{at_before_set, at_set, at_set_other}
use Rattle.arrow_orders.specs.Orders.{Waits}
use Rattle.row_plans.specs.Waits.{AreEnds, HasArrow, with_arrow}
use Rattle.row_plans.specs.declared.waiting.arrows.Arrow.{Arrow}

-- no places, and no arrows
pub no_places : (ends : List (List ℕ)) → ends ≡ [] → AreEnds 0 [] ends
no_places ends none = let P : List (List ℕ) → Type 0 = λ xs. AreEnds 0 [] xs in subst P (sym none) (record {
  size = refl;
  only = λ i j waits. let at = waits.1 in absurd cc;
  each = λ i j has. absurd (contains_nil (record { from = i; to = j }) has);
})

-- one more place, at which no arrow begins
pub one_place : (count : ℕ) (ends : List (List ℕ)) → AreEnds count [] ends → AreEnds (count + 1) [] (ends ++ [] ∷ [])
one_place count ends so_far = record {
  size = length-append ends ([] ∷ []) ∙ ap (λ n. n + 1) so_far.size;
  only = λ i j waits. ⊎_elim
      (λ (old : At ends i waits.0). so_far.only i j (waits.0, old, waits.2))
      (λ (here : (i ≡ length ends) × (waits.0 ≡ [])). let P : List ℕ → Type 0 = λ xs. Contains xs j in absurd (contains_nil j (subst P here.1 waits.2)))
      (at_push_cases ends [] i waits.0 waits.1);
  each = λ i j has. absurd (contains_nil (record { from = i; to = j }) has);
}

module _ (count : ℕ) (arrows : List Arrow) (ends : List (List ℕ)) (so_far : AreEnds count arrows ends) (one : Arrow) (inside : one.from < length ends) where
  abbrev listed : List ℕ
  listed = get_or ends one.from []

  abbrev more_listed : List ℕ
  more_listed = listed ++ one.to ∷ []

  abbrev longer : List (List ℕ)
  longer = with_arrow ends one

  abbrev more : List Arrow
  more = arrows ++ one ∷ []

  at_before : At ends one.from listed
  at_before = slice_get-get_or ends one.from [] inside

  at_now : At longer one.from more_listed
  at_now = at_set ends one.from more_listed inside

  -- an arrow of the list is one of the longer list
  still : (i j : ℕ) → HasArrow arrows i j → HasArrow more i j
  still i j has = Contains-append_left arrows (one ∷ []) (record { from = i; to = j }) has

  -- of what is listed at the arrow's own place
  only_here : (i j : ℕ) (now : List ℕ) → At longer i now → Contains now j → one.from ≡ i → HasArrow more i j
  only_here i j now at has same =
      let P : ℕ → Type 0 = λ k. At longer k now in
      let is : now ≡ more_listed = at_once longer one.from now more_listed (subst P (sym same) at) at_now in
      let Q : List ℕ → Type 0 = λ xs. Contains xs j in
      let R : ℕ → Type 0 = λ k. HasArrow more k j in
      let S : ℕ → ℕ → Type 0 = λ k l. HasArrow more k l in
      ⊎_elim
      (λ (old : Contains listed j). subst R same (still one.from j (so_far.only one.from j (listed, at_before, old))))
      (λ (last : one.to ≡ j). subst₂ S same last (Contains-push arrows one))
      (Contains-push_cases listed one.to j (subst Q is has))

  only_more : (i j : ℕ) → Waits longer i j → HasArrow more i j
  only_more i j waits = elim (cases_eq one.from i) [
    | inl same ↦ only_here i j waits.0 waits.1 waits.2 same
    | inr other ↦ still i j (so_far.only i j (waits.0, at_before_set ends one.from i more_listed waits.0 other waits.1, waits.2))
  ]

  -- what was listed before is listed still
  waits_still : (i j : ℕ) → Waits ends i j → Waits longer i j
  waits_still i j waits = elim (cases_eq one.from i) [
    | inl same ↦
        let P : List ℕ → Type 0 = λ xs. Contains xs j in
        let Q : ℕ → Type 0 = λ k. Waits longer k j in
        let R : ℕ → Type 0 = λ k. At ends k waits.0 in
        let is : waits.0 ≡ listed = at_once ends one.from waits.0 listed (subst R (sym same) waits.1) at_before in
        subst Q same (more_listed, at_now, Contains-append_left listed (one.to ∷ []) j (subst P is waits.2))
    | inr other ↦ (waits.0, at_set_other ends one.from i more_listed waits.0 other waits.1, waits.2)
  ]

  each_more : (i j : ℕ) → HasArrow more i j → Waits longer i j
  each_more i j has =
      let mine : Arrow = record { from = i; to = j } in
      let P : ℕ → ℕ → Type 0 = λ k l. Waits longer k l in
      ⊎_elim
      (λ (old : Contains arrows mine). waits_still i j (so_far.each i j old))
      (λ (last : one ≡ mine). subst₂ P (ap (λ (a : Arrow). a.from) last) (ap (λ (a : Arrow). a.to) last) (more_listed, at_now, Contains-push listed one.to))
      (Contains-push_cases arrows one mine has)

  -- one more arrow
  pub one_arrow : AreEnds count more longer
  one_arrow = record { size = length-set ends one.from more_listed ∙ so_far.size; only = only_more; each = each_more }
