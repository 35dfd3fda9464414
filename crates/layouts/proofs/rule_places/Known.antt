-- What lists know of names, by the places of their names.
use Rattle.std.proofs.Common.{◌≡◌, ◌⊎◌, ⊎_elim, inl, inr, ℕ, zero, suc, ◌<◌, List, [], ◌∷◌, ◌++◌, map, Contains, Any, Bor, Option, true, refl, sym, subst, ◌∙◌, arith}
use Rattle.std.specs.Option.{is_some}
use Rattle.std.proofs.lemmas.List.Elements.{Contains-append_cases, Contains-append_left, Contains-append_right}
use Rattle.json_form.specs.declared.pointer.Step.TheVariants.{Member}
use Rattle.groupings.specs.least_fault.Least.{IsLeast}
use Rattle.layouts.specs.declared.fault.Fault.{Fault}
use Rattle.layouts.specs.declared.rule.Rule.TheVariants.{NamedOnce}
use Rattle.layouts.specs.Faults.{fault_cmp}
use Rattle.groupings.specs.declared.name_places.places.Places.{Places}
use Rattle.groupings.specs.name_places.GivenNames.{first_place, IsGivenBefore}
use Rattle.groupings.specs.name_places.PlacesIn.{place_in}
use Rattle.groupings.proofs.name_places.KnownNames.{name_of_item, place_of_name}
use Rattle.layouts.specs.rule_places.Places.{IsAt, InList}
use Rattle.layouts.specs.rule_places.KnownNames.{AreNames, IsKnown, IsKnownAgainAt, IsLeastAgain}
use Rattle.layouts.specs.rule_places.Names.{IsGivenAgain}
use Rattle.layouts.proofs.rule_places.LeastFound.{least_in_list}

-- some item of a list: none of the empty one, the first or a later one
module _ {X : Type 0} (P : X → Type 0) where
  any_nil : Any P [] → ⊥
  any_nil some = let within : some.0 < 0 = some.2 in omega arith

  any_head : (x : X) (xs : List X) → P x → Any P (x ∷ xs)
  any_head x xs holds = (0, x, omega arith, refl, holds)

  any_tail : (x : X) (xs : List X) → Any P xs → Any P (x ∷ xs)
  any_tail x xs (k, y, within, is, holds) = (suc k, y, omega arith, is, holds)

  any_cases : (x : X) (xs : List X) → Any P (x ∷ xs) → P x ⊎ Any P xs
  any_cases x xs (zero, y, within, is, holds) = inl (subst P (sym is) holds)
  any_cases x xs (suc k, y, within, is, holds) = inr (k, y, omega arith, is, holds)

-- no list knows no name
pub of_none : AreNames [] []
of_none name = (λ known. absurd (any_nil (λ (places : Bor Places). is_some (place_in places.now name) ≡ true) known), λ has. let within : has.0 < 0 = has.1 in absurd (omega arith))

-- a list knows the names of its items
pub of_one : {X : Type 0} (name_in : X → List ℕ) (items : List X) (places : Bor Places) → place_in places.now ≡ first_place name_in items
    → AreNames (places ∷ []) (map name_in items)
of_one name_in items places are name = (to, back)
  where
    P : Bor Places → Type 0
    P known = is_some (place_in known.now name) ≡ true

    to : Any P (places ∷ []) → Contains (map name_in items) name
    to known = ⊎_elim
        (λ (here : P places). name_of_item name_in items name (sym (λ i. is_some (are i name)) ∙ here))
        (λ (no : Any P []). absurd (any_nil P no))
        (any_cases P places [] known)

    back : Contains (map name_in items) name → Any P (places ∷ [])
    back has = any_head P places [] ((λ i. is_some (are i name)) ∙ place_of_name name_in items name has)

-- two lists know the names of both
pub of_two : (one other : Bor Places) (names more : List (List ℕ)) → AreNames (one ∷ []) names → AreNames (other ∷ []) more
    → AreNames (one ∷ other ∷ []) (names ++ more)
of_two one other names more first second name = (to, back)
  where
    P : Bor Places → Type 0
    P known = is_some (place_in known.now name) ≡ true

    to : Any P (one ∷ other ∷ []) → Contains (names ++ more) name
    to known = ⊎_elim
        (λ (here : P one). Contains-append_left names more name ((first name).0 (any_head P one [] here)))
        (λ (rest : Any P (other ∷ [])). Contains-append_right names more name ((second name).0 rest))
        (any_cases P one (other ∷ []) known)

    back : Contains (names ++ more) name → Any P (one ∷ other ∷ [])
    back has = ⊎_elim
        (λ (here : Contains names name). any_head P one (other ∷ []) (⊎_elim (λ (is : P one). is) (λ (no : Any P []). absurd (any_nil P no)) (any_cases P one [] ((first name).1 here))))
        (λ (there : Contains more name). any_tail P one (other ∷ []) ((second name).1 there))
        (Contains-append_cases names more name has)

-- the least by what lists know is the least by the names that they know
pub again_by_names : {X : Type 0} (name_in : X → List ℕ) (lists : List (Bor Places)) (member last : List ℕ) (items : List X) (found : Option Fault)
    → IsLeast fault_cmp (InList member (IsKnownAgainAt name_in lists last items) items) found → IsLeastAgain name_in lists member last items found
again_by_names {X} name_in lists member last items found least names are =
    least_in_list member (IsKnownAgainAt name_in lists last items) Again items found to back least
  where
    Again : ℕ → X → Fault → Type 0
    Again i item fault = IsGivenAgain name_in names items i item × IsAt NamedOnce (Member last ∷ []) fault

    to : (i : ℕ) (item : X) (fault : Fault) → IsKnownAgainAt name_in lists last items i item fault → Again i item fault
    to i item fault holds = (⊎_elim (λ (known : IsKnown lists (name_in item)). inl ((are (name_in item)).0 known)) (λ (given : IsGivenBefore name_in items i item). inr given) holds.0, holds.1)

    back : (i : ℕ) (item : X) (fault : Fault) → Again i item fault → IsKnownAgainAt name_in lists last items i item fault
    back i item fault holds = (⊎_elim (λ (has : Contains names (name_in item)). inl ((are (name_in item)).1 has)) (λ (given : IsGivenBefore name_in items i item). inr given) holds.0, holds.1)
