-- What rules say of the names in a list: that one is given again, and that one names nothing.
use Rattle.std.specs.Prelude.{◌≡◌, ◌⊎◌, ℕ, List, [], ◌∷◌, Contains, Option, None}
use Rattle.json_form.specs.declared.pointer.Step.TheVariants.{Member}
use Rattle.groupings.specs.name_places.GivenNames.{IsGivenBefore}
use Rattle.layouts.specs.declared.fault.Fault.{Fault}
use Rattle.layouts.specs.declared.rule.Rule.TheVariants.{NamedOnce, Resolves}
use Rattle.layouts.specs.rule_places.Places.{IsAt, InList}

module _ {X : Type 0} (name_in : X → List ℕ) where
  -- the item's name is one of these, or that of an item before it
  abbrev pub IsGivenAgain : List (List ℕ) → List X → ℕ → X → Type 0
  IsGivenAgain others items i item = Contains others (name_in item) ⊎ IsGivenBefore name_in items i item

  -- an item of the list at this member breaks the rule: its name, which stands at its member `last`, is given again. These are the names
  -- of the scope that stand before the list.
  abbrev pub IsRepeatedIn : List (List ℕ) → List ℕ → List ℕ → List X → Fault → Type 0
  IsRepeatedIn others member last items = InList member (λ i item fault. IsGivenAgain others items i item × IsAt NamedOnce (Member last ∷ []) fault) items

-- the rule is broken at this member: it names nothing
abbrev pub NamesNothing : Option ℕ → List ℕ → Fault → Type 0
NamesNothing found member fault = (found ≡ None) × IsAt Resolves (Member member ∷ []) fault
