-- The names that lists know, by the places of their names, and which are given again by what is known.
use Rattle.std.specs.Prelude.{◌↔◌, ◌⊎◌, ℕ, List, [], ◌∷◌, Any, Contains, IsSome, Option}
use Rattle.std.specs.Borrow.{Bor}
use Rattle.json_form.specs.declared.pointer.Step.TheVariants.{Member}
use Rattle.groupings.specs.least_fault.Least.{IsLeast}
use Rattle.layouts.specs.declared.fault.Fault.{Fault}
use Rattle.layouts.specs.declared.rule.Rule.TheVariants.{NamedOnce}
use Rattle.layouts.specs.Faults.{fault_cmp}
use Rattle.groupings.specs.declared.name_places.places.Places.{Places}
use Rattle.groupings.specs.name_places.GivenNames.{IsGivenBefore}
use Rattle.groupings.specs.name_places.PlacesIn.{place_in}
use Rattle.layouts.specs.rule_places.Places.{IsAt}
use Rattle.layouts.specs.rule_places.Names.{IsRepeatedIn}

-- one of the lists has the name
abbrev pub IsKnown : List (Bor Places) → List ℕ → Type 0
IsKnown lists name = Any (λ places. IsSome (place_in places.now name)) lists

-- what the lists know are these names
abbrev pub AreNames : List (Bor Places) → List (List ℕ) → Type 0
AreNames lists names = (name : List ℕ) → IsKnown lists name ↔ Contains names name

module _ {X : Type 0} (name_in : X → List ℕ) (lists : List (Bor Places)) where
  -- one of the lists has the item's name, or an item before it has
  abbrev pub IsKnownAgain : List X → ℕ → X → Type 0
  IsKnownAgain items i item = IsKnown lists (name_in item) ⊎ IsGivenBefore name_in items i item

  -- so the item breaks the rule, at its member `last`, where its name stands
  abbrev pub IsKnownAgainAt : List ℕ → List X → ℕ → X → Fault → Type 0
  IsKnownAgainAt last items i item fault = IsKnownAgain items i item × IsAt NamedOnce (Member last ∷ []) fault

  -- what was found is the least of the names that are given again in the list at this member, whichever names the lists before it know
  abbrev pub IsLeastAgain : List ℕ → List ℕ → List X → Option Fault → Type 0
  IsLeastAgain member last items found = (names : List (List ℕ)) → AreNames lists names → IsLeast fault_cmp (IsRepeatedIn name_in names member last items) found
