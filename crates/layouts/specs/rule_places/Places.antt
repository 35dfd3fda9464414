-- Where a rule is broken: at a place, or inside the items of a list.
use Rattle.std.specs.Prelude.{◌≡◌, ℕ, List, ◌∷◌, Option, option_map}
use Rattle.json_form.specs.declared.pointer.Step.{Step}
use Rattle.json_form.specs.declared.pointer.Step.TheVariants.{Member, Item}
use Rattle.groupings.specs.least_fault.Least.{Among}
use Rattle.layouts.specs.declared.fault.Fault.{Fault}
use Rattle.layouts.specs.declared.rule.Rule.{Rule}
use Rattle.layouts.specs.Inside.{Under, after}

-- the rule is broken at the place
abbrev pub IsAt : Rule → List Step → Fault → Type 0
IsAt rule place fault = (fault.rule ≡ rule) × (fault.place ≡ place)

-- the fault of a rule at the item of a place, if there is one, or at what these steps lead to in it; seen from the object that has the list
-- at this member
abbrev pub item_fault : Rule → List ℕ → List Step → Option ℕ → Option Fault
item_fault rule list rest place = option_map (after (Member list)) (option_map (λ i. record { rule = rule; place = Item i ∷ rest }) place)

-- P says of the item at its place what is wrong with it; the same, seen from the list
abbrev pub InItem : {X : Type 0} → (ℕ → X → Fault → Type 0) → ℕ → X → Fault → Type 0
InItem P i item = Under (Item i) (P i item)

-- what is wrong with some item, seen from the list
abbrev pub InItems : {X : Type 0} → (ℕ → X → Fault → Type 0) → List X → Fault → Type 0
InItems P items = Among (InItem P) items

-- what is wrong with some item of the list at this member, seen from the object that has the member
abbrev pub InList : {X : Type 0} → List ℕ → (ℕ → X → Fault → Type 0) → List X → Fault → Type 0
InList member P items = Under (Member member) (InItems P items)
