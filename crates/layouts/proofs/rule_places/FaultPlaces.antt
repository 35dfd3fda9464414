-- A fault by its rule and place, and one of an item, seen from what has the list.
use Rattle.std.proofs.Common.{ℕ, List, ◌∷◌, [], refl}
use Rattle.emc_base.specs.Lists.{At}
use Rattle.json_form.specs.declared.pointer.Step.{Step}
use Rattle.json_form.specs.declared.pointer.Step.TheVariants.{Item, Member}
use Rattle.layouts.specs.declared.fault.Fault.{Fault}
use Rattle.layouts.specs.declared.rule.Rule.{Rule}
use Rattle.layouts.specs.declared.rule.Rule.TheVariants.{NamedOnce}
use Rattle.layouts.specs.rule_places.Names.{IsGivenAgain, IsRepeatedIn}
use Rattle.layouts.specs.rule_places.Places.{InList, IsAt}

-- the fault of a rule at a place
abbrev pub fault_at : Rule → List Step → Fault
fault_at rule place = record { rule = rule; place = place }

-- of an item of a list, seen from what has the list
pub in_list : {X : Type 0} (P : ℕ → X → Fault → Type 0) (member : List ℕ) (items : List X) (i : ℕ) (item : X) (rule : Rule) (rest : List Step)
    → At items i item → P i item (fault_at rule rest) → InList member P items (fault_at rule (Member member ∷ Item i ∷ rest))
in_list P member items i item rule rest here holds = record {
  rest = Item i ∷ rest;
  reached = refl;
  holds = record { i = i; item = item; here = here; holds = record { rest = rest; reached = refl; holds = holds } };
}

-- a name is given again
pub repeated_in : {X : Type 0} (name_in : X → List ℕ) (others : List (List ℕ)) (member last : List ℕ) (items : List X) (i : ℕ) (item : X)
    → At items i item → IsGivenAgain name_in others items i item
    → IsRepeatedIn name_in others member last items (fault_at NamedOnce (Member member ∷ Item i ∷ Member last ∷ []))
repeated_in name_in others member last items i item here given =
    in_list (λ i item fault. IsGivenAgain name_in others items i item × IsAt NamedOnce (Member last ∷ []) fault) member items i item NamedOnce (Member last ∷ []) here
    (given, (refl, refl))
