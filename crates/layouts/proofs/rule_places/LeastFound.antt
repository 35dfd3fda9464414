-- The least of what was found in a list, where a second search finds nothing, and of what isn't there.
use Rattle.std.proofs.Common.{◌≡◌, ◌≢◌, ◌⊎◌, ⊎_elim, inl, ◌↔◌, ℕ, List, MatchOption, Option, Some, None, Bool, true, false, not, Bor, IsTrue, refl, subst}
use Rattle.std.specs.Option.{is_some, option_copied}
use Rattle.groupings.specs.least_fault.Least.{IsLeast}
use Rattle.groupings.proofs.least_fault.Leasts.{least_same}
use Rattle.layouts.specs.declared.fault.Fault.{Fault}
use Rattle.layouts.specs.Faults.{fault_cmp}
use Rattle.layouts.specs.rule_places.Places.{InList}
use Rattle.layouts.proofs.rule_places.Rules.{in_list_map}

-- the least in a list, of which what is wrong with each item is said in other words
pub least_in_list : {X : Type 0} (member : List ℕ) (P Q : ℕ → X → Fault → Type 0) (items : List X) (found : Option Fault)
    → ((i : ℕ) (item : X) (fault : Fault) → P i item fault → Q i item fault) → ((i : ℕ) (item : X) (fault : Fault) → Q i item fault → P i item fault)
    → IsLeast fault_cmp (InList member P items) found → IsLeast fault_cmp (InList member Q items) found
least_in_list member P Q items found to back =
    least_same fault_cmp (InList member P items) (InList member Q items) found (in_list_map member P Q items to) (in_list_map member Q P items back)

-- where the second search finds nothing for sure, the first is enough
pub first_only : (P Q : Fault → Type 0) (found : Option Fault) → ((fault : Fault) → ¬ Q fault) → IsLeast fault_cmp P found → IsLeast fault_cmp (λ fault. P fault ⊎ Q fault) found
first_only P Q found never = least_same fault_cmp P (λ fault. P fault ⊎ Q fault) found (λ fault holds. inl holds)
    (λ fault. ⊎_elim (λ (holds : P fault). holds) (λ (no : Q fault). absurd (never fault no)))

-- of what isn't there
pub at_none : {X : Type 0} (place : Option X) (Q : X → Fault → Type 0) → place ≡ None → (fault : Fault) → ¬ MatchOption place ⊥ (λ y. Q y fault)
at_none {X} place Q is fault some = subst (λ (o : Option X). MatchOption o ⊥ (λ y. Q y fault)) is some

-- an answer that there is nothing
pub none_tells : {X : Type 0} (answer : Bool) (o : Option X) → is_some o ≡ not answer → (IsTrue answer ↔ (o ≡ None))
none_tells true None is = (λ yes. refl, λ none. refl)
none_tells false None is = absurd cc
none_tells true (Some x) is = absurd cc
none_tells false (Some x) is = (λ no. absurd cc, λ no. absurd cc)

-- what is lent is there where what it is lent of is
pub lent_some : {X : Type 0} (o : Option (Bor X)) → is_some (option_copied o) ≡ is_some o
lent_some None = refl
lent_some (Some x) = refl

-- what is no item is none
pub none_of : {X : Type 0} (o : Option X) → ((x : X) → o ≢ Some x) → o ≡ None
none_of None not = refl
none_of (Some x) not = absurd (not x refl)
