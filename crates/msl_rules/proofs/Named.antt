-- What tests say of names: that one stands for nothing, or that two differ; and the least of what is wrong by what a name stands for.
use Rattle.std.proofs.Common.{◌≡◌, ◌↔◌, List, ◌∷◌, [], ℕ, MatchOption, Option, Some, None, Bool, true, false, not, IsTrue, refl, sym, subst, ◌∙◌}
use Rattle.std.specs.Option.{option_map}
use Rattle.std.proofs.lemmas.Bool.{both_ways}
use Rattle.std.proofs.lemmas.Option.{same_Some}
use Rattle.emc_base.specs.Lists.{At}
use Rattle.json_form.specs.declared.pointer.Step.TheVariants.{Member}
use Rattle.groupings.specs.least_fault.Least.{IsLeast}
use Rattle.groupings.proofs.least_fault.Leasts.{least_same}
use Rattle.layouts.specs.declared.fault.Fault.{Fault}
use Rattle.layouts.specs.declared.rule.Rule.TheVariants.{Resolves}
use Rattle.layouts.specs.Faults.{fault_cmp}
use Rattle.layouts.specs.rule_places.Places.{IsAt}

-- the least where a name stands for the same, or for nothing
pub names_nothing : {X : Type 0} (one other : Option X) (member : List ℕ) (found : Option Fault) → one ≡ other
    → IsLeast fault_cmp (λ fault. (one ≡ None) × IsAt Resolves (Member member ∷ []) fault) found
    → IsLeast fault_cmp (λ fault. (other ≡ None) × IsAt Resolves (Member member ∷ []) fault) found
names_nothing {X} one other member found = subst (λ (o : Option X). IsLeast fault_cmp (λ fault. (o ≡ None) × IsAt Resolves (Member member ∷ []) fault) found)

-- a test that says no where another says yes
pub denies : {P : Type 0} (answer test : Bool) → (IsTrue test ↔ P) → answer ≡ not test → IsTrue answer ↔ (¬ P)
denies answer true tells is = (λ yes. absurd (both_ways answer is yes), λ never. absurd (never (tells.0 refl)))
denies answer false tells is = (λ yes holds. both_ways false refl (tells.1 holds), λ never. is)

-- what is made of nothing is nothing
pub none_mapped : {X Y : Type 0} (f : X → Y) (o : Option X) (other : Option Y) → option_map f o ≡ other → (o ≡ None) ↔ (other ≡ None)
none_mapped f None other is = (λ none. sym is, λ none. refl)
none_mapped f (Some x) other is = (λ none. absurd cc, λ none. let no = is ∙ none in absurd cc)

-- the least of what is wrong by what a name stands for, which stands for the same
pub least_named : {X : Type 0} (P : X → Fault → Type 0) (one other : Option X) (found : Option Fault) → one ≡ other
    → IsLeast fault_cmp (λ fault. MatchOption one ⊥ (λ x. P x fault)) found → IsLeast fault_cmp (λ fault. MatchOption other ⊥ (λ x. P x fault)) found
least_named {X} P one other found = subst (λ (o : Option X). IsLeast fault_cmp (λ fault. MatchOption o ⊥ (λ x. P x fault)) found)

-- the least of what is wrong by the item at a place
pub least_at : {X : Type 0} (P : X → Fault → Type 0) (items : List X) (i : ℕ) (item : X) (found : Option Fault) → At items i item
    → IsLeast fault_cmp (P item) found → IsLeast fault_cmp (λ fault. (x : X) × At items i x × P x fault) found
least_at {X} P items i item found here = least_same fault_cmp (P item) (λ fault. (x : X) × At items i x × P x fault) found
    (λ fault wrong. (item, here, wrong))
    (λ fault some. subst (λ (x : X). P x fault) (same_Some some.0 item (sym some.1 ∙ here)) some.2)
