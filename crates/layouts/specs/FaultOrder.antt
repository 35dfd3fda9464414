-- The order of faults is total, and tells different ones apart.
use Rattle.std.specs.Prelude.{◌≡◌, ℕ, [], ◌∷◌, get_or}
use mathlib.Core.Path.{refl, sym, ap, ◌∙◌}
use Rattle.std.specs.declared.cmp.Ordering.{Ordering}
use Rattle.std.specs.declared.cmp.Ordering.TheVariants.{Less, Equal, Greater}
use Rattle.std.specs.Cmp.{IsTotalOrder, nat_cmp_total, on_total, then_total}
use Rattle.std.specs.FinMap.{IsAntisymmetric, nat_cmp-IsAntisymmetric}
use Rattle.std.specs.Ordering.{nat_cmp, ordering_then}
use Rattle.json_form.specs.PlaceOrder.{steps_cmp_apart, steps_cmp_total}
use Rattle.json_form.specs.Pointers.{steps_cmp}
use Rattle.layouts.specs.declared.rule.Rule.{Rule}
use Rattle.layouts.specs.declared.rule.Rule.TheVariants.{IsJson, HasForm, HasMembers, IsKnown, IsSupported, NamedOnce, Resolves, Ancestors, TypeKey, KeyProperty, InheritedName, PropertyType, Bound, ConcreteType, EndRoles, Multiplicities, Constraint, DependentKey, Arrows, EndType, ColumnType, TableKey, KeyColumn, ForeignKey, PointsElsewhere, ContainerName, PickedType, SharedProperty, Corresponds, WritesKey, OnePairing, OneOwner, ConditionForm, ConditionValue, KeyCondition, LinkPlace, ConstraintMapping, ForeignValue, WrittenOnce, MappedAssociation}
use Rattle.layouts.specs.Faults.{fault_cmp}
use Rattle.layouts.specs.Rules.{rule_number}

-- the order of faults is total
pub fault_cmp_total : IsTotalOrder fault_cmp
fault_cmp_total = then_total (on_total (λ fault. rule_number fault.rule) nat_cmp_total) (on_total (λ fault. fault.place) steps_cmp_total)

-- the rule of a number
rule_of : ℕ → Rule
rule_of number = get_or (IsJson ∷ IsJson ∷ HasForm ∷ HasMembers ∷ IsKnown ∷ IsSupported ∷ NamedOnce ∷ Resolves ∷ Ancestors ∷ TypeKey ∷ KeyProperty ∷ InheritedName ∷ PropertyType ∷ Bound ∷ ConcreteType ∷ EndRoles ∷ Multiplicities ∷ Constraint ∷ DependentKey ∷ Arrows ∷ EndType ∷ ColumnType ∷ TableKey ∷ KeyColumn ∷ ForeignKey ∷ PointsElsewhere ∷ ContainerName ∷ PickedType ∷ SharedProperty ∷ Corresponds ∷ WritesKey ∷ OnePairing ∷ OneOwner ∷ ConditionForm ∷ ConditionValue ∷ KeyCondition ∷ LinkPlace ∷ ConstraintMapping ∷ ForeignValue ∷ WrittenOnce ∷ MappedAssociation ∷ []) number IsJson

-- its number has no other rule
numbered : (rule : Rule) → rule_of (rule_number rule) ≡ rule
unfolding rule_of
numbered IsJson = refl
numbered HasForm = refl
numbered HasMembers = refl
numbered IsKnown = refl
numbered IsSupported = refl
numbered NamedOnce = refl
numbered Resolves = refl
numbered Ancestors = refl
numbered TypeKey = refl
numbered KeyProperty = refl
numbered InheritedName = refl
numbered PropertyType = refl
numbered Bound = refl
numbered ConcreteType = refl
numbered EndRoles = refl
numbered Multiplicities = refl
numbered Constraint = refl
numbered DependentKey = refl
numbered Arrows = refl
numbered EndType = refl
numbered ColumnType = refl
numbered TableKey = refl
numbered KeyColumn = refl
numbered ForeignKey = refl
numbered PointsElsewhere = refl
numbered ContainerName = refl
numbered PickedType = refl
numbered SharedProperty = refl
numbered Corresponds = refl
numbered WritesKey = refl
numbered OnePairing = refl
numbered OneOwner = refl
numbered ConditionForm = refl
numbered ConditionValue = refl
numbered KeyCondition = refl
numbered LinkPlace = refl
numbered ConstraintMapping = refl
numbered ForeignValue = refl
numbered WrittenOnce = refl
numbered MappedAssociation = refl

-- rules of one number are one
pub rules_apart : (one two : Rule) → rule_number one ≡ rule_number two → one ≡ two
rules_apart one two same = sym (numbered one) ∙ ap rule_of same ∙ numbered two

-- where two orders one after the other give Equal, both do
both_alike : (one other : Ordering) → ordering_then one other ≡ Equal → (one ≡ Equal) × (other ≡ Equal)
both_alike Less other is = absurd cc
both_alike Equal other is = (refl, is)
both_alike Greater other is = absurd cc

-- faults that it doesn't tell apart are one
pub fault_cmp_apart : IsAntisymmetric fault_cmp
fault_cmp_apart one two same =
    let parts = both_alike (nat_cmp (rule_number one.rule) (rule_number two.rule)) (steps_cmp one.place two.place) same in
    let rule : one.rule ≡ two.rule = rules_apart one.rule two.rule (nat_cmp-IsAntisymmetric (rule_number one.rule) (rule_number two.rule) parts.0) in
    let place : one.place ≡ two.place = steps_cmp_apart one.place two.place parts.1 in
    λ i. record { rule = rule i; place = place i }
