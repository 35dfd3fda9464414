-- The numbers of the rules.
use Rattle.std.specs.Prelude.{ℕ}
use Rattle.layouts.specs.declared.rule.Rule.{Rule}
use Rattle.layouts.specs.declared.rule.Rule.TheVariants.{IsJson, HasForm, HasMembers, IsKnown, IsSupported, NamedOnce, Resolves, Ancestors, TypeKey, KeyProperty, InheritedName, PropertyType, Bound, ConcreteType, EndRoles, Multiplicities, Constraint, DependentKey, Arrows, EndType, ColumnType, TableKey, KeyColumn, ForeignKey, PointsElsewhere, ContainerName, PickedType, SharedProperty, Corresponds, WritesKey, OnePairing, OneOwner, ConditionForm, ConditionValue, KeyCondition, LinkPlace, ConstraintMapping, ForeignValue, WrittenOnce, MappedAssociation}

-- the number that is printed, and by which rules are ordered
abbrev pub rule_number : Rule → ℕ
rule_number IsJson = 1
rule_number HasForm = 2
rule_number HasMembers = 3
rule_number IsKnown = 4
rule_number IsSupported = 5
rule_number NamedOnce = 6
rule_number Resolves = 7
rule_number Ancestors = 8
rule_number TypeKey = 9
rule_number KeyProperty = 10
rule_number InheritedName = 11
rule_number PropertyType = 12
rule_number Bound = 13
rule_number ConcreteType = 14
rule_number EndRoles = 15
rule_number Multiplicities = 16
rule_number Constraint = 17
rule_number DependentKey = 18
rule_number Arrows = 19
rule_number EndType = 20
rule_number ColumnType = 21
rule_number TableKey = 22
rule_number KeyColumn = 23
rule_number ForeignKey = 24
rule_number PointsElsewhere = 25
rule_number ContainerName = 26
rule_number PickedType = 27
rule_number SharedProperty = 28
rule_number Corresponds = 29
rule_number WritesKey = 30
rule_number OnePairing = 31
rule_number OneOwner = 32
rule_number ConditionForm = 33
rule_number ConditionValue = 34
rule_number KeyCondition = 35
rule_number LinkPlace = 36
rule_number ConstraintMapping = 37
rule_number ForeignValue = 38
rule_number WrittenOnce = 39
rule_number MappedAssociation = 40
