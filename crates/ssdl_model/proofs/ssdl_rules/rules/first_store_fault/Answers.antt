use Rattle.std.proofs.Common.{codes, None, Some, arith, subst}
use Rattle.groupings.specs.least_fault.Least.{IsLeast}
use Rattle.layouts.specs.declared.fault.Fault.{Fault}
use Rattle.layouts.specs.Faults.{fault_cmp}
use Rattle.layouts.specs.rule_places.Places.{InList}
use Rattle.layouts.proofs.rule_places.Rules.{least_of_lower, least_of_other}
use Rattle.csdl_names.specs.csdl_lists.References.{names_in}
use Rattle.ssdl_model.specs.ssdl_rules.ForeignKeys.{IsForeignKeyFault}
use Rattle.ssdl_model.specs.ssdl_rules.TableRules.{IsTableFault}
use Rattle.ssdl_model.proofs.ssdl_rules.RuleNumbers.{key_rule, table_rule}
use Rattle.ssdl_model.proofs.ssdl_rules.rules.first_store_fault.Goals as goal

pub returns-in-Some : goal.returns-in-Some
returns-in-Some c =
    let model = c.args.sides.now.lookups.now.model.now in
    let Types : Fault → Type 0 = InList (codes "EntityType") IsTableFault model.types in
    let Keys : Fault → Type 0 = InList (codes "Association") (IsForeignKeyFault (names_in model) model) model.associations in
    let found : IsLeast fault_cmp Types (Some c.in-Some.fault) = subst (IsLeast fault_cmp Types) c.in-Some.is c.in_ok-fault.ensures in
    least_of_lower Types Keys c.in-Some.fault found
    (λ other holds.
    let few = (table_rule model c.in-Some.fault found.0).1 in
    let late = key_rule model other holds in
    omega (arith, few, late))

pub returns-in_ok-found-in-None : goal.returns-in_ok-found-in-None
returns-in_ok-found-in-None c =
    let model = c.args.sides.now.lookups.now.model.now in
    let Types : Fault → Type 0 = InList (codes "EntityType") IsTableFault model.types in
    let Keys : Fault → Type 0 = InList (codes "Association") (IsForeignKeyFault (names_in model) model) model.associations in
    let none : IsLeast fault_cmp Types None = subst (IsLeast fault_cmp Types) c.in-None.is c.in_ok-fault.ensures in
    least_of_other Types Keys c.in_ok-found-in-None.found none c.in_ok-found-in-None.ensures
