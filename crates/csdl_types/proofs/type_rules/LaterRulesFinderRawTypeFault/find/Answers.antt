use Rattle.std.proofs.Common.{ℕ, IfOk, List, Option, subst, subst₂}
use Rattle.groupings.specs.least_fault.Least.{IsLeast}
use Rattle.layouts.specs.Faults.{fault_cmp}
use Rattle.layouts.proofs.rule_places.Rules.{least_searches}
use Rattle.csdl_names.specs.declared.csdl_lists.raw.RawType.{RawType}
use Rattle.csdl_names.specs.csdl_lists.References.{Names}
use Rattle.csdl_types.specs.Inherited.{IsInheritedNameFault}
use Rattle.csdl_types.specs.PropTypes.{IsPropTypeFault}
use Rattle.csdl_types.proofs.type_rules.LaterRulesFinderRawTypeFault.find.Goals as goal

pub returns : goal.returns
returns c =
    let item = c.args.item.now in
    let Inherited : (ℕ → Option ℕ) → List RawType → Type 0 = λ base types. IfOk c.first_inherited_fault-inherited.result (IsLeast fault_cmp (IsInheritedNameFault base types c.args.place item)) in
    let PropType : Names → Type 0 = λ names. IfOk c.first_prop_type_fault-prop_type.result (IsLeast fault_cmp (IsPropTypeFault names.enum_named item)) in
    least_searches _ _ c.first_key_fault-key.result c.earlier_of-2.result c.earlier_of-3.result c.earlier_of-3.ensures c.first_key_fault-key.ensures
    (least_searches _ _ c.first_key_prop_fault-key_prop.result c.earlier_of-of_props.result c.earlier_of-2.result c.earlier_of-2.ensures c.first_key_prop_fault-key_prop.ensures
    (least_searches _ _ c.first_inherited_fault-inherited.result c.earlier_of.result c.earlier_of-of_props.result c.earlier_of-of_props.ensures
    (subst₂ Inherited c.args.self.now.based c.as_slice-types.ensures.items c.first_inherited_fault-inherited.ensures)
    (least_searches _ _ c.first_prop_type_fault-prop_type.result c.first_bound_fault-bound.result c.earlier_of.result c.earlier_of.ensures
    (subst PropType c.args.self.now.known.names c.first_prop_type_fault-prop_type.ensures) c.first_bound_fault-bound.ensures)))
