use Rattle.std.proofs.Common.{◌∷◌, [], codes, IsTrue}
use Rattle.json_form.specs.declared.pointer.Step.TheVariants.{Member}
use Rattle.groupings.specs.least_fault.Least.{IsLeast}
use Rattle.layouts.specs.Faults.{fault_cmp}
use Rattle.layouts.specs.declared.fault.Fault.{Fault}
use Rattle.layouts.specs.declared.rule.Rule.TheVariants.{Constraint, Multiplicities}
use Rattle.layouts.specs.rule_places.Places.{IsAt}
use Rattle.layouts.proofs.rule_places.Rules.{least_searches, least_where, searched}
use Rattle.csdl_names.specs.csdl_lists.References.{names_in}
use Rattle.csdl_associations.specs.csdl_constraints.Answered.{IsUnlike}
use Rattle.csdl_associations.specs.csdl_constraints.Multiplicities.{BreaksMults}
use Rattle.csdl_associations.proofs.csdl_constraints.rules.first_in.Goals as goal

pub returns : goal.returns
returns c =
    let model = c.args.sides.now.lookups.now.model.now in
    let association = c.args.association.now in
    let AtMults : Fault → Type 0 = IsAt Multiplicities (Member (codes "End") ∷ []) in
    let AtLists : Fault → Type 0 = IsAt Constraint (Member (codes "ReferentialConstraint") ∷ []) in
    let Mults : Fault → Type 0 = λ fault. BreaksMults (names_in model) model association × AtMults fault in
    let Lists : Fault → Type 0 = λ fault. IsUnlike model association (IsTrue c.args.has_other) × AtLists fault in
    least_searches Mults Lists c.fault_if-mults.result c.fault_if-lists.result c.earlier_of.result c.earlier_of.ensures
    (searched (IsLeast fault_cmp Mults) c.fault_if-mults.result c.fault_if-mults.ensures (λ found. least_where AtMults found c.in_ok-is_broken.ensures))
    (searched (IsLeast fault_cmp Lists) c.fault_if-lists.result c.fault_if-lists.ensures (λ found. least_where AtLists found c.in_ok-is_unlike.ensures))
