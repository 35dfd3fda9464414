use Rattle.std.proofs.Common.{Option, Result, codes, subst}
use Rattle.std.specs.Result.{IfOk}
use Rattle.std.proofs.lemmas.Result.{IfOk-weaker}
use Rattle.json_form.specs.declared.pointer.Step.TheVariants.{Member}
use Rattle.emc_base.specs.declared.memory.Memory.{Memory}
use Rattle.groupings.specs.least_fault.Least.{IsLeast}
use Rattle.layouts.specs.declared.fault.Fault.{Fault}
use Rattle.layouts.specs.Faults.{fault_cmp}
use Rattle.layouts.specs.Inside.{Under}
use Rattle.layouts.proofs.rule_places.Seen.{least_behind}
use Rattle.layouts.proofs.rule_places.Rules.{least_searches}
use Rattle.csdl_names.specs.csdl_lists.References.{names_in}
use Rattle.csdl_names.specs.Unresolved.{IsUnresolvedInConstraint, IsUnresolvedInRole}
use Rattle.csdl_names.proofs.unresolved.first_in_constraint.Goals as goal

pub returns : goal.returns
returns c =
    let model = c.args.lookups.now.model.now in
    let constraint = c.args.constraint.now in
    let Principal : Fault → Type 0 = Under (Member (codes "Principal")) (IsUnresolvedInRole (names_in model) model c.args.association.now constraint.principal) in
    let Dependent : Fault → Type 0 = Under (Member (codes "Dependent")) (IsUnresolvedInRole (names_in model) model c.args.association.now constraint.dependent) in
    let Both : Fault → Type 0 = IsUnresolvedInConstraint (names_in model) model c.args.association.now constraint in
    let P : Result (Option Fault) Memory → Type 0 = λ found. IfOk found (IsLeast fault_cmp Both) in
    let both : IsLeast fault_cmp Both c.in_ok-found.found =
    subst P c.in_ok-found.was
    (least_searches Principal Dependent c.first_in_role_at-principal.result c.first_in_role_at-dependent.result c.earlier_of.result c.earlier_of.ensures
    c.first_in_role_at-principal.ensures c.first_in_role_at-dependent.ensures) in
    IfOk-weaker c.behind_member.result _ _ (λ seen is. least_behind (Member (codes "ReferentialConstraint")) Both c.in_ok-found.found seen is both) c.behind_member.ensures
