use Rattle.std.proofs.Common.{Option, Result, codes, subst}
use Rattle.std.specs.Result.{IfOk}
use Rattle.std.proofs.lemmas.Result.{IfOk-weaker}
use Rattle.json_form.specs.declared.pointer.Step.TheVariants.{Member}
use Rattle.emc_base.specs.declared.memory.Memory.{Memory}
use Rattle.groupings.specs.least_fault.Least.{IsLeast}
use Rattle.layouts.specs.declared.fault.Fault.{Fault}
use Rattle.layouts.specs.Faults.{fault_cmp}
use Rattle.layouts.specs.rule_places.Places.{InList}
use Rattle.layouts.proofs.rule_places.Seen.{least_behind}
use Rattle.layouts.proofs.rule_places.Rules.{least_searches}
use Rattle.csdl_names.specs.csdl_lists.References.{names_in}
use Rattle.csdl_names.specs.Unresolved.{IsUnresolvedInAssociationSet, IsUnresolvedInContainer, IsUnresolvedInSet}
use Rattle.csdl_names.proofs.unresolved.first_in_container.Goals as goal

pub returns : goal.returns
returns c =
    let model = c.args.lookups.now.model.now in
    let container = c.args.container.now in
    let Sets : Fault → Type 0 = InList (codes "EntitySet") (IsUnresolvedInSet (names_in model) model) container.sets in
    let Associations : Fault → Type 0 = InList (codes "AssociationSet") (IsUnresolvedInAssociationSet (names_in model) model) container.association_sets in
    let Both : Fault → Type 0 = IsUnresolvedInContainer (names_in model) model container in
    let P : Result (Option Fault) Memory → Type 0 = λ found. IfOk found (IsLeast fault_cmp Both) in
    let both : IsLeast fault_cmp Both c.in_ok-found.found =
    subst P c.in_ok-found.was
    (least_searches Sets Associations c.first_at-sets.result c.first_at-associations.result c.earlier_of.result c.earlier_of.ensures c.first_at-sets.ensures c.first_at-associations.ensures) in
    IfOk-weaker c.behind_member.result _ _ (λ seen is. least_behind (Member (codes "EntityContainer")) Both c.in_ok-found.found seen is both) c.behind_member.ensures
