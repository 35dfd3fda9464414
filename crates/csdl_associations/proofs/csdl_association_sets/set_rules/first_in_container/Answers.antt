use Rattle.std.proofs.Common.{IfOk, Option, Result, codes, subst}
use Rattle.std.proofs.lemmas.Result.{IfOk-weaker}
use Rattle.json_form.specs.declared.pointer.Step.TheVariants.{Member}
use Rattle.emc_base.specs.declared.memory.Memory.{Memory}
use Rattle.layouts.proofs.rule_places.Seen.{least_behind}
use Rattle.groupings.specs.least_fault.Least.{IsLeast}
use Rattle.layouts.specs.declared.fault.Fault.{Fault}
use Rattle.layouts.specs.Faults.{fault_cmp}
use Rattle.layouts.specs.rule_places.Places.{InList}
use Rattle.layouts.proofs.rule_places.Rules.{least_searches}
use Rattle.csdl_names.specs.declared.csdl_lists.raw.RawModel.{RawModel}
use Rattle.csdl_names.specs.csdl_lists.References.{names_in}
use Rattle.csdl_associations.specs.csdl_association_sets.Concrete.{IsElementFault}
use Rattle.csdl_associations.specs.csdl_association_sets.Told.{BreaksContainer, BreaksSets}
use Rattle.csdl_associations.proofs.csdl_association_sets.set_rules.first_in_container.Goals as goal

pub returns : goal.returns
returns c =
    let model = c.args.sides.now.lookups.now.model.now in
    let Elements : RawModel → Fault → Type 0 = λ one. InList (codes "EntitySet") (IsElementFault (names_in one) one) model.container.sets in
    let Told : RawModel → Type 0 = λ one. IfOk c.first_at-elements.result (IsLeast fault_cmp (Elements one)) in
    let Both : Fault → Type 0 = BreaksContainer model in
    let P : Result (Option Fault) Memory → Type 0 = λ found. IfOk found (IsLeast fault_cmp Both) in
    let both : IsLeast fault_cmp Both c.in_ok-found.found =
    subst P c.in_ok-found.was
    (least_searches (Elements model) (BreaksSets model) c.first_at-elements.result c.first_in_association_sets-association_sets.result c.earlier_of.result c.earlier_of.ensures
    (subst Told c.requires.same c.first_at-elements.ensures) c.first_in_association_sets-association_sets.ensures) in
    IfOk-weaker c.behind_member.result _ _ (λ seen is. least_behind (Member (codes "EntityContainer")) Both c.in_ok-found.found seen is both) c.behind_member.ensures
