use Rattle.std.proofs.lemmas.Result.{IfOk-weaker}
use Rattle.json_form.specs.declared.pointer.Step.TheVariants.{Member}
use Rattle.layouts.proofs.rule_places.Seen.{least_behind}
use Rattle.csdl_names.specs.csdl_lists.References.{names_in}
use Rattle.csdl_names.specs.Unresolved.{IsUnresolvedInRole}
use Rattle.csdl_names.proofs.unresolved.first_in_role_at.Goals as goal

pub returns : goal.returns
returns c =
    let model = c.args.lookups.now.model.now in
    IfOk-weaker c.behind_member.result _ _
    (λ seen is. least_behind (Member c.args.member.now) (IsUnresolvedInRole (names_in model) model c.args.association.now c.args.role.now) c.in_ok-found.found seen is c.in_ok-found.ensures)
    c.behind_member.ensures
