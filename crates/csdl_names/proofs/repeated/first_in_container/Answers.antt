use Rattle.std.proofs.Common.{codes}
use Rattle.std.proofs.lemmas.Result.{IfOk-weaker}
use Rattle.json_form.specs.declared.pointer.Step.TheVariants.{Member}
use Rattle.layouts.proofs.rule_places.Seen.{least_behind}
use Rattle.csdl_names.specs.Repeated.{IsRepeatedInContainer}
use Rattle.csdl_names.proofs.repeated.first_in_container.Goals as goal

pub returns : goal.returns
returns c =
    IfOk-weaker c.behind_member.result _ _
    (λ seen is. least_behind (Member (codes "EntityContainer")) (IsRepeatedInContainer c.args.container.now) c.in_ok-found.found seen is c.in_ok-found.ensures)
    c.behind_member.ensures
