use Rattle.std.proofs.Common.{sym, ap, ◌∙◌, Some}
use Rattle.std.proofs.lemmas.Result.{IfOk-weaker}
use Rattle.member_groups.specs.group_constants.Constants.{IsComparison, IsEntry}
use Rattle.member_groups.proofs.group_constants.Entries.{one_compared}
use Rattle.member_groups.proofs.group_constants.Sets.{adds_in_as}
use Rattle.member_groups.proofs.group_constants.constants.add_constant.Goals as goal

pub returns-in_ok-copy-in-Some : goal.returns-in_ok-copy-in-Some
returns-in_ok-copy-in-Some c =
    let group = c.args.group in
    let value = c.in_ok-copy-in-Some.field-0 in
    IfOk-weaker c.add_value.result _ _
    (λ _ added.
    adds_in_as (IsEntry group value) (IsComparison group c.args.constant.now) c.args.sets.now.items c.add_value.new.sets.items
    (one_compared group c.args.constant.now value (c.in-Some.is ∙ ap Some (sym c.in_ok-copy-in-Some.ensures))) added)
    c.add_value.ensures
