use Rattle.std.proofs.Common.{◌≡◌, ◌++◌, List, ap, map, subst, ◌∙◌}
use Rattle.std.proofs.lemmas.Result.{IfOk-weaker}
use Rattle.keyed_rows.specs.row_groups.KeyGroups.{AreKeyGroups}
use Rattle.keyed_rows.specs.row_groups.Shown.{shown_group}
use Rattle.round_trip.specs.Words.{Value}
use Rattle.row_plans.specs.Roles.{all_parts}
use Rattle.row_plans.specs.Waits.{AddsArrows, arrows_in_groups}
use Rattle.row_plans.specs.declared.waiting.parts.Part.{Part}
use Rattle.row_plans.proofs.waiting.Collected.{adds_arrows}
use Rattle.row_plans.proofs.waiting.Paired.{arrows_are_waits}
use Rattle.row_plans.proofs.waiting.arrows.add_key.Goals as goal

pub returns : goal.returns
returns c =
    let key = c.args.key.now in
    let alterations = c.args.alterations.now in
    let groups = c.in_ok-groups.groups.items in
    let before = c.args.arrows.now.items in
    let after = c.add_groups.new.arrows.items in
    let P : List (List Value × Part) → Type 0 = λ keyed. AreKeyGroups keyed (map shown_group groups) in
    let are : AreKeyGroups (all_parts key alterations) (map shown_group groups) = subst P c.in_ok-parts.ensures c.in_ok-groups.ensures in
    IfOk-weaker c.add_groups.result (λ _. after ≡ before ++ arrows_in_groups c.deref.result.now) (λ _. AddsArrows key alterations before after)
    (λ _ is. adds_arrows alterations key before (arrows_in_groups groups) after (arrows_are_waits key alterations groups are)
    (is ∙ ap (λ list. before ++ arrows_in_groups list) c.deref.ensures.value))
    c.add_groups.ensures
