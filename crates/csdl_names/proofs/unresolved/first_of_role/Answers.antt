use Rattle.std.proofs.Common.{◌∷◌, []}
use Rattle.json_form.specs.declared.pointer.Step.TheVariants.{Member}
use Rattle.layouts.specs.declared.rule.Rule.TheVariants.{Resolves}
use Rattle.layouts.specs.rule_places.Places.{IsAt}
use Rattle.layouts.proofs.rule_places.Rules.{least_where}
use Rattle.csdl_names.proofs.unresolved.first_of_role.Goals as goal

pub returns : goal.returns
returns c =
    let model = c.args.lookups.now.model.now in
    least_where (IsAt Resolves (Member c.args.member.now ∷ [])) c.in_ok-found.found c.lacks_role-is_lacking.ensures c.in_ok-found.ensures
