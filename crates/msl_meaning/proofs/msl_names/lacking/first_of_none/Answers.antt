use Rattle.std.proofs.Common.{◌∷◌, []}
use Rattle.json_form.specs.declared.pointer.Step.TheVariants.{Member}
use Rattle.layouts.specs.declared.rule.Rule.TheVariants.{Resolves}
use Rattle.layouts.specs.rule_places.Places.{IsAt}
use Rattle.layouts.proofs.rule_places.LeastFound.{none_tells}
use Rattle.layouts.proofs.rule_places.Rules.{least_where}
use Rattle.msl_meaning.proofs.msl_names.lacking.first_of_none.Goals as goal

pub returns : goal.returns
returns g c = least_where (IsAt Resolves (Member c.args.member.now ∷ [])) c.in_ok-found.found (none_tells c.is_none.result c.args.named c.is_none.ensures) c.in_ok-found.ensures
