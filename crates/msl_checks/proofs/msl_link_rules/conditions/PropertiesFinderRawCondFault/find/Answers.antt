use Rattle.std.proofs.Common.{[], sym, ◌∙◌}
use Rattle.layouts.specs.declared.rule.Rule.TheVariants.{ConditionForm}
use Rattle.layouts.specs.rule_places.Places.{IsAt}
use Rattle.layouts.proofs.rule_places.Rules.{least_where}
use Rattle.msl_checks.proofs.msl_link_rules.conditions.PropertiesFinderRawCondFault.find.Goals as goal

pub returns : goal.returns
returns c = least_where (IsAt ConditionForm []) c.in_ok-found.found (λ yes. sym c.is_some.ensures ∙ yes, λ some. c.is_some.ensures ∙ some) c.in_ok-found.ensures
