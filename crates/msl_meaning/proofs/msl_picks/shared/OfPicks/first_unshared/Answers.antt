use Rattle.std.proofs.Common.{◌∷◌, [], codes}
use Rattle.json_form.specs.declared.pointer.Step.TheVariants.{Member}
use Rattle.layouts.specs.declared.rule.Rule.TheVariants.{SharedProperty}
use Rattle.layouts.specs.rule_places.Places.{IsAt}
use Rattle.layouts.proofs.rule_places.Rules.{least_where}
use Rattle.msl_meaning.proofs.msl_picks.shared.OfPicks.first_unshared.Goals as goal

pub returns : goal.returns
returns c = least_where (IsAt SharedProperty (Member (codes "Name") ∷ [])) c.in_ok-found.found c.names_no_shared-is_unshared.ensures c.in_ok-found.ensures
