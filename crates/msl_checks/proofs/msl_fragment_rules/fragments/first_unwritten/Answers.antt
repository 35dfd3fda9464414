use Rattle.std.proofs.Common.{[]}
use Rattle.layouts.specs.declared.rule.Rule.TheVariants.{WritesKey}
use Rattle.layouts.specs.rule_places.Places.{IsAt}
use Rattle.layouts.proofs.rule_places.Rules.{least_searched}
use Rattle.msl_checks.proofs.msl_fragment_rules.fragments.first_unwritten.Goals as goal

pub returns : goal.returns
returns c = least_searched (IsAt WritesKey []) c.fault_here_if.result c.in_ok-leaves_key.ensures c.fault_here_if.ensures
