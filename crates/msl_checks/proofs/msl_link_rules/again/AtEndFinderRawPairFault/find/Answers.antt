use Rattle.std.proofs.Common.{[]}
use Rattle.layouts.specs.declared.rule.Rule.TheVariants.{WrittenOnce}
use Rattle.layouts.specs.rule_places.Places.{IsAt}
use Rattle.layouts.proofs.rule_places.Rules.{least_where}
use Rattle.msl_checks.proofs.msl_link_rules.again.AtEndFinderRawPairFault.find.Goals as goal

pub returns : goal.returns
returns c =
    let self = c.args.self.now in
    least_where (IsAt WrittenOnce []) c.in_ok-found.found (c.is_written_before-is_again.ensures self.ends.now self.of) c.in_ok-found.ensures
