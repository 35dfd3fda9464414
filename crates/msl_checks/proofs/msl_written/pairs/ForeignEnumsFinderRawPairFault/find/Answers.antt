use Rattle.std.proofs.Common.{[]}
use Rattle.layouts.specs.declared.rule.Rule.TheVariants.{ForeignValue}
use Rattle.layouts.specs.rule_places.Places.{IsAt}
use Rattle.layouts.proofs.rule_places.Rules.{least_where}
use Rattle.msl_checks.proofs.msl_written.pairs.ForeignEnumsFinderRawPairFault.find.Goals as goal

pub returns : goal.returns
returns c = least_where (IsAt ForeignValue []) c.in_ok-found.found c.is_foreign_enum-is_foreign.ensures c.in_ok-found.ensures
