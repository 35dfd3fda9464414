use Rattle.std.proofs.Common.{ℕ, List}
use Rattle.layouts.specs.declared.fault.Fault.{Fault}
use Rattle.layouts.proofs.rule_places.Rules.{least_where_some}
use Rattle.msl_rules.specs.NameRules.{IsUnsharedName}
use Rattle.msl_meaning.proofs.msl_picks.shared.OfPicksFinderRawCondFault.find.Goals as goal

pub returns : goal.returns
returns c =
    let self = c.args.self.now in
    let Unshared : List ℕ → Fault → Type 0 = IsUnsharedName self.names.now.model.now self.picks.now in
    least_where_some Unshared c.args.item.now.prop c.in-Some.name c.in_ok-found.found c.in-Some.is c.in_ok-found.ensures
