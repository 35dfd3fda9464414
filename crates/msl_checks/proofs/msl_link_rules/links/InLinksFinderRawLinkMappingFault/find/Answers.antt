use Rattle.layouts.specs.declared.fault.Fault.{Fault}
use Rattle.layouts.proofs.rule_places.Rules.{least_joined}
use Rattle.msl_rules.specs.NameRules.{IsOtherAssociation}
use Rattle.msl_checks.specs.msl_written.Within.{schema_in}
use Rattle.msl_checks.specs.msl_link_rules.LinkParts.{BreaksRulesOfSet}
use Rattle.msl_checks.proofs.msl_link_rules.links.InLinksFinderRawLinkMappingFault.find.Goals as goal

pub returns : goal.returns
returns c =
    let schema = schema_in c.args.self.now.between in
    let link = c.args.item.now in
    let Other : Fault → Type 0 = IsOtherAssociation schema.model c.args.arg3 link in
    least_joined (BreaksRulesOfSet schema link) Other c.in_ok-of_set.of_set c.in_ok-other.other c.earlier.result c.earlier.ensures c.in_ok-of_set.ensures
    (c.in_ok-other.ensures c.args.arg3)
