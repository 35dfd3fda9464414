use Rattle.std.proofs.Common.{codes}
use Rattle.json_form.specs.declared.pointer.Step.TheVariants.{Member}
use Rattle.layouts.specs.declared.fault.Fault.{Fault}
use Rattle.layouts.specs.rule_places.Places.{InList}
use Rattle.layouts.proofs.rule_places.Seen.{least_behind}
use Rattle.msl_rules.specs.LinkRules.{IsLinkFault}
use Rattle.msl_checks.specs.msl_written.Within.{schema_in}
use Rattle.msl_checks.proofs.msl_link_rules.links.first_link_fault.Goals as goal

pub returns : goal.returns
returns c =
    let Links : Fault → Type 0 = InList (codes "AssociationSetMapping") (IsLinkFault (schema_in c.args.between.now)) c.args.raw.now.links in
    least_behind (Member (codes "EntityContainerMapping")) Links c.in_ok-links.links c.in_ok-found.found c.in_ok-found.ensures c.in_ok-links.ensures
