use Rattle.std.proofs.Common.{ap, sym, ◌∙◌}
use Rattle.layouts.specs.declared.fault.Fault.{Fault}
use Rattle.layouts.proofs.rule_places.Rules.{least_where_some}
use Rattle.round_trip.specs.Words.{End}
use Rattle.msl_rules.specs.Found.{role_end}
use Rattle.msl_rules.specs.LinkRules.{BreaksEndRules}
use Rattle.msl_checks.specs.msl_written.Within.{schema_in}
use Rattle.msl_checks.proofs.msl_link_rules.ends.InEndsFinderRawEndMappingFault.find.Goals as goal

pub returns : goal.returns
returns c =
    let self = c.args.self.now in
    let mapping = c.args.item.now in
    let assoc = self.of.assoc.now in
    let Wrong : End → Fault → Type 0 = BreaksEndRules (schema_in self.of.between) self.of.link.now.ends self.table c.args.place mapping in
    least_where_some Wrong (role_end assoc mapping.role) c.in-Some.known.now c.in_ok-found.found (ap (role_end assoc) (sym c.as_str.ensures.text) ∙ sym c.in-Some.ensures) c.in_ok-found.ensures
