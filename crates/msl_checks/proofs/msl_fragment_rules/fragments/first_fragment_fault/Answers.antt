use Rattle.std.proofs.Common.{codes}
use Rattle.json_form.specs.declared.pointer.Step.TheVariants.{Member}
use Rattle.layouts.specs.rule_places.Places.{InList}
use Rattle.layouts.proofs.rule_places.Seen.{least_behind}
use Rattle.msl_rules.specs.FragmentRules.{IsSetFault}
use Rattle.msl_checks.specs.msl_written.Within.{schema_in}
use Rattle.msl_checks.proofs.msl_fragment_rules.fragments.first_fragment_fault.Goals as goal

pub returns : goal.returns
returns c =
    let schema = schema_in c.args.between.now in
    least_behind (Member (codes "EntityContainerMapping")) (InList (codes "EntitySetMapping") (IsSetFault schema) c.args.raw.now.sets) c.in_ok-sets.sets c.in_ok-found.found
    c.in_ok-found.ensures c.in_ok-sets.ensures
