use Rattle.std.proofs.Common.{codes}
use Rattle.json_form.specs.declared.pointer.Step.TheVariants.{Member}
use Rattle.layouts.specs.declared.fault.Fault.{Fault}
use Rattle.layouts.specs.rule_places.Places.{InList}
use Rattle.layouts.proofs.rule_places.Seen.{least_behind}
use Rattle.msl_rules.specs.NameRules.{IsTypeNameFault}
use Rattle.msl_meaning.proofs.msl_picks.type_names.first_type_name_fault.Goals as goal

pub returns : goal.returns
returns c =
    let Sets : Fault → Type 0 = InList (codes "EntitySetMapping") (IsTypeNameFault c.args.names.now.model.now) c.args.raw.now.sets in
    least_behind (Member (codes "EntityContainerMapping")) Sets c.in_ok-sets.sets c.in_ok-found.found c.in_ok-found.ensures c.in_ok-sets.ensures
