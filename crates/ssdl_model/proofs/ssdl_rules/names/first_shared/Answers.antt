use Rattle.std.proofs.Common.{codes}
use Rattle.json_form.specs.declared.pointer.Step.TheVariants.{Member}
use Rattle.layouts.specs.declared.fault.Fault.{Fault}
use Rattle.layouts.specs.rule_places.Places.{InList}
use Rattle.layouts.proofs.rule_places.Seen.{least_behind}
use Rattle.csdl_names.specs.csdl_lists.References.{names_in}
use Rattle.ssdl_model.specs.ssdl_rules.Owned.{IsSharedFault}
use Rattle.ssdl_model.proofs.ssdl_rules.names.first_shared.Goals as goal

pub returns : goal.returns
returns c =
    let model = c.args.owners.now.lookups.now.model.now in
    let Sets : Fault → Type 0 = InList (codes "EntitySet") (IsSharedFault (names_in model) model) model.container.sets in
    least_behind (Member (codes "EntityContainer")) Sets c.in_ok-inside.inside c.in_ok-found.found c.in_ok-found.ensures c.in_ok-inside.ensures
