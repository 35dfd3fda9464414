use Rattle.layouts.specs.declared.fault.Fault.{Fault}
use Rattle.layouts.proofs.rule_places.Rules.{least_joined, least_where}
use Rattle.csdl_names.specs.csdl_lists.References.{names_in}
use Rattle.ssdl_model.specs.ssdl_rules.ForeignKeys.{IsItselfFault, IsUnlikeFault}
use Rattle.ssdl_model.proofs.ssdl_rules.foreign.ForeignKeysFinderRawAssociationFault.find.Goals as goal

pub returns : goal.returns
returns c =
    let model = c.args.self.now.sides.now.lookups.now.model.now in
    let Unlike : Fault → Type 0 = IsUnlikeFault (names_in model) model c.args.item.now in
    let Itself : Fault → Type 0 = IsItselfFault (names_in model) model c.args.item.now in
    least_joined Unlike Itself c.in_ok-unlike.unlike c.in_ok-itself.itself c.earlier.result c.earlier.ensures
    (least_where _ c.in_ok-unlike.unlike c.in_ok-is_unlike.ensures c.in_ok-unlike.ensures)
    (least_where _ c.in_ok-itself.itself c.is_itself-is_itself.ensures c.in_ok-itself.ensures)
