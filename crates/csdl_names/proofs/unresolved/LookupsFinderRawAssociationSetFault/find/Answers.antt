use Rattle.std.proofs.Common.{codes}
use Rattle.std.proofs.lemmas.Result.{IfOk-weaker}
use Rattle.layouts.specs.declared.fault.Fault.{Fault}
use Rattle.layouts.specs.rule_places.Places.{InList}
use Rattle.csdl_names.specs.csdl_lists.References.{names_in}
use Rattle.csdl_names.specs.Unresolved.{IsUnresolvedInSetEnd}
use Rattle.layouts.specs.rule_places.Names.{NamesNothing}
use Rattle.layouts.proofs.rule_places.Rules.{least_searches}
use Rattle.csdl_names.proofs.LeastFound.{names_nothing}
use Rattle.csdl_names.proofs.unresolved.LookupsFinderRawAssociationSetFault.find.Goals as goal

pub returns : goal.returns
returns c =
    let model = c.args.self.now.model.now in
    let set = c.args.item.now in
    let Association : Fault → Type 0 = NamesNothing ((names_in model).association_named set.association) (codes "Association") in
    let Ends : Fault → Type 0 = InList (codes "End") (IsUnresolvedInSetEnd (names_in model) model set) set.ends in
    least_searches Association Ends c.first_of_none-association.result c.first_at-ends.result c.earlier_of.result c.earlier_of.ensures
    (IfOk-weaker c.first_of_none-association.result _ _
    (λ found. names_nothing c.association_named-named.result ((names_in model).association_named set.association) (codes "Association") found c.association_named-named.ensures)
    c.first_of_none-association.ensures)
    c.first_at-ends.ensures
