use Rattle.std.proofs.Common.{codes}
use Rattle.csdl_names.specs.csdl_lists.References.{names_in}
use Rattle.csdl_names.proofs.LeastFound.{names_nothing}
use Rattle.csdl_names.proofs.unresolved.LookupsFinderRawEndFault.find.Goals as goal

pub returns : goal.returns
returns c = names_nothing c.type_named-ty.result ((names_in c.args.self.now.model.now).type_named c.args.item.now.ty) (codes "Type") c.in_ok-found.found c.type_named-ty.ensures c.in_ok-found.ensures
