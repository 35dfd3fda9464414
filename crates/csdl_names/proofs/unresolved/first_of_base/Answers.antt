use Rattle.std.proofs.Common.{ℕ, List, codes}
use Rattle.layouts.specs.declared.fault.Fault.{Fault}
use Rattle.csdl_names.specs.csdl_lists.References.{names_in}
use Rattle.layouts.specs.rule_places.Names.{NamesNothing}
use Rattle.layouts.proofs.rule_places.Rules.{least_where_some}
use Rattle.csdl_names.proofs.LeastFound.{names_nothing}
use Rattle.csdl_names.proofs.unresolved.first_of_base.Goals as goal

pub returns : goal.returns
returns c =
    let names = names_in c.args.lookups.now.model.now in
    let Q : List ℕ → Fault → Type 0 = λ reference. NamesNothing (names.type_named reference) (codes "BaseType") in
    least_where_some Q c.args.base.now c.in-Some.base c.in_ok-found.found c.in-Some.is
    (names_nothing c.type_named-named.result (names.type_named c.in-Some.base) (codes "BaseType") c.in_ok-found.found c.type_named-named.ensures c.in_ok-found.ensures)
