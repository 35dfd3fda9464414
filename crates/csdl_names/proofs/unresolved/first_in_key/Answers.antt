use Rattle.std.proofs.Common.{ℕ, List, codes}
use Rattle.layouts.specs.declared.fault.Fault.{Fault}
use Rattle.layouts.specs.rule_places.Places.{InList}
use Rattle.csdl_names.specs.csdl_lists.References.{names_in}
use Rattle.csdl_names.specs.Unresolved.{IsUnresolvedProp}
use Rattle.layouts.proofs.rule_places.Rules.{least_where_some}
use Rattle.csdl_names.proofs.unresolved.first_in_key.Goals as goal

pub returns : goal.returns
returns c =
    let model = c.args.lookups.now.model.now in
    let Q : List (List ℕ) → Fault → Type 0 = λ names. InList (codes "Key") (IsUnresolvedProp (names_in model) model c.args.ty) names in
    least_where_some Q c.args.key.now c.in-Some.names c.in_ok-found.found c.in-Some.is c.in_ok-found.ensures
