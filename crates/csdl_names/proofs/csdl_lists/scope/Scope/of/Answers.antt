use Rattle.std.proofs.lemmas.Result.{IfOk-at_ok}
use Rattle.csdl_names.proofs.csdl_lists.ScopeFacts.{scope_is}
use Rattle.csdl_names.proofs.csdl_lists.scope.Scope.of.Goals as goal

pub returns : goal.returns
returns c =
    let dotted = c.in_ok-namespace.ensures.0 in
    let places = IfOk-at_ok _ c.in_ok-namespace.ensures.1 c.both.ensures in
    scope_is c.args.model.now _
    (IfOk-at_ok _ dotted c.dotted_names-dotted.ensures.namespace) (IfOk-at_ok _ dotted c.dotted_names-dotted.ensures.alias)
    (IfOk-at_ok _ places.0 c.two_places_of-types.ensures.ones) (IfOk-at_ok _ places.0 c.two_places_of-types.ensures.others)
    (IfOk-at_ok _ places.1 c.two_places_of-sets.ensures.ones) (IfOk-at_ok _ places.1 c.two_places_of-sets.ensures.others)
