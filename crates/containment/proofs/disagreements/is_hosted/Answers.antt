use Rattle.std.proofs.Common.{sym, ◌∙◌}
use Rattle.containment.proofs.Hosting.{hosted_told, none_there}
use Rattle.containment.proofs.disagreements.is_hosted.Goals as goal

pub returns-in-Some : goal.returns-in-Some
returns-in-Some c =
    let parts = c.args.parts.now in
    c.is_some.ensures
    ∙ sym (hosted_told parts.model.now parts.cells.now.places c.args.region.now.set c.args.id c.in-Some.assoc.now (sym c.in-Some.ensures.item) c.link_place.result
    c.link_place.ensures c.hosting_end.result (c.hosting_end.ensures c.args.id))

pub returns-in-None : goal.returns-in-None
returns-in-None c =
    let parts = c.args.parts.now in
    sym (none_there parts.model.now parts.cells.now.places c.args.region.now.set c.args.id (sym c.in-None.ensures.item))
