use Rattle.std.proofs.Common.{List, ℕ, ap, ◌++◌, ◌∙◌}
use Rattle.round_trip.specs.Words.{place_at}
use Rattle.state_legality.proofs.link_legality.Doubles.{told_double}
use Rattle.state_legality.proofs.link_legality.once.first_double_link.Goals as goal

pub returns : goal.returns
returns c =
    let link = c.index-links-i.result in
    let place = c.in_ok-place.ensures ∙ ap (λ (part : List ℕ). place_at c.args.assoc.now.set_name (link.first ++ link.second) part) c.in_ok-of.ensures in
    told_double c.args.a c.args.assoc.now c.args.links.now c.in_ok-i.field-0 c.in-Some.i link c.in_ok-found.found _ _
    c.in_ok-i.ensures c.in-Some.is c.index-links-i.is c.in_ok-found.ensures c.number.ensures place
