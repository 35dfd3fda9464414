use Rattle.std.proofs.Common.{ap, ◌∙◌}
use Rattle.groupings.specs.name_places.GivenNames.{first_place}
use Rattle.groupings.proofs.name_places.places.places_of.Goals as goal

pub returns : goal.returns
returns g c = c.in_ok-places.ensures ∙ ap (first_place g.T.Named.name_in) c.as_slice.ensures.items
