use Rattle.groupings.specs.name_places.PlacesIn.{place_in}
use Rattle.csdl_types.proofs.Inheriting.{first_sighted}
use Rattle.csdl_types.proofs.inherited.first_inherited.Goals as goal

pub returns : goal.returns
returns g c =
    first_sighted g.T.Named.name_in c.args.items.now (place_in c.in_ok-own.own) c.in_ok-own.ensures c.args.types.now c.args.above.now c.in_ok-found.found c.in_ok-found.ensures
