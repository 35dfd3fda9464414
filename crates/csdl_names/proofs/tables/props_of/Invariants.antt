use Rattle.std.proofs.Common.{◌≡◌, map, take}
use Rattle.groupings.specs.name_places.PlacesIn.{place_in}
use Rattle.csdl_names.specs.PropPlaces.{place_of_prop}
use Rattle.csdl_names.proofs.tables.props_of.Given as goal

-- the places of the types that were passed
abbrev pub invariant-loop-ty : goal.invariant-loop-ty
invariant-loop-ty l = map place_in l.props ≡ map place_of_prop (take l.ty-index l.ty-items)
