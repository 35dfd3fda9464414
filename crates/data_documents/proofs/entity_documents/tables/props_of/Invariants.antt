use Rattle.std.proofs.Common.{◌≡◌, map, take}
use Rattle.groupings.specs.name_places.GivenNames.{first_place}
use Rattle.groupings.specs.name_places.PlacesIn.{place_in}
use Rattle.data_documents.specs.entity_documents.Tables.{name_or}
use Rattle.data_documents.proofs.entity_documents.tables.props_of.Given as goal

-- the properties of the types that were passed
abbrev pub invariant-loop-ty : goal.invariant-loop-ty
invariant-loop-ty l = map place_in l.props ≡ map (λ type. first_place (name_or l.model l.unnamed) type.props) (take l.ty-index l.ty-items)
