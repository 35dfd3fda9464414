use Rattle.std.proofs.Common.{All, IsSome, take}
use Rattle.groupings.specs.name_places.PlacesIn.{place_in}
use Rattle.groupings.proofs.name_places.once.are_known.Given as goal

-- the names of the items that were passed have places
abbrev pub invariant-loop-item : goal.invariant-loop-item
invariant-loop-item g l = All (λ item. IsSome (place_in l.places (g.T.Named.name_in item))) (take l.item-index l.items)
