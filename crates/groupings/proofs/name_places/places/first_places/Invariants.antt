use Rattle.std.proofs.Common.{◌≡◌, List, ℕ, take}
use Rattle.indexmap.specs.IndexMap.{get_by_text}
use Rattle.groupings.specs.name_places.GivenNames.{first_place}
use Rattle.groupings.proofs.name_places.places.first_places.Given as goal

-- the names of the items that were passed have their places
abbrev pub invariant-loop-place : goal.invariant-loop-place
invariant-loop-place g l = (name : List ℕ) → get_by_text l.by_name name ≡ first_place g.T.Named.name_in (take l.place l.items) name
