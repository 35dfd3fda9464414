use Rattle.std.proofs.Common.{◌≡◌, flat_map, take}
use Rattle.population.specs.Principals.{principals}
use Rattle.witness_state.proofs.small_links.supporting.wanted_by.Given as goal

-- the principals of the entities so far have come
abbrev pub invariant-loop-placed : goal.invariant-loop-placed
invariant-loop-placed l = l.wanted ≡ flat_map (λ placed. principals l.model placed.set placed.entity) (take l.placed-index l.given)
