use Rattle.std.proofs.Common.{◌≡◌, ◌++◌, map, take}
use Rattle.population.specs.Kept.{key_in}
use Rattle.witness_state.proofs.small_regions.asking.add_keys.Given as goal

-- the keys of the entities so far have come
abbrev pub invariant-loop-placed : goal.invariant-loop-placed
invariant-loop-placed l = l.keys ≡ l.initial.keys ++ map (λ placed. key_in l.model placed.set placed.entity) (take l.placed-index l.given)
