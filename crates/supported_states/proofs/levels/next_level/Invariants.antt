use Rattle.std.proofs.Common.{◌≡◌, flat_map, take}
use Rattle.population.specs.Support.{steps}
use Rattle.supported_states.proofs.levels.next_level.Given as goal

-- the steps from the keys so far have come
abbrev pub invariant-loop-from : goal.invariant-loop-from
invariant-loop-from l = l.all ≡ flat_map (steps l.model l.row) (take l.from-index l.level)
