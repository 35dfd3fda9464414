use Rattle.std.proofs.Common.{◌≡◌, take}
use Rattle.population.specs.Support.{free_keys}
use Rattle.supported_states.proofs.levels.free_of.Given as goal

-- the free ones of the keys so far have come
abbrev pub invariant-loop-placed : goal.invariant-loop-placed
invariant-loop-placed l = l.free ≡ free_keys l.model l.row l.given (take l.placed-index l.placed-items)
