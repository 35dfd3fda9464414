use Rattle.std.proofs.Common.{◌≡◌, ◌++◌, List, vec_len}
use Rattle.population.specs.declared.placed.PlacedKey.{PlacedKey}
use Rattle.supported_states.specs.Gathered.{IsGathered}
use Rattle.supported_states.proofs.distinct.distinct.Given as goal

-- the keys behind those that are left are gathered
abbrev pub invariant-loop-last : goal.invariant-loop-last
invariant-loop-last l = (behind : List PlacedKey) × (l.fn.keys ≡ l.rest.items ++ behind) × IsGathered behind l.spots l.kept.items

-- and they become fewer
abbrev pub decreases-loop-last : goal.decreases-loop-last
decreases-loop-last l = vec_len l.rest
