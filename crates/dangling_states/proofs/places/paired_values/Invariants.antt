use Rattle.std.proofs.Common.{◌≡◌, map, take}
use Rattle.round_trip.specs.Words.{value_of}
use Rattle.dangling_states.proofs.places.paired_values.Given as goal

-- the values in the pairs so far have come
abbrev pub invariant-loop-pair : goal.invariant-loop-pair
invariant-loop-pair l = l.key ≡ map (λ pair. value_of l.model l.entity pair.prop) (take l.pair-index l.pairs)
