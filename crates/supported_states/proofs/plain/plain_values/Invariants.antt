use Rattle.std.proofs.Common.{◌≡◌, map, take}
use Rattle.round_trip.specs.Words.{key_props}
use Rattle.population.specs.Plain.{plain_value}
use Rattle.supported_states.proofs.plain.plain_values.Given as goal

-- the values of the properties so far have come
abbrev pub invariant-loop-property : goal.invariant-loop-property
invariant-loop-property l = l.values ≡ map (plain_value l.model l.row l.number (key_props l.model l.fn.ty) l.key) (take l.property-index l.property-items)
