use Rattle.std.proofs.Common.{◌≡◌, ◌+◌, map, take}
use Rattle.schema_laws.specs.short_values.Fresh.{fresh_at}
use Rattle.schema_laws.specs.short_values.Places.{place_in}
use Rattle.supported_states.proofs.numbers.key_from.Given as goal

-- the parts so far have come
abbrev pub invariant-loop-property : goal.invariant-loop-property
invariant-loop-property l = l.key ≡ map (λ p. fresh_at l.model l.row p (l.index + place_in p l.parts)) (take l.property-index l.parts)
