use Rattle.std.proofs.Common.{◌≡◌, map, take}
use Rattle.schema_laws.specs.short_values.Fresh.{added_value, fresh_at}
use Rattle.supported_states.proofs.numbers.numbered_key.Given as goal

-- the parts so far have come
abbrev pub invariant-loop-property : goal.invariant-loop-property
invariant-loop-property l = l.key ≡ map (λ p. fresh_at l.model l.row p (added_value l.number)) (take l.property-index l.property-items)
