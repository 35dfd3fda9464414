use Rattle.std.proofs.Common.{◌≡◌, map, take}
use Rattle.schema_laws.specs.short_values.Fresh.{fresh_at}
use Rattle.dangling_states.proofs.partners.key_of_index.Given as goal

-- the values of the properties so far have come
abbrev pub invariant-loop-property : goal.invariant-loop-property
invariant-loop-property l = l.key ≡ map (λ p. fresh_at l.model l.row p l.index) (take l.property-index l.property-items)
