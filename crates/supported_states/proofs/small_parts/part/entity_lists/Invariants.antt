use Rattle.std.proofs.Common.{◌≡◌, map}
use Rattle.schema_laws.specs.short_values.Numbers.{numbers_from}
use Rattle.supported_states.specs.small_parts.Sought.{sought_in}
use Rattle.supported_states.proofs.small_parts.part.entity_lists.Given as goal

-- the lists of the sets so far have come
abbrev pub invariant-loop-index : goal.invariant-loop-index
invariant-loop-index l = l.lists.items ≡ map (λ n. sought_in l.sought (record { index = n })) (numbers_from 0 l.index)
