use Rattle.std.proofs.Common.{◌≡◌, map}
use Rattle.schema_laws.specs.short_values.Numbers.{numbers_from}
use Rattle.supported_states.specs.small_parts.Parts.{links_at}
use Rattle.supported_states.proofs.small_parts.part.link_lists.Given as goal

-- the lists of the associations so far have come
abbrev pub invariant-loop-index : goal.invariant-loop-index
invariant-loop-index l = l.lists.items ≡ map (links_at l.sought) (numbers_from 0 l.index)
