use Rattle.std.proofs.Common.{◌≡◌, ◌++◌}
use Rattle.schema_laws.specs.short_values.Numbers.{numbers_from}
use Rattle.supported_states.specs.small_parts.Sought.{numbers_sought}
use Rattle.supported_states.proofs.small_parts.sought.add_numbered.Given as goal

-- those of the numbers so far have come
abbrev pub invariant-loop-number : goal.invariant-loop-number
invariant-loop-number l = l.entities ≡ l.initial.entities ++ numbers_sought l.sought l.set l.entry (numbers_from 0 l.number)
