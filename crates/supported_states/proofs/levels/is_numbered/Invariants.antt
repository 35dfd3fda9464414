use Rattle.std.proofs.Common.{◌≡◌, false, map}
use Rattle.std.specs.List.{list_any}
use Rattle.schema_laws.specs.short_values.Numbers.{numbers_from}
use Rattle.schema_laws.specs.state_demand.Selecting.{same_key}
use Rattle.population.specs.Numbered.{numbered_key}
use Rattle.supported_states.proofs.levels.is_numbered.Given as goal

-- none of the numbers so far has the key
abbrev pub invariant-loop-number : goal.invariant-loop-number
invariant-loop-number l = list_any (same_key l.placed.key) (map (numbered_key l.model l.row l.placed.set) (numbers_from 0 l.number)) ≡ false
