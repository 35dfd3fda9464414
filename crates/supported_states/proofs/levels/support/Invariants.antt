use Rattle.std.proofs.Common.{◌≡◌, ◌++◌, ◌-◌}
use Rattle.schema_laws.specs.state_demand.MadeTables.{distinct}
use Rattle.population.specs.Support.{levels, same_placed, support}
use Rattle.supported_states.proofs.levels.support.Given as goal

-- the levels so far and those that are to come hold the same keys
abbrev pub invariant-loop : goal.invariant-loop
invariant-loop l = support l.model l.row l.given l.wanted ≡ distinct same_placed (l.all ++ levels l.model l.row l.given (l.end - l.counter) l.level)
