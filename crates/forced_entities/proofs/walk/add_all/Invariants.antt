use Rattle.forced_entities.specs.Walked.{Finds, IsFound}
use Rattle.forced_entities.proofs.walk.add_all.Given as goal

-- those so far are found
abbrev pub invariant-loop-one : goal.invariant-loop-one
invariant-loop-one l = IsFound l.initial.found → Finds l.yielded l.initial.found l.found
