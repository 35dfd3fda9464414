use Rattle.std.proofs.Common.{take}
use Rattle.std.specs.List.{enumerate_from, flat_map}
use Rattle.msl_fragments.specs.msl_owners.AllWriters.{Adds}
use Rattle.msl_fragments.proofs.msl_owners.Writers.{of_set}
use Rattle.msl_fragments.proofs.msl_owners.fragments.add_sets.Given as goal

-- what the mappings of entity sets that were passed write is added
abbrev pub invariant-loop-place : goal.invariant-loop-place
invariant-loop-place l = Adds l.initial.all l.all (flat_map (of_set l.names.model.now l.names.store.now) (take l.place (enumerate_from 0 l.raw.sets)))
