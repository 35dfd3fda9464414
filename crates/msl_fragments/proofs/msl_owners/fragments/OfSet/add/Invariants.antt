use Rattle.std.proofs.Common.{take}
use Rattle.std.specs.List.{enumerate_from, flat_map}
use Rattle.msl_fragments.specs.msl_owners.AllWriters.{Adds}
use Rattle.msl_fragments.proofs.msl_owners.Writers.{of_types}
use Rattle.msl_fragments.proofs.msl_owners.fragments.OfSet.add.Given as goal

-- what the type mappings that were passed write is added
abbrev pub invariant-loop-place : goal.invariant-loop-place
invariant-loop-place l =
    let self = l.self in
    let set = self.set.now in
    Adds l.initial.all l.all (flat_map (of_types self.names.now.model.now self.names.now.store.now self.place set) (take l.place (enumerate_from 0 set.types)))
