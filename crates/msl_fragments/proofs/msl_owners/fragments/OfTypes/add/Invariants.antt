use Rattle.std.proofs.Common.{take}
use Rattle.std.specs.List.{enumerate_from, flat_map}
use Rattle.msl_fragments.specs.msl_owners.AllWriters.{Adds}
use Rattle.msl_fragments.proofs.msl_owners.Writers.{of_fragment}
use Rattle.msl_fragments.proofs.msl_owners.fragments.OfTypes.add.Given as goal

-- what the fragments that were passed write is added
abbrev pub invariant-loop-place : goal.invariant-loop-place
invariant-loop-place l =
    let of = l.self.of in
    let types = l.self.types.now in
    Adds l.initial.all l.all (flat_map (of_fragment of.names.now.model.now of.names.now.store.now of.place of.set.now l.self.place types) (take l.place (enumerate_from 0 types.fragments)))
