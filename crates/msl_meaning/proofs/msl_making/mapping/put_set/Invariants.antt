use Rattle.std.proofs.Common.{◌≡◌, ◌++◌, take}
use Rattle.std.specs.List.{enumerate_from, flat_map}
use Rattle.msl_meaning.specs.msl_making.Walk.{fragments_of}
use Rattle.msl_meaning.proofs.msl_making.mapping.put_set.Given as goal

-- the fragments of the type mappings that were passed stand behind the others
abbrev pub invariant-loop-inside : goal.invariant-loop-inside
invariant-loop-inside l =
    l.made ≡ l.initial.made ++ flat_map (λ j. fragments_of l.names.model.now l.names.store.now l.set l.place j.0 j.1) (take l.inside (enumerate_from 0 l.mapping.types))
