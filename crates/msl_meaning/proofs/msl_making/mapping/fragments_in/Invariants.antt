use Rattle.std.proofs.Common.{◌≡◌, take}
use Rattle.std.specs.List.{enumerate_from, filter_map, flat_map}
use Rattle.msl_rules.specs.MappingMeaning.{fragment_at}
use Rattle.msl_rules.specs.Sites.{sites_of_set}
use Rattle.msl_meaning.proofs.msl_making.mapping.fragments_in.Given as goal

-- the fragments of the sets that were passed
abbrev pub invariant-loop-place : goal.invariant-loop-place
invariant-loop-place l =
    l.made ≡ flat_map (λ i. filter_map (fragment_at l.names.model.now l.names.store.now) (sites_of_set i.0 i.1)) (take l.place (enumerate_from 0 l.raw.sets))
