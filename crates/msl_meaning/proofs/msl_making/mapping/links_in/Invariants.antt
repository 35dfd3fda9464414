use Rattle.std.proofs.Common.{◌≡◌, take}
use Rattle.std.specs.List.{enumerate_from, filter_map}
use Rattle.msl_rules.specs.MappingMeaning.{link_at}
use Rattle.msl_rules.specs.Sites.{link_place}
use Rattle.msl_meaning.proofs.msl_making.mapping.links_in.Given as goal

-- the mappings that were passed
abbrev pub invariant-loop-place : goal.invariant-loop-place
invariant-loop-place l =
    l.made ≡ filter_map (λ i. link_at l.names.model.now l.names.store.now (record { place = link_place i.0; link = i.1 })) (take l.place (enumerate_from 0 l.raw.links))
