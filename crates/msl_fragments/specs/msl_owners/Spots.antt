-- Places of writers by numbers. Only for the functions that list writers.
-- Source: MSL version 3, EntitySetMapping, EntityTypeMapping, MappingFragment and AssociationSetMapping.
use Rattle.std.specs.Prelude.{List}
use Rattle.json_form.specs.declared.pointer.Step.{Step}
use Rattle.msl_rules.specs.Sites.{fragment_place, link_place}
use Rattle.msl_fragments.specs.declared.msl_owners.spots.Spot.{Spot}
use Rattle.msl_fragments.specs.declared.msl_owners.spots.Spot.TheVariants.{Link, Fragment}

-- the place in the document
abbrev pub place_of : Spot → List Step
place_of (Link i) = link_place i
place_of (Fragment i j k) = fragment_place i j k
