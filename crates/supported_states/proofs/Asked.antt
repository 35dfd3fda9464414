-- The principals that associations ask of an entity, one after another.
use Rattle.std.proofs.Common.{List, [], flat_map}
use Rattle.std.specs.Option.{option_map_or}
use Rattle.round_trip.specs.Words.{SetId, EntityModel, Assoc, Entity}
use Rattle.population.specs.Principals.{asked_by}
use Rattle.population.specs.declared.placed.PlacedKey.{PlacedKey}

-- those that these associations ask for
abbrev pub asked_over : EntityModel → SetId → Entity → List Assoc → List PlacedKey
asked_over model u entity assocs = flat_map (λ assoc. option_map_or (asked_by model u entity assoc) assoc.constraint []) assocs
