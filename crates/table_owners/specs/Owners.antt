-- Whom each table belongs to.
-- Source: the profile's choice of who may write a table, over MSL version 3, MappingFragment and AssociationSetMapping.
use Rattle.std.specs.Prelude.{◌≡◌, List, length, Option, MatchOption}
use Rattle.round_trip.specs.Words.{TableId, Schema, At, IsWritten}
use Rattle.round_trip.specs.soundness.mappings.Owners as sound
use Rattle.table_owners.specs.declared.table_writers.writer.Owner.{Owner}
use Rattle.table_owners.specs.declared.table_writers.writer.Owner.TheVariants.{Set, Assoc}

-- an owner, as soundness has it
abbrev pub owner_of : Owner → sound.Owner
owner_of (Set s) = sound.set s
owner_of (Assoc a) = sound.assoc a

-- what is told of a table: nothing writes it, or this one owns it
abbrev pub TellsOwner : Schema → TableId → Option Owner → Type 0
TellsOwner schema t told = MatchOption told (¬ IsWritten schema.mapping t) (λ owner. sound.IsOwner schema t (owner_of owner))

-- it is told of each table
pub record TellOwners (schema : Schema) (owners : List (Option Owner)) : Type 0 where
  pub size : length owners ≡ length schema.store.tables
  pub each : (t : TableId) (told : Option Owner) → At owners t.index told → TellsOwner schema t told
