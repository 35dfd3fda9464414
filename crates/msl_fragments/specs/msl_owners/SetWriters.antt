-- The writer by which an entity set owns a table. Only for the functions that list writers.
-- Source: this project's choice of who may write a table, over MSL version 3, MappingFragment and AssociationSetMapping.
use Rattle.std.specs.Prelude.{List}
use Rattle.round_trip.specs.Words.{SetId, TableId, EntityModel, StoreModel, Pair, key_columns}
use Rattle.round_trip.specs.soundness.Lookups.{set_key}
use Rattle.table_owners.specs.declared.table_writers.writer.Owner.TheVariants as owner
use Rattle.table_owners.specs.declared.table_writers.writer.Writer.{Writer}
use Rattle.msl_rules.specs.OwnerRules.{key_pairs}

-- by these pairs, among which those of the keys count
abbrev pub writer_of_set : EntityModel → StoreModel → SetId → TableId → List Pair → Writer
writer_of_set model store set table pairs = record { table = table; owner = owner.Set set; key = key_pairs (set_key model set) (key_columns store table) pairs }
