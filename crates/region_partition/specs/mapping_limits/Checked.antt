-- What is answered of limits that are looked at one after another: the first that is passed.
-- Source: the limits of this project's profile.
use Rattle.std.specs.Prelude.{◌≡◌, List, [], ◌++◌, ◌+◌, length, flat_map, slice_get, Result, Ok, Err, Some}
use Rattle.std.specs.Bool.{⊤}
use Rattle.round_trip.specs.Words.{EntityModel, EntityType, LimitFault, Mapping, StoreModel, Table}
use Rattle.edm_types.specs.declared.faults.LimitKind.TheVariants as limit
use Rattle.cells.specs.Limits.{most_assocs, most_props}
use Rattle.region_partition.specs.declared.mapping_limits.passed.Passed.{Passed}
use Rattle.region_partition.specs.mapping_limits.FirstLimit.{most_columns, most_fragments, most_keys, most_sets, most_tables, most_types, passed}

-- a limit that is passed, as it is told
abbrev pub fault_of : Passed → LimitFault
fault_of found = record { what = found.what; name = found.name.now; counted = found.counted; allowed = found.allowed }

-- of these limits none is passed, or this one is the first
abbrev pub TellsFirst : List LimitFault → Result ⊤ Passed → Type 0
TellsFirst limits (Ok _) = limits ≡ []
TellsFirst limits (Err found) = slice_get limits 0 ≡ Some (fault_of found)

-- the limits on a type's properties and on a table's columns
abbrev pub of_type : EntityType → List LimitFault
of_type type = passed limit.Properties type.name (length type.props) most_props

abbrev pub of_table : Table → List LimitFault
of_table table = passed limit.Columns table.name (length table.cols) most_columns

-- the limits that are passed by a model alone, by a store and by a mapping, in their order
abbrev pub of_model : EntityModel → List LimitFault
of_model model = passed limit.Sets [] (length model.sets) most_sets ++ passed limit.Associations [] (length model.assocs) most_assocs
    ++ passed limit.Types [] (length model.types) most_types ++ flat_map of_type model.types

abbrev pub of_store : StoreModel → List LimitFault
of_store store = passed limit.Tables [] (length store.tables) most_tables ++ flat_map of_table store.tables ++ passed limit.Foreign [] (length store.keys) most_keys

abbrev pub of_mapping : Mapping → List LimitFault
of_mapping mapping = passed limit.Fragments [] (length mapping.fragments + length mapping.links) most_fragments
