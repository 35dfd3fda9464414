-- The limits of a mapping, in their order, and the first that is passed.
-- Source: the limits of this project's profile.
use Rattle.std.specs.Prelude.{◌≡◌, ◌≤◌, ℕ, List, [], ◌++◌, ◌+◌, length, flat_map, nat_lt, slice_get, Option, if◌then◌else◌, ◌∷◌}
use Rattle.std.specs.List.{enumerate_from}
use Rattle.round_trip.specs.Words.{SetId, EntityType, EntitySet, LimitFault, LimitKind, Prop, Schema, Table, At}
use Rattle.edm_types.specs.declared.faults.LimitKind.TheVariants as limit
use Rattle.round_trip.specs.soundness.mappings.Joined.{prop}
use Rattle.cells.specs.Limits.{most_assocs, most_constants, most_props}
use Rattle.regions.specs.Basis.{Basis}
use Rattle.regions.specs.Regions.{count_of}
use Rattle.regions.specs.region_laws.IsBasis.{IsBasis}

-- the most entity sets, types, tables, columns of a table, foreign keys, fragments, and regions of a set
abbrev pub most_sets : ℕ
most_sets = 64

abbrev pub most_types : ℕ
most_types = 512

abbrev pub most_tables : ℕ
most_tables = 256

abbrev pub most_columns : ℕ
most_columns = 128

abbrev pub most_keys : ℕ
most_keys = 1024

abbrev pub most_fragments : ℕ
most_fragments = 1024

abbrev pub most_regions : ℕ
most_regions = 1024

-- the limit is passed where more are counted than are allowed; the name says at what
abbrev pub passed : LimitKind → List ℕ → ℕ → ℕ → List LimitFault
passed what name counted allowed =
    if nat_lt allowed counted then record { what = what; name = name; counted = counted; allowed = allowed } ∷ [] else []

module _ (basis : Basis) where
  abbrev pub props_passed : EntityType → List LimitFault
  props_passed type = passed limit.Properties type.name (length type.props) most_props

  abbrev pub columns_passed : Table → List LimitFault
  columns_passed table = passed limit.Columns table.name (length table.cols) most_columns

  -- the group of a property, by the property's number
  abbrev pub constants_passed : ℕ × Prop → List LimitFault
  constants_passed placed = passed limit.Constants placed.1.name (length (basis.constants (prop (record { index = placed.0 })))) most_constants

  abbrev pub regions_passed : ℕ × EntitySet → List LimitFault
  regions_passed placed = passed limit.Regions placed.1.name (count_of basis (record { index = placed.0 })) most_regions

  -- all limits that are passed, in their order; of one limit by types, tables, properties or sets in the order of the model and the store
  abbrev pub limits_passed : List LimitFault
  limits_passed =
      passed limit.Sets [] (length basis.schema.model.sets) most_sets
      ++ passed limit.Associations [] (length basis.schema.model.assocs) most_assocs
      ++ passed limit.Types [] (length basis.schema.model.types) most_types
      ++ flat_map props_passed basis.schema.model.types
      ++ passed limit.Tables [] (length basis.schema.store.tables) most_tables
      ++ flat_map columns_passed basis.schema.store.tables
      ++ passed limit.Foreign [] (length basis.schema.store.keys) most_keys
      ++ passed limit.Fragments [] (length (basis.schema.mapping.fragments) + length (basis.schema.mapping.links)) most_fragments
      ++ flat_map constants_passed (enumerate_from 0 basis.schema.model.props)
      ++ flat_map regions_passed (enumerate_from 0 basis.schema.model.sets)

  -- the first of these, if there is any
  abbrev pub first_limit : Option LimitFault
  first_limit = slice_get limits_passed 0

-- the first limit that a schema passes, None where it passes none
pub record IsFirstLimit (schema : Schema) (told : Option LimitFault) : Type 0 where
  pub basis : Basis
  pub is_basis : IsBasis basis
  pub of_schema : basis.schema ≡ schema
  pub is_first : first_limit basis ≡ told

-- no set has more regions than are allowed
abbrev pub HaveFewRegions : Basis → Type 0
HaveFewRegions basis = (s : SetId) (set : EntitySet) → At basis.schema.model.sets s.index set → count_of basis s ≤ most_regions
