-- What the fragments of one type mapping give, where the set is known.
-- Source: MSL version 3, EntityTypeMapping and MappingFragment.
use Rattle.std.specs.Prelude.{ℕ, List, Option, option_map}
use Rattle.std.specs.List.{enumerate_from, filter_map}
use Rattle.round_trip.specs.Words.{EntityModel, StoreModel, Fragment}
use Rattle.json_form.specs.Pointers.{pointer_of}
use Rattle.schema_names.specs.SchemaNames.{table_named}
use Rattle.msl_rules.specs.declared.msl_lists.raw.RawFragment.{RawFragment}
use Rattle.msl_rules.specs.declared.msl_lists.raw.RawTypeMapping.{RawTypeMapping}
use Rattle.msl_rules.specs.MappingMeaning.{fragment_with}
use Rattle.msl_rules.specs.Sites.{fragment_place}

module _ (model : EntityModel) (store : StoreModel) (s : ℕ) where
  -- a fragment of the set at a place, where its table is found
  abbrev pub fragment_of : List ℕ → RawTypeMapping → RawFragment → Option Fragment
  fragment_of place types fragment = option_map (fragment_with model store place types fragment s) (table_named store fragment.table)

  -- those of a type mapping, which stands at the second of these places in the set's mapping at the first
  abbrev pub fragments_of : ℕ → ℕ → RawTypeMapping → List Fragment
  fragments_of i j types = filter_map (λ k. fragment_of (pointer_of (fragment_place i j k.0)) types k.1) (enumerate_from 0 types.fragments)
