-- The kinds of columns. V13, V23; and that a column's kind, its bound aside, is what its Type names.
use Rattle.std.proofs.Common.{◌≡◌, Option, Some, None, option_map, refl}
use Rattle.std.specs.Option.{option_map_or}
use Rattle.emc_base.specs.declared.value.Kind.TheVariants as kind
use Rattle.round_trip.specs.soundness.Kinds.{IsEnum, IsKeyKind, IsSoundKind, without_bound}
use Rattle.round_trip.specs.soundness.Stores.{IsSoundColumn}
use Rattle.csdl_names.specs.declared.csdl_lists.raw.RawModel.{RawModel}
use Rattle.csdl_names.specs.declared.csdl_lists.raw.RawProp.{RawProp}
use Rattle.csdl_types.specs.declared.simple.PropType.TheVariants as named
use Rattle.csdl_types.specs.declared.simple.Simple.{Simple}
use Rattle.csdl_types.specs.Keys.{IsKeySimple}
use Rattle.csdl_types.specs.PropTypes.{BreaksBound}
use Rattle.csdl_meaning.specs.Kinds.{simple_kind}
use Rattle.csdl_meaning.proofs.types.PropKinds.{kind_named, simple_same}
use Rattle.csdl_meaning.proofs.types.SoundKinds.{no_enum, simple_key, sound_simple}
use Rattle.ssdl_model.specs.ssdl_lists.Columns.{HasColumnLength, column_simple, column_type}
use Rattle.ssdl_model.specs.ssdl_making.StoreMeaning.{column_kind, column_of}

-- V13
pub sound_column : (column : RawProp) → ¬ BreaksBound (HasColumnLength column.kind) column.bound → IsSoundColumn (column_of column)
sound_column column fine = record { kind = sound (column_simple column.kind); simple = none (column_simple column.kind) }
  where
    sound : (found : Option Simple) → IsSoundKind (option_map_or (simple_kind column.bound) found kind.Boolean)
    sound None = tt
    sound (Some simple) = sound_simple (HasColumnLength column.kind) column.bound simple fine

    none : (found : Option Simple) → ¬ IsEnum (option_map_or (simple_kind column.bound) found kind.Boolean)
    none None is = is
    none (Some simple) is = no_enum column.bound simple is

-- V23
pub key_kind : (column : RawProp) → IsKeySimple (column_simple column.kind) → IsKeyKind (column_kind column)
key_kind column = by (column_simple column.kind)
  where
    by : (found : Option Simple) → IsKeySimple found → IsKeyKind (option_map_or (simple_kind column.bound) found kind.Boolean)
    by None is = absurd is
    by (Some simple) is = simple_key column.bound simple is

-- a column's kind by what its Type names
pub kind_by_type : (raw : RawModel) (column : RawProp) → without_bound (column_kind column) ≡ kind_named raw (column_type column.kind)
kind_by_type raw column = by (column_simple column.kind)
  where
    by : (found : Option Simple) → without_bound (option_map_or (simple_kind column.bound) found kind.Boolean) ≡ kind_named raw (option_map named.Simple found)
    by None = refl
    by (Some simple) = simple_same column.bound simple
