-- The kind of a property, its bound aside, is what its Type names. V17.
use Rattle.std.proofs.Common.{◌≡◌, ◌≢◌, ℕ, zero, suc, List, [], ◌∷◌, map, slice_get, Option, Some, None, option_map, refl, sym, ap, ◌∙◌}
use Rattle.std.specs.Option.{option_and_then, option_map_or, option_or}
use Rattle.emc_base.specs.declared.value.Kind.{Kind}
use Rattle.emc_base.specs.declared.value.Kind.TheVariants as kind
use Rattle.round_trip.specs.soundness.Kinds.{without_bound}
use Rattle.csdl_names.specs.declared.csdl_lists.raw.RawBound.{RawBound}
use Rattle.csdl_names.specs.declared.csdl_lists.raw.RawBound.TheVariants.{Absent}
use Rattle.csdl_names.specs.declared.csdl_lists.raw.RawEnum.{RawEnum}
use Rattle.csdl_names.specs.declared.csdl_lists.raw.RawModel.{RawModel}
use Rattle.csdl_names.specs.declared.csdl_lists.raw.RawProp.{RawProp}
use Rattle.csdl_names.specs.csdl_lists.References.{names_in}
use Rattle.csdl_types.specs.declared.simple.PropType.{PropType}
use Rattle.csdl_types.specs.declared.simple.PropType.TheVariants as named
use Rattle.csdl_types.specs.declared.simple.Simple.{Simple}
use Rattle.csdl_types.specs.declared.simple.Simple.TheVariants.{Byte, Int16, Int32, Int64, Boolean, Text, Binary}
use Rattle.csdl_types.specs.Simple.{prop_type, simple_of}
use Rattle.csdl_meaning.specs.Kinds.{enum_kind, kind_of, simple_kind}
use Rattle.emc_base.proofs.Stable.{same_names}

-- the kind that a Type names, without a bound
abbrev pub kind_named : RawModel → Option PropType → Kind
kind_named raw None = kind.Boolean
kind_named raw (Some (named.Simple simple)) = without_bound (simple_kind Absent simple)
kind_named raw (Some (named.Enum place)) = option_map_or enum_kind (slice_get raw.enums place) kind.Boolean

-- without its bound a simple type's kind is the same for each bound
pub simple_same : (bound : RawBound) (simple : Simple) → without_bound (simple_kind bound simple) ≡ without_bound (simple_kind Absent simple)
simple_same bound Byte = refl
simple_same bound Int16 = refl
simple_same bound Int32 = refl
simple_same bound Int64 = refl
simple_same bound Boolean = refl
simple_same bound Text = refl
simple_same bound Binary = refl

-- an enumeration has no bound
enum_same : (found : Option RawEnum) → without_bound (option_map_or enum_kind found kind.Boolean) ≡ option_map_or enum_kind found kind.Boolean
enum_same None = refl
enum_same (Some enum) = refl

-- a property's kind by what its Type names
pub kind_by_type : (raw : RawModel) (prop : RawProp) → without_bound (kind_of raw prop) ≡ kind_named raw (prop_type (names_in raw).enum_named prop.kind)
kind_by_type raw prop = by (simple_of prop.kind) ((names_in raw).enum_named prop.kind)
  where
    by : (simple : Option Simple) (place : Option ℕ)
        → without_bound (option_map_or (simple_kind prop.bound) simple (option_map_or enum_kind (option_and_then (slice_get raw.enums) place) kind.Boolean))
        ≡ kind_named raw (option_or (option_map named.Simple simple) (option_map named.Enum place))
    by (Some simple) place = simple_same prop.bound simple
    by None (Some place) = enum_same (slice_get raw.enums place)
    by None None = refl

-- what a Type names, as a number
abbrev pub number_of : Option PropType → ℕ
number_of None = 0
number_of (Some (named.Simple Byte)) = 1
number_of (Some (named.Simple Int16)) = 2
number_of (Some (named.Simple Int32)) = 3
number_of (Some (named.Simple Int64)) = 4
number_of (Some (named.Simple Boolean)) = 5
number_of (Some (named.Simple Text)) = 6
number_of (Some (named.Simple Binary)) = 7
number_of (Some (named.Enum place)) = suc (suc (suc (suc (suc (suc (suc (suc place)))))))

-- and back
abbrev pub numbered : ℕ → Option PropType
numbered zero = None
numbered (suc zero) = Some (named.Simple Byte)
numbered (suc (suc zero)) = Some (named.Simple Int16)
numbered (suc (suc (suc zero))) = Some (named.Simple Int32)
numbered (suc (suc (suc (suc zero)))) = Some (named.Simple Int64)
numbered (suc (suc (suc (suc (suc zero))))) = Some (named.Simple Boolean)
numbered (suc (suc (suc (suc (suc (suc zero)))))) = Some (named.Simple Text)
numbered (suc (suc (suc (suc (suc (suc (suc zero))))))) = Some (named.Simple Binary)
numbered (suc (suc (suc (suc (suc (suc (suc (suc place)))))))) = Some (named.Enum place)

numbered_back : (type : Option PropType) → numbered (number_of type) ≡ type
numbered_back None = refl
numbered_back (Some (named.Simple Byte)) = refl
numbered_back (Some (named.Simple Int16)) = refl
numbered_back (Some (named.Simple Int32)) = refl
numbered_back (Some (named.Simple Int64)) = refl
numbered_back (Some (named.Simple Boolean)) = refl
numbered_back (Some (named.Simple Text)) = refl
numbered_back (Some (named.Simple Binary)) = refl
numbered_back (Some (named.Enum place)) = refl

all_back : (types : List (Option PropType)) → map numbered (map number_of types) ≡ types
all_back [] = refl
all_back (type ∷ types) = (λ k. numbered_back type k ∷ all_back types k)

-- lists that can't but be equal are
pub same_types : (one other : List (Option PropType)) → ¬ (one ≢ other) → one ≡ other
same_types one other never =
    sym (all_back one)
    ∙ ap (map numbered) (same_names (map number_of one) (map number_of other) (λ differ. never (λ same. differ (ap (map number_of) same))))
    ∙ all_back other
