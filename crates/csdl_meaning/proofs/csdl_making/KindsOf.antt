-- The kind of a property, by what its Type names.
use Rattle.std.proofs.Common.{◌≡◌, ℕ, List, map, slice_get, Option, Some, None, option_map, refl, ap, ◌∙◌}
use Rattle.std.specs.Option.{option_and_then, option_map_or, option_or, unwrap_or}
use Rattle.std.proofs.lemmas.Option.{slice_get-map}
use Rattle.emc_base.specs.declared.value.Kind.{Kind}
use Rattle.emc_base.specs.declared.value.Kind.TheVariants as kind
use Rattle.csdl_names.specs.declared.csdl_lists.raw.RawBound.{RawBound}
use Rattle.csdl_names.specs.declared.csdl_lists.raw.RawEnum.{RawEnum}
use Rattle.csdl_names.specs.declared.csdl_lists.raw.RawModel.{RawModel}
use Rattle.csdl_names.specs.declared.csdl_lists.raw.RawProp.{RawProp}
use Rattle.csdl_names.specs.csdl_lists.References.{Names, names_in}
use Rattle.csdl_types.specs.declared.simple.PropType.{PropType}
use Rattle.csdl_types.specs.declared.simple.PropType.TheVariants as named
use Rattle.csdl_types.specs.declared.simple.Simple.{Simple}
use Rattle.csdl_types.specs.Simple.{prop_type, simple_of}
use Rattle.csdl_meaning.specs.Kinds.{enum_kind, kind_of, simple_kind}

-- the kind of what a Type names: Boolean where it names nothing
abbrev pub kind_by : RawBound → List RawEnum → Option PropType → Kind
kind_by bound enums None = kind.Boolean
kind_by bound enums (Some (named.Simple simple)) = simple_kind bound simple
kind_by bound enums (Some (named.Enum place)) = option_map_or enum_kind (slice_get enums place) kind.Boolean

-- it is the kind of the property
kind_named : (bound : RawBound) (enums : List RawEnum) (simple : Option Simple) (place : Option ℕ)
    → kind_by bound enums (option_or (option_map named.Simple simple) (option_map named.Enum place))
    ≡ option_map_or (simple_kind bound) simple (option_map_or enum_kind (option_and_then (slice_get enums) place) kind.Boolean)
kind_named bound enums (Some simple) place = refl
kind_named bound enums None (Some place) = refl
kind_named bound enums None None = refl

-- what the Type names, by the names of the model
pub tells : (raw : RawModel) (prop : RawProp) (names : Names) (text : List ℕ) (found : Option PropType) → names ≡ names_in raw → text ≡ prop.kind
    → found ≡ prop_type names.enum_named text → kind_by prop.bound raw.enums found ≡ kind_of raw prop
tells raw prop names text found known spelled is =
    ap (kind_by prop.bound raw.enums) (is ∙ (λ k. prop_type (known k).enum_named (spelled k)))
    ∙ kind_named prop.bound raw.enums (simple_of prop.kind) ((names_in raw).enum_named prop.kind)

-- the kind of the enumeration at a place, by those of all
kept_kind : (enum : Option RawEnum) → unwrap_or (option_map enum_kind enum) kind.Boolean ≡ option_map_or enum_kind enum kind.Boolean
kept_kind None = refl
kept_kind (Some enum) = refl

pub enum_kept : (enums : List RawEnum) (kinds : List Kind) (place : ℕ) (found : Option Kind) → kinds ≡ map enum_kind enums → found ≡ slice_get kinds place
    → unwrap_or found kind.Boolean ≡ option_map_or enum_kind (slice_get enums place) kind.Boolean
enum_kept enums kinds place found are is =
    ap (λ (one : Option Kind). unwrap_or one kind.Boolean) (is ∙ ap (λ (all : List Kind). slice_get all place) are ∙ slice_get-map enum_kind enums place)
    ∙ kept_kind (slice_get enums place)
