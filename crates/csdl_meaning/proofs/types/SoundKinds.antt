-- Kinds: those of keys, bounds, and enumerations. V10, V12, V13.
use Rattle.std.proofs.Common.{◌≡◌, ◌≢◌, ⊎_elim, inr, ℕ, ◌<◌, ◌≤◌, ℤ, pos, negsuc, List, [], ◌∷◌, slice_get, All, Option, Some, None, refl, sym, ap, subst, arith}
use Rattle.std.specs.Prelude.{◌≤ℤ◌, unwrap_or}
use Rattle.std.specs.Option.{option_and_then, option_map_or}
use Rattle.std.proofs.lemmas.Bool.{cases_lt}
use Rattle.std.proofs.lemmas.Int.{ints}
use Rattle.std.proofs.lemmas.List.Elements.{All-weaker}
use Rattle.emc_base.specs.Domain.{InDomain}
use Rattle.emc_base.specs.Lists.{At}
use Rattle.emc_base.specs.declared.value.Under.{Under}
use Rattle.emc_base.specs.declared.value.Under.TheVariants as under
use Rattle.emc_base.specs.declared.value.Value.TheVariants.{Whole}
use Rattle.emc_base.specs.declared.value.Kind.TheVariants as kind
use Rattle.emc_base.proofs.facts.Domains.{between_stable}
use Rattle.round_trip.specs.soundness.Kinds.{IsEnum, IsKeyKind, IsSoundBound, IsSoundKind, largest_bound, under_kind}
use Rattle.csdl_names.specs.declared.csdl_lists.raw.RawBound.{RawBound}
use Rattle.csdl_names.specs.declared.csdl_lists.raw.RawBound.TheVariants.{Absent, Max, Number}
use Rattle.csdl_names.specs.declared.csdl_lists.raw.RawEnum.{RawEnum}
use Rattle.csdl_names.specs.declared.csdl_lists.raw.RawMember.{RawMember}
use Rattle.csdl_names.specs.declared.csdl_lists.raw.RawModel.{RawModel}
use Rattle.csdl_names.specs.declared.csdl_lists.raw.RawProp.{RawProp}
use Rattle.csdl_names.specs.csdl_lists.References.{names_in}
use Rattle.csdl_types.specs.declared.simple.Simple.{Simple}
use Rattle.csdl_types.specs.declared.simple.Simple.TheVariants.{Byte, Int16, Int32, Int64, Boolean, Text, Binary}
use Rattle.csdl_types.specs.Keys.{IsKeySimple}
use Rattle.csdl_types.specs.Numbers.{numbers_from, numbers_of, under_of}
use Rattle.csdl_types.specs.PropTypes.{BreaksBound, HasLength, IsNoBound, IsOutside}
use Rattle.csdl_types.specs.Simple.{simple_of}
use Rattle.csdl_meaning.specs.Kinds.{enum_kind, kind_of, most_of, simple_kind}
use Rattle.csdl_meaning.specs.Rising.{rising}
use Rattle.csdl_meaning.proofs.lists.Rising.{rising_all, rising_rises, rising_some}

-- a simple type for keys means a kind for keys
pub simple_key : (bound : RawBound) (simple : Simple) → IsKeySimple (Some simple) → IsKeyKind (simple_kind bound simple)
simple_key bound Byte is = absurd is
simple_key bound Int16 is = tt
simple_key bound Int32 is = tt
simple_key bound Int64 is = tt
simple_key bound Boolean is = absurd is
simple_key bound Text is = tt
simple_key bound Binary is = absurd is

-- and so does a property of such a type
pub key_kind : (raw : RawModel) (prop : RawProp) → IsKeySimple (simple_of prop.kind) → IsKeyKind (kind_of raw prop)
key_kind raw prop = by (simple_of prop.kind)
  where
    by : (simple : Option Simple) → IsKeySimple simple
        → IsKeyKind (option_map_or (simple_kind prop.bound) simple (option_map_or enum_kind (option_and_then (slice_get raw.enums) ((names_in raw).enum_named prop.kind)) kind.Boolean))
    by None is = absurd is
    by (Some simple) is = simple_key prop.bound simple is

-- a bound that is none of the wrong ones is 1 to the largest
sound_number : (number : ℤ) → ¬ IsNoBound number → IsSoundBound (most_of (Number number))
sound_number (negsuc below) fine = tt
sound_number (pos most) fine = (
  ⊎_elim (λ (small : most < 1). absurd (fine (λ within. let one : pos 1 ≤ℤ pos most = within.0 in absurd (omega (arith, ints))))) (λ (enough : 1 ≤ most). enough) (cases_lt most 1),
  ⊎_elim (λ (large : largest_bound < most). absurd (fine (λ within. let top : pos most ≤ℤ pos largest_bound = within.1 in absurd (omega (arith, ints))))) (λ (enough : most ≤ largest_bound). enough) (cases_lt largest_bound most),
)

-- a bound that V13 allows
sound_bound : (HasOne : Type 0) (bound : RawBound) → ¬ BreaksBound HasOne bound → IsSoundBound (most_of bound)
sound_bound HasOne Absent fine = tt
sound_bound HasOne Max fine = tt
sound_bound HasOne (Number number) fine = sound_number number (λ wrong. fine (inr wrong))

-- V13: the kind of a simple type has a sound bound
pub sound_simple : (HasOne : Type 0) (bound : RawBound) (simple : Simple) → ¬ BreaksBound HasOne bound → IsSoundKind (simple_kind bound simple)
sound_simple HasOne bound Byte fine = tt
sound_simple HasOne bound Int16 fine = tt
sound_simple HasOne bound Int32 fine = tt
sound_simple HasOne bound Int64 fine = tt
sound_simple HasOne bound Boolean fine = tt
sound_simple HasOne bound Text fine = sound_bound HasOne bound fine
sound_simple HasOne bound Binary fine = sound_bound HasOne bound fine

-- no simple type is an enumeration
pub no_enum : (bound : RawBound) (simple : Simple) → ¬ IsEnum (simple_kind bound simple)
no_enum bound Byte is = is
no_enum bound Int16 is = is
no_enum bound Int32 is = is
no_enum bound Int64 is = is
no_enum bound Boolean is = is
no_enum bound Text is = is
no_enum bound Binary is = is

-- the same by the underlying type
inside : (u : Under) (number : ℤ) → ¬ (¬ InDomain (Whole number) (under_kind u)) → InDomain (Whole number) (under_kind u)
inside under.Byte number = between_stable (pos 0) (pos 255) number
inside under.Int16 number = between_stable (negsuc 32767) (pos 32767) number
inside under.Int32 number = between_stable (negsuc 2147483647) (pos 2147483647) number
inside under.Int64 number = between_stable (negsuc 9223372036854775807) (pos 9223372036854775807) number

-- members have numbers
some_numbers : (next : ℤ) (members : List RawMember) → members ≢ [] → numbers_from next members ≢ []
some_numbers next [] some none = some refl
some_numbers next (member ∷ members) some none = absurd cc

-- V12: an enumeration has numbers, all of which its underlying type allows
pub sound_enum : (enum : RawEnum) (u : Under) → under_of enum ≡ Some u → enum.members ≢ [] → All (λ number. ¬ IsOutside u number) (numbers_of enum) → IsSoundKind (enum_kind enum)
sound_enum enum u named some within = record {
  some = rising_some (numbers_of enum) (some_numbers (pos 0) enum.members some);
  rising = rising_rises (numbers_of enum);
  within = let P : Under → Type 0 = λ u. All (λ number. InDomain (Whole number) (under_kind u)) (rising (numbers_of enum)) in
      subst P (sym (ap (λ (found : Option Under). unwrap_or found under.Int32) named))
      (rising_all (λ number. InDomain (Whole number) (under_kind u)) (numbers_of enum)
      (All-weaker (λ number. ¬ IsOutside u number) (λ number. InDomain (Whole number) (under_kind u)) (inside u) (numbers_of enum) within));
}

-- V12, V13
pub sound_kind : (raw : RawModel) (prop : RawProp) → ((i : ℕ) (enum : RawEnum) → At raw.enums i enum → IsSoundKind (enum_kind enum))
    → ¬ BreaksBound (HasLength (simple_of prop.kind)) prop.bound → IsSoundKind (kind_of raw prop)
sound_kind raw prop enums = by (simple_of prop.kind)
  where
    by_enum : (place : Option ℕ) → IsSoundKind (option_map_or enum_kind (option_and_then (slice_get raw.enums) place) kind.Boolean)
    by_enum None = tt
    by_enum (Some i) = by_found (slice_get raw.enums i) refl
      where
        by_found : (found : Option RawEnum) → slice_get raw.enums i ≡ found → IsSoundKind (option_map_or enum_kind found kind.Boolean)
        by_found None is = tt
        by_found (Some enum) is = enums i enum is

    by : (simple : Option Simple) → ¬ BreaksBound (HasLength simple) prop.bound
        → IsSoundKind (option_map_or (simple_kind prop.bound) simple (option_map_or enum_kind (option_and_then (slice_get raw.enums) ((names_in raw).enum_named prop.kind)) kind.Boolean))
    by None fine = by_enum ((names_in raw).enum_named prop.kind)
    by (Some simple) fine = sound_simple (HasLength (Some simple)) prop.bound simple fine
