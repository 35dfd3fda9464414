-- The constants of a property's group: there are few, and none where it has only byte lists, isn't tested, or tells another entity.
use Rattle.std.proofs.Common.{◌≡◌, ◌≢◌, inl, inr, ◌+◌, ◌<◌, ◌≤◌, List, [], ◌∷◌, length, IsTrue, Contains, None, Some, refl, sym, ap, subst, arith}
use Rattle.std.proofs.lemmas.List.{length-map}
use Rattle.std.proofs.lemmas.List.Elements.{All-contains}
use Rattle.std.proofs.lemmas.Option.{slice_get_within}
use Rattle.emc_base.proofs.Lists.{all_from_members}
use Rattle.emc_base.specs.declared.value.Kind.TheVariants as kind
use Rattle.emc_base.proofs.facts.Standing.{none_stands}
use Rattle.round_trip.specs.Words.{TableId, PropId, Value, Whole, Kind, Prop, Cond, CondOn, Schema, At}
use Rattle.edm_types.specs.declared.mapping.CondOn.TheVariants as on
use Rattle.round_trip.specs.soundness.mappings.Conditions.{ComparesInDomain, kind_of}
use Rattle.round_trip.specs.soundness.mappings.Joined.{ComparesNoBarred, IsBarred, IsDependent, IsNoKey, Joined, Member, col, member_of, prop}
use Rattle.round_trip.specs.soundness.mappings.Joined as joined
use Rattle.round_trip.specs.soundness.Kinds.{IsBinary, IsEnum, IsSoundKind}
use Rattle.round_trip.proofs.Lookups.{assoc_of}
use Rattle.round_trip.proofs.Classes.{HasClass, class_of, joined_class}
use Rattle.member_groups.specs.Tested.{HasCondition, IsComparedWith, IsConstant, IsTested, MakesTested}
use Rattle.schema_laws.proofs.sound_demand.Fitting.{sound_fragment, sound_link}
use Rattle.cells.specs.Limits.{IsWithinLimits, most_constants}
use Rattle.regions.specs.region_laws.IsBasis.{IsBasis}
use Rattle.regions.proofs.region_laws.values.Told.{constants_once}
use Rattle.regions.specs.Basis.{Basis}
use Rattle.region_states.specs.defaults.Candidates.{AreTwoFree, candidates, first_free, next_free}
use Rattle.schema_laws.specs.short_values.Numbers.{numbers_from, letter, number}
use Rattle.region_states.proofs.defaults.Candidates.{IsPlainKind, many, two_free, two_of_all}
use Rattle.region_states.proofs.defaults.groups.Classes.{at_class, binary_class, binary_column, binary_prop, class_at, class_binary, joined_no_enum}
use Rattle.schema_laws.proofs.sound_types.Dependent.{sound_kind}
use Rattle.region_states.proofs.defaults.Lists.{numbers_length}

class_of_binary : (k : Kind) → IsBinary k → class_of k ≡ kind.Binary None
class_of_binary kind.Boolean is = absurd is
class_of_binary kind.Byte is = absurd is
class_of_binary kind.Int16 is = absurd is
class_of_binary kind.Int32 is = absurd is
class_of_binary kind.Int64 is = absurd is
class_of_binary (kind.Text bound) is = absurd is
class_of_binary (kind.Binary bound) is = binary_class bound
class_of_binary (kind.Enum enumeration) is = absurd is

-- a list that isn't empty and has not one item has two
two_or_more : {X : Type 0} (xs : List X) → xs ≢ [] → ¬ (length xs ≡ 1) → 2 ≤ length xs
two_or_more [] some not_one = absurd (some refl)
two_or_more (x ∷ []) some not_one = absurd (not_one refl)
two_or_more (x ∷ y ∷ xs) some not_one = omega arith

module _ (basis : Basis) (is : IsBasis basis) where
  abbrev schema : Schema
  schema = basis.schema

  -- a condition compares with what is in the domain, and with nothing that is barred
  compares : (t : TableId) (cond : Cond) → HasCondition schema t cond → ComparesInDomain schema t cond
  compares t cond (inl (fragment, mapped, to, among)) =
      let P : TableId → Type 0 = λ u. ComparesInDomain schema u cond in
      let here : P fragment.table = All-contains (ComparesInDomain schema fragment.table) fragment.conds cond (sound_fragment schema is.sound fragment mapped).constants among in
      subst P to here
  compares t cond (inr (fragment, mapped, to, among)) =
      let P : TableId → Type 0 = λ u. ComparesInDomain schema u cond in
      let assoc = assoc_of schema is.sound fragment mapped in
      let here : P fragment.table = All-contains (ComparesInDomain schema fragment.table) fragment.conds cond
      (sound_link schema is.sound fragment mapped assoc.0 assoc.1).constants among in
      subst P to here

  no_barred : (t : TableId) (cond : Cond) → HasCondition schema t cond → ComparesNoBarred schema t cond
  no_barred t cond (inl (fragment, mapped, to, among)) =
      let P : TableId → Type 0 = λ u. ComparesNoBarred schema u cond in
      let here : P fragment.table = All-contains (ComparesNoBarred schema fragment.table) fragment.conds cond (sound_fragment schema is.sound fragment mapped).barred among in
      subst P to here
  no_barred t cond (inr (fragment, mapped, to, among)) =
      let P : TableId → Type 0 = λ u. ComparesNoBarred schema u cond in
      let assoc = assoc_of schema is.sound fragment mapped in
      let here : P fragment.table = All-contains (ComparesNoBarred schema fragment.table) fragment.conds cond
      (sound_link schema is.sound fragment mapped assoc.0 assoc.1).barred among in
      subst P to here

  -- what is of the class of byte lists is one
  binary_on : (t : TableId) (what : CondOn) → HasClass schema (member_of t what) (kind.Binary None) → (k : Kind) × (kind_of schema t what ≡ Some k) × IsBinary k
  binary_on t (on.Prop q) has = binary_prop schema q has
  binary_on t (on.Col c) has = binary_column schema t c has

  makes : (other : Member) (v : Value) → IsComparedWith schema other v → MakesTested schema other
  makes (prop q) v (t, cond, has, is_member, equals) = inl (t, cond, has, is_member)
  makes (col u c) v (t, cond, has, is_member, equals) = inl (t, cond, has, is_member)

  -- a constant tests its group
  constant_tested : (member : Member) (v : Value) → IsConstant schema member v → IsTested schema member
  constant_tested member v (inl (other, joins, compared)) = (other, joins, makes other v compared)
  constant_tested member v (inr (tested, rest)) = tested

  module _ (p : PropId) (declared : Prop) (here : At basis.schema.model.props p.index declared) where
    abbrev constants : List Value
    constants = basis.constants (prop p)

    inside : p.index < length basis.schema.model.props
    inside = slice_get_within basis.schema.model.props p.index declared here

    is_constant : (v : Value) → Contains constants v → IsConstant schema (prop p) v
    is_constant v has = ((is.constants (prop p) inside).each v).0 has

    -- within the limits there are few
    pub few : IsWithinLimits schema → length constants ≤ most_constants
    few limits = limits.groups p inside constants (constants_once basis is p declared here) (all_from_members (IsConstant schema (prop p)) constants is_constant)

    -- with a byte list nothing is compared
    binary_constant : IsBinary declared.kind → (v : Value) → IsConstant schema (prop p) v → ⊥
    binary_constant binary v constant = by constant
      where
        of_class : HasClass schema (prop p) (kind.Binary None)
        of_class = subst (HasClass schema (prop p)) (class_of_binary declared.kind binary) (class_at schema p declared here)

        by : IsConstant schema (prop p) v → ⊥
        by (inl (other, joins, (t, cond, has, is_member, equals))) =
            let C : Member → Type 0 = λ member. HasClass schema member (kind.Binary None) in
            let class : C other = (joined_class schema is.sound (prop p) other joins (kind.Binary None)).0 of_class in
            let found = binary_on t cond.on (subst C (sym is_member) class) in
            (compares t cond has v equals found.0 found.1).1 found.2
        by (inr (tested, (q, enumeration, n, joins, of_enum, among, same))) =
            let class : HasClass schema (prop q) (kind.Binary None) = (joined_class schema is.sound (prop p) (prop q) joins (kind.Binary None)).0 of_class in
            let binary : class_of of_enum.0.kind ≡ kind.Binary None = at_class schema q (kind.Binary None) of_enum.0 of_enum.1 class in
            let E : Kind → Type 0 = IsEnum in
            (class_binary of_enum.0.kind binary).1 (subst E (sym of_enum.2) tt)

    pub binary_none : IsBinary declared.kind → constants ≡ []
    binary_none binary = none_stands constants (λ v has. binary_constant binary v (is_constant v has))

    -- what isn't tested has no constants
    pub untested_none : ¬ IsTrue (basis.tested (prop p)) → constants ≡ []
    untested_none untested = none_stands constants (λ v has. untested ((is.tested (prop p) inside).1 (constant_tested (prop p) v (is_constant v has))))

    -- nor has a dependent property, or what is joined to one
    barred_constant : (q : PropId) → IsDependent schema.model q → ((other : Member) → Joined schema (prop p) other → Joined schema (prop q) other)
        → (v : Value) → IsConstant schema (prop p) v → ⊥
    barred_constant q dependent joined_too v (inl (other, joins, (t, cond, has, is_member, equals))) =
        no_barred t cond has v equals (subst (IsBarred schema) (sym is_member) (prop q, dependent, inr (joined_too other joins)))
    barred_constant q dependent joined_too v (inr (tested, (r, enumeration, n, joins, of_enum, among, same))) =
        let E : Kind → Type 0 = IsEnum in
        joined_no_enum schema is.sound q r dependent (joined_too (prop r) joins) of_enum.0 of_enum.1 (subst E (sym of_enum.2) tt)

    pub dependent_none : IsDependent schema.model p → constants ≡ []
    dependent_none dependent = none_stands constants (λ v has. barred_constant p dependent (λ other joins. joins) v (is_constant v has))

    pub joined_none : (q : PropId) → IsDependent schema.model q → Joined schema (prop q) (prop p) → constants ≡ []
    joined_none q dependent to = none_stands constants (λ v has. barred_constant q dependent (λ other joins. joined.chain (prop q) (prop p) other to joins) v (is_constant v has))

    -- so two candidates are left of a kind that is neither of flags nor an enumeration
    enough : (k : Kind) → IsPlainKind k → (IsBinary k → constants ≡ []) → length constants ≤ most_constants → 2 + length constants ≤ length (candidates k)
    enough kind.Boolean plain none short = absurd plain
    enough kind.Byte plain none short = omega (arith, length-map (numbers_from 0 100) number, numbers_length 0 100, short)
    enough kind.Int16 plain none short = omega (arith, length-map (numbers_from 0 100) number, numbers_length 0 100, short)
    enough kind.Int32 plain none short = omega (arith, length-map (numbers_from 0 100) number, numbers_length 0 100, short)
    enough kind.Int64 plain none short = omega (arith, length-map (numbers_from 0 100) number, numbers_length 0 100, short)
    enough (kind.Text bound) plain none short = omega (arith, length-map (numbers_from 97 100) letter, numbers_length 97 100, short)
    enough (kind.Binary bound) plain none short = let no_length : length constants ≡ 0 = ap length (none tt) in omega (arith, no_length)
    enough (kind.Enum enumeration) plain none short = absurd plain

    pub plain_two : IsWithinLimits schema → IsPlainKind declared.kind → AreTwoFree declared.kind constants (first_free declared.kind constants) (next_free declared.kind constants)
    plain_two limits plain =
        two_free constants declared.kind plain (sound_kind schema.model is.sound.model p declared here) (enough declared.kind plain binary_none (few limits))

    -- of an untested property that is no part of a key an enumeration has two numbers
    two_there : IsNoKey schema (prop p) → ¬ IsTrue (basis.tested (prop p)) → (k : Kind) → declared.kind ≡ k → IsSoundKind k → 2 ≤ length (candidates k)
    two_there free untested kind.Boolean is_kind sound = omega arith
    two_there free untested kind.Byte is_kind sound = many kind.Byte tt
    two_there free untested kind.Int16 is_kind sound = many kind.Int16 tt
    two_there free untested kind.Int32 is_kind sound = many kind.Int32 tt
    two_there free untested kind.Int64 is_kind sound = many kind.Int64 tt
    two_there free untested (kind.Text bound) is_kind sound = many (kind.Text bound) tt
    two_there free untested (kind.Binary bound) is_kind sound = many (kind.Binary bound) tt
    two_there free untested (kind.Enum enumeration) is_kind sound =
        let two : 2 ≤ length enumeration.members = two_or_more enumeration.members sound.some
        (λ one. untested ((is.tested (prop p) inside).1 (prop p, joined.same (prop p) free, inr (inr (inr (enumeration, (declared, here, is_kind), one)))))) in
        omega (arith, length-map enumeration.members Whole, two)

    pub untested_two : IsNoKey schema (prop p) → ¬ IsTrue (basis.tested (prop p))
        → AreTwoFree declared.kind constants (first_free declared.kind constants) (next_free declared.kind constants)
    untested_two free untested =
        let sound : IsSoundKind declared.kind = sound_kind schema.model is.sound.model p declared here in
        let P : List Value → Type 0 = λ list. AreTwoFree declared.kind list (first_free declared.kind list) (next_free declared.kind list) in
        subst P (sym (untested_none untested)) (two_of_all declared.kind sound (two_there free untested declared.kind refl sound))
