-- Candidates are in the domain of their kind, all different, and so many that two are left whatever the constants are.
use Rattle.std.proofs.Common.{◌≡◌, ◌≢◌, ⊎_elim, ℕ, ◌+◌, ◌<◌, ◌≤◌, pos, negsuc, List, [], ◌∷◌, map, filter, length, slice_get, unwrap_or, Contains, Bool, true, false, true≢false, Option, None, Some, refl, sym, ap, subst, arith}
use Rattle.std.specs.Bool.{⊤}
use Rattle.std.proofs.lemmas.Int.{ints}
use Rattle.std.proofs.lemmas.List.{length-map}
use Rattle.std.proofs.lemmas.List.Elements.{All-cons, All-nil}
use Rattle.std.proofs.lemmas.List.Kept.{AllPairs-cons, AllPairs-filter}
use Rattle.emc_base.specs.Domain.{IsBetween, IsByteList, IsText, IsWithin}
use Rattle.emc_base.specs.Lists.{AreApart}
use Rattle.emc_base.specs.declared.value.EnumKind.{EnumKind}
use Rattle.emc_base.specs.declared.value.Value.TheVariants as value
use Rattle.emc_base.specs.declared.value.Kind.TheVariants as kind
use Rattle.emc_base.proofs.Numbered.{filter_contains, map_contains}
use Rattle.round_trip.specs.Words.{Value, Null, Whole, Flag, Kind, InDomain}
use Rattle.round_trip.specs.soundness.Kinds.{IsEnum, IsKeyKind, IsSoundBound, IsSoundKind}
use Rattle.schema_laws.proofs.state_demand.lists.Lists.{member_cases, none_in_nil}
use Rattle.regions.proofs.region_laws.lists.Choices.{apart_map, apart_one}
use Rattle.region_states.specs.defaults.Candidates.{AreTwoFree, candidates, first_free, is_free, next_free}
use Rattle.schema_laws.specs.short_values.Numbers.{letter, number, numbers_from}
use Rattle.region_states.proofs.defaults.Lists.{AreFirstTwo, first_two, free_is, left_over, numbers_apart, numbers_length, numbers_within}
use Rattle.schema_laws.proofs.short_values.Short.{letter_same, number_same, one_scalar, one_within}

-- neither flags nor an enumeration
abbrev pub IsPlainKind : Kind → Type 0
IsPlainKind kind.Boolean = ⊥
IsPlainKind (kind.Enum enumeration) = ⊥
IsPlainKind _ = ⊤

pub plain_kind : (k : Kind) → k ≢ kind.Boolean → ¬ IsEnum k → IsPlainKind k
plain_kind kind.Boolean no_flag no_enum = absurd (no_flag refl)
plain_kind kind.Byte no_flag no_enum = tt
plain_kind kind.Int16 no_flag no_enum = tt
plain_kind kind.Int32 no_flag no_enum = tt
plain_kind kind.Int64 no_flag no_enum = tt
plain_kind (kind.Text bound) no_flag no_enum = tt
plain_kind (kind.Binary bound) no_flag no_enum = tt
plain_kind (kind.Enum enumeration) no_flag no_enum = absurd (no_enum tt)

pub plain_key : (k : Kind) → IsKeyKind k → IsPlainKind k
plain_key kind.Boolean key = absurd key
plain_key kind.Byte key = absurd key
plain_key kind.Int16 key = tt
plain_key kind.Int32 key = tt
plain_key kind.Int64 key = tt
plain_key (kind.Text bound) key = tt
plain_key (kind.Binary bound) key = absurd key
plain_key (kind.Enum enumeration) key = absurd key

-- a hundred numbers, or texts
letters_fit : (bound : Option ℕ) → IsSoundBound bound → (v : Value) → Contains (map letter (numbers_from 97 100)) v → InDomain v (kind.Text bound)
letters_fit bound sound v has =
    let found = map_contains letter (numbers_from 97 100) v has in
    let within = numbers_within 97 100 found.0 found.1 in
    let P : Value → Type 0 = λ w. InDomain w (kind.Text bound) in
    let is : IsText bound _ = record { characters = found.0 ∷ []; scalar = one_scalar found.0 (omega (arith, within.1)); spelled = refl; within = one_within bound sound } in
    subst P found.2 is

numbers_fit : (k : Kind) → ((n : ℕ) → n < 100 → InDomain (number n) k) → (v : Value) → Contains (map number (numbers_from 0 100)) v → InDomain v k
numbers_fit k fits v has =
    let found = map_contains number (numbers_from 0 100) v has in
    let within = numbers_within 0 100 found.0 found.1 in
    let P : Value → Type 0 = λ w. InDomain w k in
    subst P found.2 (fits found.0 (omega (arith, within.1)))

between : (low high n : ℕ) → 100 ≤ high → n < 100 → IsBetween (negsuc low) (pos high) (pos n)
between low high n wide few = (omega (arith, ints), omega (arith, ints, wide, few))

bytes_fit : (bound : Option ℕ) → IsSoundBound bound → (v : Value) → Contains (candidates (kind.Binary bound)) v → InDomain v (kind.Binary bound)
bytes_fit bound sound v has =
    let P : Value → Type 0 = λ w. InDomain w (kind.Binary bound) in
    ⊎_elim
    (λ (here : v ≡ value.Bytes []). let is : IsByteList bound [] = record { small = All-nil (λ byte. byte < 256); within = none_within bound } in subst P (sym here) is)
    (λ (later : Contains (value.Bytes (0 ∷ []) ∷ []) v). ⊎_elim
    (λ (here : v ≡ value.Bytes (0 ∷ [])).
    let is : IsByteList bound (0 ∷ []) = record { small = All-cons (λ byte. byte < 256) 0 [] (omega arith) (All-nil (λ byte. byte < 256)); within = one_within bound sound } in
    subst P (sym here) is)
    (λ (none : Contains [] v). absurd (none_in_nil v none))
    (member_cases (value.Bytes (0 ∷ [])) [] v later))
    (member_cases (value.Bytes []) (value.Bytes (0 ∷ []) ∷ []) v has)
  where
    none_within : (bound : Option ℕ) → IsWithin bound 0
    none_within None = tt
    none_within (Some most) = omega arith

members_fit : (enumeration : EnumKind) → (v : Value) → Contains (map Whole enumeration.members) v → InDomain v (kind.Enum enumeration)
members_fit enumeration v has =
    let found = map_contains Whole enumeration.members v has in
    let P : Value → Type 0 = λ w. InDomain w (kind.Enum enumeration) in
    subst P found.2 found.1

flags_fit : (v : Value) → Contains (candidates kind.Boolean) v → InDomain v kind.Boolean
flags_fit v has =
    let P : Value → Type 0 = λ w. InDomain w kind.Boolean in
    ⊎_elim
    (λ (here : v ≡ Flag false). subst P (sym here) tt)
    (λ (later : Contains (Flag true ∷ []) v). ⊎_elim
    (λ (here : v ≡ Flag true). subst P (sym here) tt)
    (λ (none : Contains [] v). absurd (none_in_nil v none))
    (member_cases (Flag true) [] v later))
    (member_cases (Flag false) (Flag true ∷ []) v has)

-- each candidate is in the domain
pub candidate_fits : (k : Kind) → IsSoundKind k → (v : Value) → Contains (candidates k) v → InDomain v k
candidate_fits kind.Boolean sound v has = flags_fit v has
candidate_fits kind.Byte sound v has = numbers_fit kind.Byte (λ n few. (omega (arith, ints), omega (arith, ints, few))) v has
candidate_fits kind.Int16 sound v has = numbers_fit kind.Int16 (λ n. between 32767 32767 n (omega arith)) v has
candidate_fits kind.Int32 sound v has = numbers_fit kind.Int32 (λ n. between 2147483647 2147483647 n (omega arith)) v has
candidate_fits kind.Int64 sound v has = numbers_fit kind.Int64 (λ n. between 9223372036854775807 9223372036854775807 n (omega arith)) v has
candidate_fits (kind.Text bound) sound v has = letters_fit bound sound v has
candidate_fits (kind.Binary bound) sound v has = bytes_fit bound sound v has
candidate_fits (kind.Enum enumeration) sound v has = members_fit enumeration v has

-- no candidate stands twice
pair_apart : (one two : Value) → one ≢ two → AreApart (one ∷ two ∷ [])
pair_apart one two different = AllPairs-cons (λ x y. x ≢ y) one (two ∷ []) (All-cons (λ y. one ≢ y) two [] different (All-nil (λ y. one ≢ y))) (apart_one two)

hundred_apart : AreApart (map number (numbers_from 0 100))
hundred_apart = apart_map number (numbers_from 0 100) (λ a b has_a has_b same. number_same a b same) (numbers_apart 0 100)

abbrev flag_in : Value → Bool
flag_in (value.Flag flag) = flag
flag_in _ = false

abbrev bytes_in : Value → List ℕ
bytes_in (value.Bytes bytes) = bytes
bytes_in _ = []

pub candidates_apart : (k : Kind) → IsSoundKind k → AreApart (candidates k)
candidates_apart kind.Boolean sound = pair_apart (Flag false) (Flag true) (λ same. true≢false (ap flag_in (sym same)))
candidates_apart kind.Byte sound = hundred_apart
candidates_apart kind.Int16 sound = hundred_apart
candidates_apart kind.Int32 sound = hundred_apart
candidates_apart kind.Int64 sound = hundred_apart
candidates_apart (kind.Text bound) sound = apart_map letter (numbers_from 97 100) (λ a b has_a has_b same. letter_same a b same) (numbers_apart 97 100)
candidates_apart (kind.Binary bound) sound = pair_apart (value.Bytes []) (value.Bytes (0 ∷ []))
    (λ same. let one : 0 ≡ 1 = ap (λ v. length (bytes_in v)) same in absurd (omega (arith, one)))
candidates_apart (kind.Enum enumeration) sound = apart_map Whole enumeration.members
    (λ a b has_a has_b same. (let is : a ≡ b = cc in is))
    (λ i j d below within same. let less = sound.rising i j d below within in absurd (omega (arith, ints, less, same)))

-- how many there are of a kind that is neither of flags nor an enumeration
pub many : (k : Kind) → IsPlainKind k → 2 ≤ length (candidates k)
many kind.Boolean plain = absurd plain
many kind.Byte plain = omega (arith, length-map (numbers_from 0 100) number, numbers_length 0 100)
many kind.Int16 plain = omega (arith, length-map (numbers_from 0 100) number, numbers_length 0 100)
many kind.Int32 plain = omega (arith, length-map (numbers_from 0 100) number, numbers_length 0 100)
many kind.Int64 plain = omega (arith, length-map (numbers_from 0 100) number, numbers_length 0 100)
many (kind.Text bound) plain = omega (arith, length-map (numbers_from 97 100) letter, numbers_length 97 100)
many (kind.Binary bound) plain = omega arith
many (kind.Enum enumeration) plain = absurd plain

-- two candidates are left of more than there are constants, and one
module _ (constants : List Value) where
  left_two : (k : Kind) → IsSoundKind k → 2 + length constants ≤ length (candidates k)
      → AreTwoFree k constants (unwrap_or (slice_get (filter (is_free constants) (candidates k)) 0) Null)
      (unwrap_or (slice_get (filter (is_free constants) (candidates k)) 1) Null)
  left_two k sound enough =
      let left : List Value = filter (is_free constants) (candidates k) in
      let more = left_over (candidates k) constants (candidates_apart k sound) in
      let two : AreFirstTwo left (unwrap_or (slice_get left 0) Null) (unwrap_or (slice_get left 1) Null) =
      first_two Null left (AllPairs-filter (λ one other. one ≢ other) (is_free constants) (candidates k) (candidates_apart k sound)) (omega (arith, more, enough)) in
      let is_one = filter_contains (is_free constants) (candidates k) (unwrap_or (slice_get left 0) Null) two.one_there in
      let is_two = filter_contains (is_free constants) (candidates k) (unwrap_or (slice_get left 1) Null) two.two_there in
      record {
        one_fits = candidate_fits k sound (unwrap_or (slice_get left 0) Null) is_one.0;
        two_fits = candidate_fits k sound (unwrap_or (slice_get left 1) Null) is_two.0;
        different = two.different;
        one_free = free_is constants (unwrap_or (slice_get left 0) Null) is_one.1;
        two_free = free_is constants (unwrap_or (slice_get left 1) Null) is_two.1;
      }

  pub two_free : (k : Kind) → IsPlainKind k → IsSoundKind k → 2 + length constants ≤ length (candidates k)
      → AreTwoFree k constants (first_free k constants) (next_free k constants)
  two_free kind.Boolean plain sound enough = absurd plain
  two_free kind.Byte plain sound enough = left_two kind.Byte sound enough
  two_free kind.Int16 plain sound enough = left_two kind.Int16 sound enough
  two_free kind.Int32 plain sound enough = left_two kind.Int32 sound enough
  two_free kind.Int64 plain sound enough = left_two kind.Int64 sound enough
  two_free (kind.Text bound) plain sound enough = left_two (kind.Text bound) sound enough
  two_free (kind.Binary bound) plain sound enough = left_two (kind.Binary bound) sound enough
  two_free (kind.Enum enumeration) plain sound enough = absurd plain

-- without constants two of any kind, where an enumeration has two numbers
pub two_of_all : (k : Kind) → IsSoundKind k → 2 ≤ length (candidates k) → AreTwoFree k [] (first_free k []) (next_free k [])
two_of_all kind.Boolean sound enough = record {
  one_fits = tt;
  two_fits = tt;
  different = λ same. true≢false (ap flag_in (sym same));
  one_free = none_in_nil (Flag false);
  two_free = none_in_nil (Flag true);
}
two_of_all kind.Byte sound enough = two_free [] kind.Byte tt sound enough
two_of_all kind.Int16 sound enough = two_free [] kind.Int16 tt sound enough
two_of_all kind.Int32 sound enough = two_free [] kind.Int32 tt sound enough
two_of_all kind.Int64 sound enough = two_free [] kind.Int64 tt sound enough
two_of_all (kind.Text bound) sound enough = two_free [] (kind.Text bound) tt sound enough
two_of_all (kind.Binary bound) sound enough = two_free [] (kind.Binary bound) tt sound enough
two_of_all (kind.Enum enumeration) sound enough =
    let all : List Value = map Whole enumeration.members in
    let two : AreFirstTwo all (unwrap_or (slice_get all 0) Null) (unwrap_or (slice_get all 1) Null) = first_two Null all (candidates_apart (kind.Enum enumeration) sound) enough in
    record {
      one_fits = members_fit enumeration (unwrap_or (slice_get all 0) Null) two.one_there;
      two_fits = members_fit enumeration (unwrap_or (slice_get all 1) Null) two.two_there;
      different = two.different;
      one_free = none_in_nil (unwrap_or (slice_get all 0) Null);
      two_free = none_in_nil (unwrap_or (slice_get all 1) Null);
    }
