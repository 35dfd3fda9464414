-- Which candidate stands at which place.
use Rattle.std.proofs.Common.{◌≡◌, ◌≢◌, ◌+◌, ◌<◌, ℕ, ℤ, zero, suc, List, length, map, Option, Some, refl, sym, ap, subst, ◌∙◌, zero-add, arith}
use Rattle.std.proofs.lemmas.List.{length-map}
use Rattle.emc_base.specs.Lists.{At}
use Rattle.emc_base.specs.declared.value.EnumKind.{EnumKind}
use Rattle.emc_base.specs.declared.value.Kind.TheVariants as kind
use Rattle.emc_base.proofs.Joined.{at_map}
use Rattle.round_trip.specs.Words.{Whole, Kind}
use Rattle.region_states.specs.defaults.Candidates.{candidates}
use Rattle.schema_laws.specs.short_values.Numbers.{letter, number, numbers_from}
use Rattle.region_states.proofs.defaults.Lists.{numbers_length}

number_at : (first count i : ℕ) → i < count → At (numbers_from first count) i (i + first)
number_at first zero i within = absurd (omega arith)
number_at first (suc more) zero within = ap Some (sym (zero-add first))
number_at first (suc more) (suc i) within =
    let next : i + suc first ≡ suc i + first = omega arith in
    number_at (suc first) more i (omega arith) ∙ ap Some next

-- the text of a character
pub letter_at : (i : ℕ) → i < length (map letter (numbers_from 97 100)) → At (map letter (numbers_from 97 100)) i (letter (i + 97))
letter_at i within = at_map letter (numbers_from 97 100) i (i + 97)
    (number_at 97 100 i (omega (arith, within, length-map (numbers_from 97 100) letter, numbers_length 97 100)))

-- a number
pub whole_at : (i : ℕ) → i < length (map number (numbers_from 0 100)) → At (map number (numbers_from 0 100)) i (number i)
whole_at i within =
    let is : i + 0 ≡ i = omega arith in
    let P : ℕ → Type 0 = λ n. At (numbers_from 0 100) i n in
    at_map number (numbers_from 0 100) i i
    (subst P is (number_at 0 100 i (omega (arith, within, length-map (numbers_from 0 100) number, numbers_length 0 100))))

-- a number of an enumeration
pub member_at : (members : List ℤ) (i : ℕ) (n : ℤ) → At members i n → At (map Whole members) i (Whole n)
member_at members i n here = at_map Whole members i n here

-- a number of a kind that has numbers for candidates
pub plain_at : (k : Kind) → k ≢ kind.Boolean → ((bound : Option ℕ) → k ≢ kind.Text bound) → ((bound : Option ℕ) → k ≢ kind.Binary bound)
    → ((enumeration : EnumKind) → k ≢ kind.Enum enumeration) → (i : ℕ) → i < length (candidates k) → At (candidates k) i (number i)
plain_at kind.Boolean no_flag no_text no_bytes no_enum i within = absurd (no_flag refl)
plain_at kind.Byte no_flag no_text no_bytes no_enum i within = whole_at i within
plain_at kind.Int16 no_flag no_text no_bytes no_enum i within = whole_at i within
plain_at kind.Int32 no_flag no_text no_bytes no_enum i within = whole_at i within
plain_at kind.Int64 no_flag no_text no_bytes no_enum i within = whole_at i within
plain_at (kind.Text bound) no_flag no_text no_bytes no_enum i within = absurd (no_text bound refl)
plain_at (kind.Binary bound) no_flag no_text no_bytes no_enum i within = absurd (no_bytes bound refl)
plain_at (kind.Enum enumeration) no_flag no_text no_bytes no_enum i within = absurd (no_enum enumeration refl)
