-- Kinds that correspond and values in domains: that they do holds where it can't but hold.
use Rattle.std.proofs.Common.{◌≡◌, ◌≢◌, ⊎_elim, ℕ, zero, suc, ◌<◌, pos, negsuc, Option, Some, None, refl, sym, ap, subst, ◌∙◌, arith}
use Rattle.std.specs.Ordering.{int_eq}
use Rattle.std.specs.Set.{is_member}
use Rattle.std.proofs.lemmas.Bool.{cases_eq}
use Rattle.std.proofs.lemmas.Bool.Decides.{Decides-int_eq}
use Rattle.std.proofs.lemmas.Map.Made.{is_member-Decides}
use Rattle.emc_base.specs.declared.value.Kind.TheVariants as kind
use Rattle.emc_base.specs.declared.value.Under.{Under}
use Rattle.emc_base.specs.declared.value.Under.TheVariants as under
use Rattle.emc_base.specs.declared.value.Value.TheVariants as value
use Rattle.round_trip.specs.Words.{InDomain, Kind, Value}
use Rattle.round_trip.specs.soundness.Kinds.{Corresponds, IsNoSmaller, under_kind}
use Rattle.emc_base.proofs.Stable.{stable}
use Rattle.emc_base.proofs.facts.Domains.{between_stable, bytes_stable, text_stable, within_stable}

-- a number for each kind without parts, and larger ones for the others
abbrev number_of : Kind → ℕ
number_of kind.Byte = 0
number_of kind.Int16 = 1
number_of kind.Int32 = 2
number_of kind.Int64 = 3
number_of kind.Boolean = 4
number_of (kind.Text bound) = 5
number_of (kind.Binary bound) = 6
number_of (kind.Enum enumeration) = 7

-- the kind without parts that has a number
abbrev numbered : ℕ → Kind
numbered zero = kind.Byte
numbered (suc zero) = kind.Int16
numbered (suc (suc zero)) = kind.Int32
numbered (suc (suc (suc zero))) = kind.Int64
numbered _ = kind.Boolean

by_number : (k : Kind) → number_of k < 5 → numbered (number_of k) ≡ k
by_number kind.Byte small = refl
by_number kind.Int16 small = refl
by_number kind.Int32 small = refl
by_number kind.Int64 small = refl
by_number kind.Boolean small = refl
by_number (kind.Text bound) small = absurd (omega arith)
by_number (kind.Binary bound) small = absurd (omega arith)
by_number (kind.Enum enumeration) small = absurd (omega arith)

-- a kind without parts is another
plain : (one other : Kind) → number_of one < 5 → ¬ (one ≢ other) → one ≡ other
plain one other small never = ⊎_elim
    (λ (same : number_of one ≡ number_of other).
    let P : ℕ → Type 0 = λ n. n < 5 in
    sym (by_number one small) ∙ ap numbered same ∙ by_number other (subst P same small))
    (λ (differ : number_of one ≢ number_of other). absurd (never (λ is. differ (ap number_of is))))
    (cases_eq (number_of one) (number_of other))

-- a bound is no smaller than another
no_smaller : (first second : Option ℕ) → ¬ (¬ IsNoSmaller first second) → IsNoSmaller first second
no_smaller first None never = tt
no_smaller None (Some second) never = absurd (never (λ no. no))
no_smaller (Some first) (Some second) never = within_stable (Some second) first never

-- V29
pub corresponds : (property column : Kind) → ¬ (¬ Corresponds property column) → Corresponds property column
corresponds kind.Byte column never = plain kind.Byte column (omega arith) never
corresponds kind.Int16 column never = plain kind.Int16 column (omega arith) never
corresponds kind.Int32 column never = plain kind.Int32 column (omega arith) never
corresponds kind.Int64 column never = plain kind.Int64 column (omega arith) never
corresponds kind.Boolean column never = plain kind.Boolean column (omega arith) never
corresponds (kind.Text bound) (kind.Text most) never = no_smaller bound most never
corresponds (kind.Text bound) column never = absurd (never (λ same. absurd cc))
corresponds (kind.Binary bound) (kind.Binary most) never = no_smaller bound most never
corresponds (kind.Binary bound) column never = absurd (never (λ same. absurd cc))
corresponds (kind.Enum enumeration) column never = sym (plain (under_kind enumeration.under) column (small enumeration.under) (λ other. never (λ is. other (sym is))))
  where
    small : (u : Under) → number_of (under_kind u) < 5
    small under.Byte = omega arith
    small under.Int16 = omega arith
    small under.Int32 = omega arith
    small under.Int64 = omega arith

-- a value lies in a domain
pub lies : (v : Value) (k : Kind) → ¬ (¬ InDomain v k) → InDomain v k
lies (value.Whole number) kind.Byte never = between_stable (pos 0) (pos 255) number never
lies (value.Whole number) kind.Int16 never = between_stable (negsuc 32767) (pos 32767) number never
lies (value.Whole number) kind.Int32 never = between_stable (negsuc 2147483647) (pos 2147483647) number never
lies (value.Whole number) kind.Int64 never = between_stable (negsuc 9223372036854775807) (pos 9223372036854775807) number never
lies (value.Whole number) (kind.Enum enumeration) never = stable (is_member int_eq enumeration.members number) (is_member-Decides Decides-int_eq enumeration.members number) never
lies (value.Flag flag) kind.Boolean never = tt
lies (value.Text text) (kind.Text bound) never = text_stable bound text never
lies (value.Bytes bytes) (kind.Binary bound) never = bytes_stable bound bytes never
lies v k never = absurd (never (λ no. no))
