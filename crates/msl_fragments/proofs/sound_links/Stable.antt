-- Facts on ids, kinds and values that can be tested: they hold where they can't but hold.
use Rattle.std.proofs.Common.{◌≡◌, ◌≢◌, ◌⊎◌, ⊎_elim, inl, inr, ℕ, ◌<◌, ◌≤◌, ◌==◌, pos, negsuc, List, [], ◌∷◌, get_or, int_eq, IsTrue, encode_utf8_all, All, Contains, Option, Some, None, refl, sym, ap, subst, ◌∙◌, arith}
use Rattle.std.specs.Bool.{Decides}
use Rattle.std.specs.Set.{is_member}
use Rattle.std.specs.Str.{all_scalars, chars}
use Rattle.std.proofs.lemmas.Bool.{cases_eq, cases_lt}
use Rattle.std.proofs.lemmas.Bool.Decides.{Decides-eqb, Decides-int_eq}
use Rattle.std.proofs.lemmas.List.Elements.{All-cons, All-contains, All-head, All-nil, All-tail}
use Rattle.std.proofs.lemmas.Map.Made.{is_member-Decides}
use Rattle.std.proofs.lemmas.Str.{chars-encodes}
use Rattle.emc_base.specs.declared.value.Kind.TheVariants as kind
use Rattle.emc_base.specs.declared.value.Under.{Under}
use Rattle.emc_base.specs.declared.value.Under.TheVariants as under
use Rattle.emc_base.specs.declared.value.Value.TheVariants as value
use Rattle.emc_base.proofs.Lists.{all_from_members}
use Rattle.round_trip.specs.Words.{ColId, InDomain, Kind, PropId, Value}
use Rattle.round_trip.specs.soundness.Kinds.{Corresponds, IsNoSmaller, under_kind}
use Rattle.emc_base.proofs.Stable.{stable, told}
use Rattle.emc_base.proofs.facts.Domains.{between_stable, bytes_stable, text_stable}

-- one of two facts that are so or aren't
pub or_told : {P Q : Type 0} → P ⊎ (¬ P) → Q ⊎ (¬ Q) → (P ⊎ Q) ⊎ (¬ (P ⊎ Q))
or_told (inl p) q = inl (inl p)
or_told (inr neither) (inl q) = inl (inr q)
or_told (inr neither) (inr nor) = inr (λ either. ⊎_elim neither nor either)

-- of each item of a list
pub all_told : {X : Type 0} (P : X → Type 0) → ((x : X) → P x ⊎ (¬ P x)) → (xs : List X) → All P xs ⊎ (¬ All P xs)
all_told P tells [] = inl (All-nil P)
all_told P tells (x ∷ xs) = by (tells x) (all_told P tells xs)
  where
    by : P x ⊎ (¬ P x) → All P xs ⊎ (¬ All P xs) → All P (x ∷ xs) ⊎ (¬ All P (x ∷ xs))
    by (inl first) (inl rest) = inl (All-cons P x xs first rest)
    by (inl first) (inr never) = inr (λ all. never (All-tail P x xs all))
    by (inr never) rest = inr (λ all. never (All-head P x xs all))

-- what can't but hold of each item holds of each item
pub all_stable : {X : Type 0} (P : X → Type 0) → ((x : X) → ¬ (¬ P x) → P x) → (xs : List X) → ¬ (¬ All P xs) → All P xs
all_stable P holds xs never = all_from_members P xs (λ x has. holds x (λ not. never (λ all. not (All-contains P xs x all has))))

-- ids are those of their places
same_prop : (one other : PropId) → Decides (one.index == other.index) (one ≡ other)
same_prop one other =
    let tells = Decides-eqb one.index other.index in
    (λ yes. (let same = tells.0 yes in λ i. record { index = same i }), λ same. tells.1 (ap (λ (prop : PropId). prop.index) same))

same_col : (one other : ColId) → Decides (one.index == other.index) (one ≡ other)
same_col one other =
    let tells = Decides-eqb one.index other.index in
    (λ yes. (let same = tells.0 yes in λ i. record { index = same i }), λ same. tells.1 (ap (λ (col : ColId). col.index) same))

-- a property, or a column, stands in a list or doesn't
pub prop_told : (props : List PropId) (prop : PropId) → Contains props prop ⊎ (¬ Contains props prop)
prop_told props prop = told (is_member (λ one other. one.index == other.index) props prop) (is_member-Decides same_prop props prop)

pub col_told : (cols : List ColId) (col : ColId) → Contains cols col ⊎ (¬ Contains cols col)
col_told cols col = told (is_member (λ one other. one.index == other.index) cols col) (is_member-Decides same_col cols col)

-- the second bound is no smaller
bounds_stable : (one other : Option ℕ) → ¬ (¬ IsNoSmaller one other) → IsNoSmaller one other
bounds_stable one None never = tt
bounds_stable None (Some second) never = absurd (never (λ no. no))
bounds_stable (Some first) (Some second) never = ⊎_elim
    (λ (above : second < first). absurd (never (λ no_smaller. let least : first ≤ second = no_smaller in omega arith)))
    (λ (fine : first ≤ second). fine)
    (cases_lt second first)

-- bytes spell just one list of characters
spelled_by : (characters bytes : List ℕ) → IsTrue (all_scalars characters) → encode_utf8_all characters ≡ bytes → chars bytes ≡ characters
spelled_by characters bytes scalar is = ap chars (sym is) ∙ chars-encodes characters scalar

-- a value lies in the domain of a kind
pub domain_stable : (v : Value) (k : Kind) → ¬ (¬ InDomain v k) → InDomain v k
domain_stable value.Null k never = absurd (never (λ no. no))
domain_stable (value.Whole number) kind.Byte never = between_stable (pos 0) (pos 255) number never
domain_stable (value.Whole number) kind.Int16 never = between_stable (negsuc 32767) (pos 32767) number never
domain_stable (value.Whole number) kind.Int32 never = between_stable (negsuc 2147483647) (pos 2147483647) number never
domain_stable (value.Whole number) kind.Int64 never = between_stable (negsuc 9223372036854775807) (pos 9223372036854775807) number never
domain_stable (value.Whole number) (kind.Enum enumeration) never = stable (is_member int_eq enumeration.members number) (is_member-Decides Decides-int_eq enumeration.members number) never
domain_stable (value.Whole number) k never = absurd (never (λ no. no))
domain_stable (value.Flag flag) kind.Boolean never = tt
domain_stable (value.Flag flag) k never = absurd (never (λ no. no))
domain_stable (value.Text text) (kind.Text bound) never = text_stable bound text never
domain_stable (value.Text text) k never = absurd (never (λ no. no))
domain_stable (value.Bytes bytes) (kind.Binary bound) never = bytes_stable bound bytes never
domain_stable (value.Bytes bytes) k never = absurd (never (λ no. no))

-- kinds without parts, numbered
abbrev number_of_kind : Kind → ℕ
number_of_kind kind.Byte = 0
number_of_kind kind.Int16 = 1
number_of_kind kind.Int32 = 2
number_of_kind kind.Int64 = 3
number_of_kind kind.Boolean = 4
number_of_kind _ = 5

abbrev kind_of_number : ℕ → Kind
kind_of_number number = get_or (kind.Byte ∷ kind.Int16 ∷ kind.Int32 ∷ kind.Int64 ∷ []) number kind.Boolean

numbered_back : (k : Kind) → number_of_kind k < 5 → kind_of_number (number_of_kind k) ≡ k
numbered_back kind.Byte few = refl
numbered_back kind.Int16 few = refl
numbered_back kind.Int32 few = refl
numbered_back kind.Int64 few = refl
numbered_back kind.Boolean few = refl
numbered_back k few = absurd (omega arith)

-- a kind is another, which has no parts
plain_stable : (one other : Kind) → number_of_kind one < 5 → ¬ (one ≢ other) → one ≡ other
plain_stable one other few never = ⊎_elim
    (λ (same : number_of_kind one ≡ number_of_kind other).
    sym (numbered_back one few) ∙ ap kind_of_number same ∙ numbered_back other (subst (λ number. number < 5) same few))
    (λ (differ : number_of_kind one ≢ number_of_kind other). absurd (never (λ same. differ (ap number_of_kind same))))
    (cases_eq (number_of_kind one) (number_of_kind other))

plain_under : (under : Under) → number_of_kind (under_kind under) < 5
plain_under under.Byte = omega arith
plain_under under.Int16 = omega arith
plain_under under.Int32 = omega arith
plain_under under.Int64 = omega arith

-- a column of the second kind holds what a property of the first does
pub corresponds_stable : (property column : Kind) → ¬ (¬ Corresponds property column) → Corresponds property column
corresponds_stable kind.Byte column never = plain_stable kind.Byte column (omega arith) never
corresponds_stable kind.Int16 column never = plain_stable kind.Int16 column (omega arith) never
corresponds_stable kind.Int32 column never = plain_stable kind.Int32 column (omega arith) never
corresponds_stable kind.Int64 column never = plain_stable kind.Int64 column (omega arith) never
corresponds_stable kind.Boolean column never = plain_stable kind.Boolean column (omega arith) never
corresponds_stable (kind.Enum enumeration) column never = sym (plain_stable (under_kind enumeration.under) column (plain_under enumeration.under) (λ no. never (λ same. no (sym same))))
corresponds_stable (kind.Text bound) (kind.Text column) never = bounds_stable bound column never
corresponds_stable (kind.Text bound) other never = absurd (never (λ same. absurd cc))
corresponds_stable (kind.Binary bound) (kind.Binary column) never = bounds_stable bound column never
corresponds_stable (kind.Binary bound) other never = absurd (never (λ same. absurd cc))
