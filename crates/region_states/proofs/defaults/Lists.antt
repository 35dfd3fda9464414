-- Lists of numbers in order, items of a list that are left when others are taken away, and the first two items.
use Rattle.std.proofs.Common.{◌≡◌, ◌≢◌, ⊎_elim, ℕ, zero, suc, ◌+◌, ◌<◌, ◌≤◌, List, [], ◌∷◌, filter, length, slice_get, unwrap_or, Contains, true, Decides, refl, sym, ap, subst, arith}
use Rattle.std.specs.List.{list_any}
use Rattle.std.proofs.lemmas.Bool.Decides.{not_from_Decides}
use Rattle.std.proofs.lemmas.List.Elements.{All-contains}
use Rattle.std.proofs.lemmas.List.Filters.{length-filter_both}
use Rattle.std.proofs.lemmas.List.Kept.{AllPairs-cons, AllPairs-filter}
use Rattle.emc_base.specs.Lists.{AreApart}
use Rattle.emc_base.proofs.Lists.{all_from_members}
use Rattle.emc_base.proofs.Numbered.{filter_contains}
use Rattle.emc_base.proofs.facts.Tests.{not_true}
use Rattle.round_trip.specs.Words.{Value}
use Rattle.schema_laws.specs.state_demand.Selecting.{same_value}
use Rattle.schema_laws.proofs.state_demand.lists.Lists.{Decides-any, any_of, head_stands, member_cases, none_in_nil, of_any, tail_stands}
use Rattle.schema_laws.proofs.state_demand.writings.Selecting.{Decides-value}
use Rattle.cells.proofs.Few.{no_more}
use Rattle.regions.proofs.region_laws.lists.Choices.{pairs_head, pairs_nil}
use Rattle.region_states.specs.defaults.Candidates.{is_free}
use Rattle.schema_laws.specs.short_values.Numbers.{numbers_from}

-- numbers in order
pub numbers_length : (first count : ℕ) → length (numbers_from first count) ≡ count
numbers_length first zero = refl
numbers_length first (suc more) = ap suc (numbers_length (suc first) more)

pub numbers_within : (first count n : ℕ) → Contains (numbers_from first count) n → (first ≤ n) × (n < first + count)
numbers_within first zero n has = absurd (none_in_nil n has)
numbers_within first (suc more) n has = ⊎_elim
    (λ (here : n ≡ first). (omega (arith, here), omega (arith, here)))
    (λ (later : Contains (numbers_from (suc first) more) n).
    let rest = numbers_within (suc first) more n later in (omega (arith, rest.0), omega (arith, rest.1)))
    (member_cases first (numbers_from (suc first) more) n has)

pub numbers_apart : (first count : ℕ) → AreApart (numbers_from first count)
numbers_apart first zero = pairs_nil (λ one two. one ≢ two)
numbers_apart first (suc more) = AllPairs-cons (λ one two. one ≢ two) first (numbers_from (suc first) more)
    (all_from_members (λ n. first ≢ n) (numbers_from (suc first) more)
    (λ n has same. let rest = numbers_within (suc first) more n has in absurd (omega (arith, rest.0, same))))
    (numbers_apart (suc first) more)

-- what is none of the constants
pub Decides-constant : (constants : List Value) (v : Value) → Decides (list_any (same_value v) constants) (Contains constants v)
Decides-constant constants v = (
  λ told. let found = of_any (λ other. v ≡ other) constants ((Decides-any (same_value v) (λ other. v ≡ other) (Decides-value v) constants).0 told) in
      subst (Contains constants) (sym found.2) found.1,
  λ has. (Decides-any (same_value v) (λ other. v ≡ other) (Decides-value v) constants).1 (any_of (λ other. v ≡ other) constants v has refl),
)

pub free_is : (constants : List Value) (v : Value) → is_free constants v ≡ true → ¬ Contains constants v
free_is constants v free = not_from_Decides (list_any (same_value v) constants) (Decides-constant constants v) (not_true (list_any (same_value v) constants) free)

-- of different values no more are taken away than there are constants
pub left_over : (values constants : List Value) → AreApart values → length values ≤ length (filter (is_free constants) values) + length constants
left_over values constants apart =
    let taken : List Value = filter (λ v. list_any (same_value v) constants) values in
    let both : length taken + length (filter (is_free constants) values) ≡ length values =
    length-filter_both (λ v. list_any (same_value v) constants) (is_free constants) (λ v. refl) values in
    let fewer : length taken ≤ length constants = no_more taken constants
    (AllPairs-filter (λ one two. one ≢ two) (λ v. list_any (same_value v) constants) values apart)
    (all_from_members (Contains constants) taken (λ v has.
    (Decides-constant constants v).0 (filter_contains (λ v. list_any (same_value v) constants) values v has).1)) in
    omega (arith, both, fewer)

-- the first two of a list without repeats
pub record AreFirstTwo {X : Type 0} (xs : List X) (one two : X) : Type 0 where
  pub one_there : Contains xs one
  pub two_there : Contains xs two
  pub different : one ≢ two

pub first_two : {X : Type 0} (d : X) (xs : List X) → AreApart xs → 2 ≤ length xs → AreFirstTwo xs (unwrap_or (slice_get xs 0) d) (unwrap_or (slice_get xs 1) d)
first_two d [] apart long = absurd (omega (arith, long))
first_two d (x ∷ []) apart long = absurd (omega (arith, long))
first_two d (x ∷ y ∷ xs) apart long = record {
  one_there = head_stands x (y ∷ xs);
  two_there = tail_stands x (y ∷ xs) y (head_stands y xs);
  different = All-contains (λ z. x ≢ z) (y ∷ xs) y (pairs_head (λ one two. one ≢ two) x (y ∷ xs) apart) (head_stands y xs);
}
