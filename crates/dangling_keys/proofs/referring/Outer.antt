-- Of five rows of numbers one has none of four values.
use Rattle.std.proofs.Common.{◌≡◌, ⊎_elim, if◌then◌else◌, ℕ, ◌+◌, ◌*◌, ◌%◌, ◌<◌, ◌≤◌, ◌==◌, List, [], ◌∷◌, map, length, Contains, Bool, true, false, refl, sym, ap, subst, ◌∙◌, arith}
use Rattle.std.proofs.Math.Arith.{digits_mod}
use Rattle.std.proofs.lemmas.Bool.{cond_both}
use Rattle.std.proofs.lemmas.Bool.Decides.{Decides-eqb, not_from_Decides}
use Rattle.std.proofs.lemmas.List.{length-map}
use Rattle.std.proofs.lemmas.Str.{chars-encodes}
use Rattle.emc_base.proofs.FoundItems.{some_member}
use Rattle.emc_base.proofs.Mapped.{contains_map}
use Rattle.emc_base.proofs.Members.{contains_cons_cases, contains_nil}
use Rattle.emc_base.specs.declared.value.Kind.TheVariants as kind
use Rattle.round_trip.specs.Words.{Value, Kind}
use Rattle.schema_laws.specs.short_values.Fresh.{fresh, most_indices}
use Rattle.schema_laws.specs.short_values.Numbers.{letter, number}
use Rattle.schema_laws.proofs.short_values.Short.{one_scalar}
use Rattle.schema_laws.proofs.state_demand.lists.Lists.{Decides-any, of_any}
use Rattle.population.proofs.supporting.Least.{no_more}
use Rattle.population.proofs.supporting.Entities.{numbers_apart}
use Rattle.schema_laws.specs.short_values.Numbers.{numbers_from}
use Rattle.dangling_keys.specs.Outer.{IsOuter, is_taken, row_beside, row_of, row_of_letters, row_of_number}

-- the row of a number with so much more than a multiple of five
row_is : (n i row : ℕ) → row ≤ 4 → n + 3 ≡ i * 5 + row → row_of_number n ≡ row
row_is n i row few sum = ap (λ (m : ℕ). m % 5) sum ∙ digits_mod i (omega (arith, few))

number_row : (i row : ℕ) → row ≤ 4 → row_of (number (5 * i + row + 7)) ≡ row
number_row i row few = row_is (5 * i + row + 7) (i + 2) row few (omega (arith))

letter_row : (i row : ℕ) → row ≤ 4 → i < most_indices → row_of (letter (5 * i + row + 97)) ≡ row
letter_row i row few below =
    let code : ℕ = 5 * i + row + 97 in
    ap row_of_letters (chars-encodes (code ∷ []) (one_scalar code (omega (arith, few, below)))) ∙ row_is code (i + 20) row few (omega (arith))

-- a value of a row is of it
fresh_row : (k : Kind) (row i : ℕ) → row ≤ 4 → i < most_indices → row_of (fresh k row i) ≡ row
fresh_row kind.Boolean row i few below = number_row i row few
fresh_row kind.Byte row i few below = number_row i row few
fresh_row kind.Int16 row i few below = number_row i row few
fresh_row kind.Int32 row i few below = number_row i row few
fresh_row kind.Int64 row i few below = number_row i row few
fresh_row (kind.Text bound) row i few below = letter_row i row few below
fresh_row (kind.Binary bound) row i few below = number_row i row few
fresh_row (kind.Enum enumeration) row i few below = number_row i row few

module _ (values : List Value) (few : length values ≤ 4) where
  abbrev rows : List ℕ
  rows = map row_of values

  -- a row of which no value is
  pub free_outer : (row : ℕ) → row ≤ 4 → is_taken values row ≡ false → (value : Value) → Contains values value → IsOuter row value
  free_outer row small free value has k i below is =
      let told : row_of value ≡ row = ap row_of is ∙ fresh_row k row i small below in
      let P : Value → Type 0 = λ one. row_of one ≡ row in
      not_from_Decides (is_taken values row) (Decides-any (λ (one : Value). row_of one == row) P (λ one. Decides-eqb (row_of one) row) values) free (some_member P values value has told)

  taken_there : (row : ℕ) → is_taken values row ≡ true → Contains rows row
  taken_there row told =
      let P : Value → Type 0 = λ one. row_of one ≡ row in
      let found = of_any P values ((Decides-any (λ (one : Value). row_of one == row) P (λ one. Decides-eqb (row_of one) row) values).0 told) in
      subst (Contains rows) found.2 (contains_map row_of values found.0 found.1)

  abbrev five : List ℕ
  five = numbers_from 0 5

  -- all five are not taken
  not_all : is_taken values 0 ≡ true → is_taken values 1 ≡ true → is_taken values 2 ≡ true → is_taken values 3 ≡ true → is_taken values 4 ≡ true → ⊥
  not_all zero one two three four =
      let most = no_more (λ (a b : ℕ). a == b) Decides-eqb five rows (numbers_apart 0 5) each in
      let as_many : length rows ≡ length values = length-map values row_of in
      absurd (omega (arith, most, as_many, few))
    where
      each : (row : ℕ) → Contains five row → Contains rows row
      each row has = ⊎_elim
          (λ (is : row ≡ 0). subst (Contains rows) (sym is) (taken_there 0 zero))
          (λ (more : Contains (numbers_from 1 4) row). ⊎_elim
          (λ (is : row ≡ 1). subst (Contains rows) (sym is) (taken_there 1 one))
          (λ (more : Contains (numbers_from 2 3) row). ⊎_elim
          (λ (is : row ≡ 2). subst (Contains rows) (sym is) (taken_there 2 two))
          (λ (more : Contains (numbers_from 3 2) row). ⊎_elim
          (λ (is : row ≡ 3). subst (Contains rows) (sym is) (taken_there 3 three))
          (λ (more : Contains (numbers_from 4 1) row). ⊎_elim
          (λ (is : row ≡ 4). subst (Contains rows) (sym is) (taken_there 4 four))
          (λ (never : Contains (numbers_from 5 0) row). absurd (contains_nil row never))
          (contains_cons_cases 4 (numbers_from 5 0) row more))
          (contains_cons_cases 3 (numbers_from 4 1) row more))
          (contains_cons_cases 2 (numbers_from 3 2) row more))
          (contains_cons_cases 1 (numbers_from 2 3) row more))
          (contains_cons_cases 0 (numbers_from 1 4) row has)

  abbrev IsFree : ℕ → Type 0
  IsFree row = (row ≤ 4) × (is_taken values row ≡ false)

  last_free : is_taken values 0 ≡ true → is_taken values 1 ≡ true → is_taken values 2 ≡ true → is_taken values 3 ≡ true → IsFree 4
  last_free zero one two three = (omega arith, by (is_taken values 4) refl)
    where
      by : (b : Bool) → is_taken values 4 ≡ b → is_taken values 4 ≡ false
      by true told = absurd (not_all zero one two three told)
      by false told = told

  pub row_free : IsFree (row_beside values)
  row_free =
      cond_both (is_taken values 0) (if is_taken values 1 then (if is_taken values 2 then (if is_taken values 3 then 4 else 3) else 2) else 1) 0 IsFree
      (λ zero. cond_both (is_taken values 1) (if is_taken values 2 then (if is_taken values 3 then 4 else 3) else 2) 1 IsFree
      (λ one. cond_both (is_taken values 2) (if is_taken values 3 then 4 else 3) 2 IsFree
      (λ two. cond_both (is_taken values 3) 4 3 IsFree
      (λ three. last_free zero one two three)
      (λ told. (omega arith, told)))
      (λ told. (omega arith, told)))
      (λ told. (omega arith, told)))
      (λ told. (omega arith, told))

  -- the row that is chosen has none of them
  pub row_outer : (value : Value) → Contains values value → IsOuter (row_beside values) value
  row_outer value has = free_outer (row_beside values) row_free.0 row_free.1 value has
