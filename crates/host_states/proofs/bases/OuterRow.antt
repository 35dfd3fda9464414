-- Of five rows of numbers there is one of which a key of at most four parts has no value.
use Rattle.std.proofs.Common.{◌≡◌, ◌≢◌, ◌⊎◌, ⊎_elim, inl, inr, ℕ, ◌<◌, ◌≤◌, List, [], ◌∷◌, length, Contains, None, suc, refl, sym, ap, subst, ◌∙◌, arith}
use Rattle.std.proofs.lemmas.List.Kept.{AllPairs-cons}
use Rattle.std.proofs.lemmas.List.Elements.{All-contains}
use Rattle.emc_base.specs.Lists.{AreApart}
use Rattle.emc_base.specs.declared.value.Kind.TheVariants as kind
use Rattle.emc_base.proofs.Joined.{pairs_head, pairs_tail}
use Rattle.emc_base.proofs.Lists.{all_from_members}
use Rattle.emc_base.proofs.Members.{contains_cons_cases, contains_head, contains_nil, contains_tail}
use Rattle.round_trip.specs.Words.{Value, Kind}
use Rattle.schema_laws.specs.short_values.Fresh.{fresh, most_indices}
use Rattle.schema_laws.specs.short_values.Numbers.{numbers_from}
use Rattle.schema_laws.specs.state_demand.Selecting.{same_value}
use Rattle.schema_laws.proofs.short_values.Short.{fresh_apart}
use Rattle.schema_laws.proofs.state_demand.lists.Lists.{any_or_none}
use Rattle.schema_laws.proofs.state_demand.writings.Decisions.{so_or_not}
use Rattle.schema_laws.proofs.state_demand.writings.Selecting.{Decides-value}
use Rattle.population.proofs.supporting.Entities.{numbers_apart, smaller, smaller_there}
use Rattle.population.proofs.supporting.Least.{no_more}
use Rattle.host_states.specs.BaseStates.{IsOuterKey}

-- a value of the row is a number, or a text
two_sorts : (k : Kind) (outer i : ℕ) → (fresh k outer i ≡ fresh kind.Int32 outer i) ⊎ (fresh k outer i ≡ fresh (kind.Text None) outer i)
two_sorts kind.Boolean outer i = inl refl
two_sorts kind.Byte outer i = inl refl
two_sorts kind.Int16 outer i = inl refl
two_sorts kind.Int32 outer i = inl refl
two_sorts kind.Int64 outer i = inl refl
two_sorts (kind.Text bound) outer i = inr refl
two_sorts (kind.Binary bound) outer i = inl refl
two_sorts (kind.Enum enumeration) outer i = inl refl

module _ (most : ℕ) where
  -- the value is one of the row
  abbrev IsInRow : Value → ℕ → Type 0
  IsInRow v outer = (k : Kind) × (i : ℕ) × (i < most) × (v ≡ fresh k outer i)

  in_row_or_not : (v : Value) (outer : ℕ) → IsInRow v outer ⊎ ¬ IsInRow v outer
  in_row_or_not v outer = ⊎_elim
      (λ (some : (i : ℕ) × Contains (numbers_from 0 most) i × Either i). ⊎_elim
      (λ (is : v ≡ fresh kind.Int32 outer some.0). inl (kind.Int32, some.0, smaller most some.0 some.1, is))
      (λ (is : v ≡ fresh (kind.Text None) outer some.0). inl (kind.Text None, some.0, smaller most some.0 some.1, is))
      some.2)
      (λ (none : (i : ℕ) → Contains (numbers_from 0 most) i → ¬ Either i). inr (λ row.
      none row.1 (smaller_there most row.1 row.2) (⊎_elim
      (λ (is : fresh row.0 outer row.1 ≡ fresh kind.Int32 outer row.1). inl (row.3 ∙ is))
      (λ (is : fresh row.0 outer row.1 ≡ fresh (kind.Text None) outer row.1). inr (row.3 ∙ is))
      (two_sorts row.0 outer row.1))))
      (any_or_none Either either (numbers_from 0 most))
    where
      Either : ℕ → Type 0
      Either i = (v ≡ fresh kind.Int32 outer i) ⊎ (v ≡ fresh (kind.Text None) outer i)

      either : (i : ℕ) → Either i ⊎ ¬ Either i
      either i = ⊎_elim
          (λ (is : v ≡ fresh kind.Int32 outer i). inl (inl is))
          (λ (no_number : v ≢ fresh kind.Int32 outer i). ⊎_elim
          (λ (is : v ≡ fresh (kind.Text None) outer i). inl (inr is))
          (λ (no_text : v ≢ fresh (kind.Text None) outer i). inr (λ any. ⊎_elim no_number no_text any))
          (so_or_not (same_value v (fresh (kind.Text None) outer i)) (Decides-value v (fresh (kind.Text None) outer i))))
          (so_or_not (same_value v (fresh kind.Int32 outer i)) (Decides-value v (fresh kind.Int32 outer i)))

  -- of one row alone
  one_row : (v : Value) (outer other : ℕ) → outer ≤ 4 → other ≤ 4 → IsInRow v outer → IsInRow v other → outer ≡ other
  one_row v outer other few also one two = (fresh_apart one.0 two.0 outer other one.1 two.1 few also (sym one.3 ∙ two.3)).0

  module _ (key : List Value) where
    -- a row of which the key has no value, or has one
    abbrev IsOutside : ℕ → Type 0
    IsOutside outer = (v : Value) → Contains key v → ¬ IsInRow v outer

    outside_or_in : (outer : ℕ) → ((v : Value) × Contains key v × IsInRow v outer) ⊎ IsOutside outer
    outside_or_in outer = any_or_none (λ v. IsInRow v outer) (λ v. in_row_or_not v outer) key

    -- different values of the key, one for each of these rows
    record HaveValues (rows : List ℕ) : Type 0 where
      list : List Value
      count : length list ≡ length rows
      each : (v : Value) → Contains list v → Contains key v × (outer : ℕ) × Contains rows outer × IsInRow v outer
      apart : AreApart list

    have_values : (rows : List ℕ) → AreApart rows → ((outer : ℕ) → Contains rows outer → outer ≤ 4)
        → ((outer : ℕ) → Contains rows outer → (v : Value) × Contains key v × IsInRow v outer) → HaveValues rows
    have_values [] apart few some = record {
      list = [];
      count = refl;
      each = λ v there. absurd (contains_nil v there);
      apart = λ i j d below within. absurd (omega (arith, within));
    }
    have_values (outer ∷ rows) apart few some =
        let one = some outer (contains_head outer rows) in
        let rest : HaveValues rows = have_values rows (pairs_tail (λ (a b : ℕ). a ≢ b) outer rows apart) (λ other there. few other (contains_tail outer rows other there))
        (λ other there. some other (contains_tail outer rows other there)) in
        record {
          list = one.0 ∷ rest.list;
          count = ap suc rest.count;
          each = λ v there. ⊎_elim
              (λ (here : v ≡ one.0).
              let Told : Value → Type 0 = λ w. Contains key w × (other : ℕ) × Contains (outer ∷ rows) other × IsInRow w other in
              subst Told (sym here) (one.1, outer, contains_head outer rows, one.2))
              (λ (later : Contains rest.list v). let told = rest.each v later in (told.0, told.1, contains_tail outer rows told.1 told.2, told.3))
              (contains_cons_cases one.0 rest.list v there);
          apart = AllPairs-cons (λ a b. a ≢ b) one.0 rest.list (all_from_members (λ w. one.0 ≢ w) rest.list (λ w there equal.
              let told = rest.each w there in
              let rows_one = one_row w outer told.1 (few outer (contains_head outer rows)) (few told.1 (contains_tail outer rows told.1 told.2))
              (subst (λ u. IsInRow u outer) equal one.2) told.3 in
              All-contains (λ (other : ℕ). outer ≢ other) rows told.1 (pairs_head (λ (a b : ℕ). a ≢ b) outer rows apart) told.2 rows_one)) rest.apart;
        }

    outside : length key ≤ 4 → (outer : ℕ) × (outer ≤ 4) × IsOutside outer
    outside few = ⊎_elim
        (λ (some : (outer : ℕ) × Contains (numbers_from 0 5) outer × IsOutside outer). (some.0, small some.0 some.1, some.2))
        (λ (none : (outer : ℕ) → Contains (numbers_from 0 5) outer → ¬ IsOutside outer).
        let values : HaveValues (numbers_from 0 5) = have_values (numbers_from 0 5) (numbers_apart 0 5) small (λ outer there. ⊎_elim
        (λ (one : (v : Value) × Contains key v × IsInRow v outer). one)
        (λ (out : IsOutside outer). absurd (none outer there out))
        (outside_or_in outer)) in
        let count = values.count in
        let most_values = no_more same_value Decides-value values.list key values.apart (λ v there. (values.each v there).0) in
        absurd (omega (arith, few, count, most_values)))
        (any_or_none IsOutside (λ outer. ⊎_elim
        (λ (one : (v : Value) × Contains key v × IsInRow v outer). inr (λ out. out one.0 one.1 one.2))
        (λ (out : IsOutside outer). inl out)
        (outside_or_in outer)) (numbers_from 0 5))
      where
        small : (outer : ℕ) → Contains (numbers_from 0 5) outer → outer ≤ 4
        small outer there = let below = smaller 5 outer there in omega (arith, below)

pub outer_row : (key : List Value) → length key ≤ 4 → (outer : ℕ) × (outer ≤ 4) × IsOuterKey outer key
outer_row key few =
    let row = outside most_indices key few in
    (row.0, row.1, all_from_members (λ (v : Value). (k : Kind) (i : ℕ) → i < most_indices → v ≢ fresh k row.0 i) key (λ v there k i below equal. row.2 v there (k, i, below, equal)))
