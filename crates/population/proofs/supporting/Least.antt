-- The least list that holds some items and is closed under a step: what is found from its items is there already.
use Rattle.std.proofs.Common.{◌≡◌, ◌≢◌, ⊎_elim, All, ℕ, zero, suc, ◌+◌, ◌<◌, ◌≤◌, List, [], ◌∷◌, ◌++◌, length, Bool, true, false, not, Decides, Contains, refl, sym, ap, subst, ◌∙◌, arith}
use Rattle.std.specs.Cmp.{IsEquivalence}
use Rattle.std.specs.List.{flat_map, list_any}
use Rattle.std.proofs.lemmas.Bool.{cases_Bool, false_from_ne_true, not-true, not_from_false}
use Rattle.std.proofs.lemmas.Bool.Decides.{not_from_Decides}
use Rattle.std.proofs.lemmas.List.{length-append}
use Rattle.std.proofs.lemmas.List.Elements.{Contains-append_cases, Contains-append_left}
use Rattle.std.proofs.lemmas.List.Kept.{AllPairs-filter}
use Rattle.std.proofs.lemmas.Map.Made.{IsDistinct-from_AllPairs, is_member-Decides, length-le_from_is_member}
use Rattle.emc_base.specs.Lists.{AreApart}
use Rattle.emc_base.proofs.FoundItems.{contains_flat_map}
use Rattle.emc_base.proofs.Joined.{apart-append, in_flat_map}
use Rattle.emc_base.proofs.Lists.{all_from_members}
use Rattle.emc_base.proofs.Mapped.{contains_filter}
use Rattle.emc_base.proofs.Members.{contains_nil}
use Rattle.emc_base.proofs.Numbered.{filter_contains}
use Rattle.schema_laws.specs.state_demand.MadeTables.{distinct}
use Rattle.schema_laws.proofs.state_demand.lists.Distinct.{contains_distinct, distinct_apart, member_of_distinct}
use Rattle.population.specs.Least.{found_from, grown}

module _ {X : Type 0} (same : X → X → Bool) (decides : (x y : X) → Decides (same x y) (x ≡ y)) where
  equivalence : IsEquivalence same
  equivalence = record {
    refl = λ x. (decides x x).1 refl;
    symm = λ x y. ⊎_elim
        (λ (told : same x y ≡ true). told ∙ sym ((decides y x).1 (sym ((decides x y).0 told))))
        (λ (told : same x y ≡ false). told ∙ sym (false_from_ne_true (same y x) (λ also. not_from_Decides (same x y) (decides x y) told (sym ((decides y x).0 also)))))
        (cases_Bool (same x y));
    congr = λ x y z told. ap (λ w. same w z) ((decides x y).0 told);
  }

  -- different items of a list are no more than it has
  pub no_more : (xs ys : List X) → AreApart xs → ((x : X) → Contains xs x → Contains ys x) → length xs ≤ length ys
  no_more xs ys apart inside = length-le_from_is_member equivalence xs ys (IsDistinct-from_AllPairs decides xs apart)
      (λ x told. (is_member-Decides decides ys x).1 (inside x ((is_member-Decides decides xs x).0 told)))

  -- whether an item stands in the list
  pub Decides-among : (xs : List X) (x : X) → Decides (list_any (same x) xs) (Contains xs x)
  Decides-among xs x = is_member-Decides decides xs x

  module _ (step : X → List X) where
    -- what is found stands beside the items, and comes from one of them
    found_beside : (items : List X) (x : X) → Contains (found_from same step items) x → ¬ Contains items x
    found_beside items x has =
        let told = (filter_contains (λ item. not (list_any (same item) items)) (distinct same (flat_map step items)) x has).1 in
        not_from_Decides (list_any (same x) items) (Decides-among items x) (not-true (list_any (same x) items) told)

    found_by : (items : List X) (x : X) → Contains (found_from same step items) x → Contains (flat_map step items) x
    found_by items x has = member_of_distinct same decides (flat_map step items) x (filter_contains (λ item. not (list_any (same item) items)) (distinct same (flat_map step items)) x has).0

    -- a step from an item leads to an item, or to what is found
    found_or_there : (items : List X) (x y : X) → Contains items x → Contains (step x) y → found_from same step items ≡ [] → Contains items y
    found_or_there items x y has leads none = ⊎_elim
        (λ (there : list_any (same y) items ≡ true). (Decides-among items y).0 there)
        (λ (beside : list_any (same y) items ≡ false).
        let listed : Contains (distinct same (flat_map step items)) y = contains_distinct same decides (flat_map step items) y (contains_flat_map step items x y has leads) in
        let found : Contains (found_from same step items) y = contains_filter (λ item. not (list_any (same item) items)) (distinct same (flat_map step items)) y listed
        (not_from_false (list_any (same y) items) beside) in
        absurd (contains_nil y (subst (λ list. Contains list y) none found)))
        (cases_Bool (list_any (same y) items))

    next_apart : (items : List X) → AreApart items → AreApart (items ++ found_from same step items)
    next_apart items apart =
        let found : List X = found_from same step items in
        apart-append (λ x y. x ≢ y) items found apart
        (AllPairs-filter (λ x y. x ≢ y) (λ item. not (list_any (same item) items)) (distinct same (flat_map step items)) (distinct_apart same decides (flat_map step items)))
        (all_from_members (λ x. All (λ y. x ≢ y) found) items (λ x has. all_from_members (λ y. x ≢ y) found (λ y is alike. found_beside items y is (subst (Contains items) alike has))))

    -- what is there stays
    pub grown_holds : (n : ℕ) (items : List X) (x : X) → Contains items x → Contains (grown same step n items) x
    grown_holds zero items x has = has
    grown_holds (suc n) items x has =
        let found : List X = found_from same step items in
        grown_holds n (items ++ found) x (Contains-append_left items found x has)

    -- no item comes twice
    pub grown_apart : (n : ℕ) (items : List X) → AreApart items → AreApart (grown same step n items)
    grown_apart zero items apart = apart
    grown_apart (suc n) items apart = grown_apart n (items ++ found_from same step items) (next_apart items apart)

    -- what holds of the items, and of what a step leads to from where it holds, holds of all that come
    pub grown_least : (P : X → Type 0) → ((x y : X) → P x → Contains (step x) y → P y) → (n : ℕ) (items : List X) → ((x : X) → Contains items x → P x)
        → (x : X) → Contains (grown same step n items) x → P x
    grown_least P keeps zero items holds x has = holds x has
    grown_least P keeps (suc n) items holds x has =
        let found : List X = found_from same step items in
        grown_least P keeps n (items ++ found) (λ y is. ⊎_elim
        (λ (old : Contains items y). holds y old)
        (λ (new : Contains found y). let from = in_flat_map step items y (found_by items y new) in keeps from.0 y (holds from.0 from.1) from.2)
        (Contains-append_cases items found y is)) x has

    -- where all that can come is in a list that is shorter than the items and the rounds together, a step leads out no more
    pub grown_closed : (universe : List X) → ((x y : X) → Contains universe x → Contains (step x) y → Contains universe y) → (n : ℕ) (items : List X) → AreApart items
        → ((x : X) → Contains items x → Contains universe x) → length universe < n + length items
        → (x y : X) → Contains (grown same step n items) x → Contains (step x) y → Contains (grown same step n items) y
    grown_closed universe keeps zero items apart inside short x y has leads =
        let fewer : length items ≤ length universe = no_more items universe apart inside in absurd (omega (arith, fewer, short))
    grown_closed universe keeps (suc n) items apart inside short x y has leads =
        by (found_from same step items) refl
        (λ longer. grown_closed universe keeps n (items ++ found_from same step items) (next_apart items apart) within longer x y has leads)
      where
        within : (z : X) → Contains (items ++ found_from same step items) z → Contains universe z
        within z is = ⊎_elim
            (λ (old : Contains items z). inside z old)
            (λ (new : Contains (found_from same step items) z). let from = in_flat_map step items z (found_by items z new) in keeps from.0 z (inside from.0 from.1) from.2)
            (Contains-append_cases items (found_from same step items) z is)

        by : (found : List X) → found_from same step items ≡ found
            → (length universe < n + length (items ++ found_from same step items) → Contains (grown same step (suc n) items) y)
            → Contains (grown same step (suc n) items) y
        by [] none more =
            let all : (z : X) → Contains (grown same step n (items ++ found_from same step items)) z → Contains items z =
            grown_least (Contains items) (λ a b is to. found_or_there items a b is to none) n (items ++ found_from same step items) (λ z is. ⊎_elim
            (λ (old : Contains items z). old)
            (λ (new : Contains (found_from same step items) z). absurd (contains_nil z (subst (λ list. Contains list z) none new)))
            (Contains-append_cases items (found_from same step items) z is)) in
            grown_holds (suc n) items y (found_or_there items x y (all x has) leads none)
        by (first ∷ rest) some more =
            let longer : length (found_from same step items) ≡ suc (length rest) = ap length some in
            let long : length (items ++ found_from same step items) ≡ length items + length (found_from same step items) = length-append items (found_from same step items) in
            more (omega (arith, short, long, longer))
