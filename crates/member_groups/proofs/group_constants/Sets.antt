-- Values that come to the sets of groups, and the lists of these.
use Rattle.std.proofs.Common.{◌≡◌, ◌≢◌, ◌⊎◌, ◌↔◌, inl, inr, ℕ, ◌+◌, ◌<◌, List, true, true≢false, length, set, take, Contains, length-set, refl, sym, ap, subst, ◌∙◌, arith}
use Rattle.std.specs.Bool.{Decides}
use Rattle.std.specs.BTreeMap.{is_at}
use Rattle.std.specs.BTreeSet.{BTreeSet, Updates, contains}
use Rattle.std.specs.List.{list_any}
use Rattle.std.specs.Ordering.{is_eq}
use Rattle.std.proofs.lemmas.Bool.{cases_eq}
use Rattle.std.proofs.lemmas.Cmp.{tied_itself}
use Rattle.std.proofs.lemmas.Map.Views.{btree_set_contains_iff}
use Rattle.std.proofs.lemmas.Option.{slice_get_within}
use Rattle.emc_base.specs.Order.{value_cmp}
use Rattle.emc_base.specs.OrderLaws.{value_cmp_apart, value_cmp_total}
use Rattle.emc_base.proofs.Lists.{at_once}
use Rattle.emc_base.proofs.facts.Orderings.{is_equal}
use Rattle.round_trip.specs.Words.{Value, At}
use Rattle.groupings.proofs.linked_places.Lists.{at_before_set, at_set, at_set_other}
use Rattle.member_groups.specs.mapping_asks.Adding.{Adds, Each, EachBelow, Tells}
use Rattle.member_groups.specs.group_constants.Constants.{AddsIn, AreEmpty, AreListed, HasIn, IsListOf, ListsJust, Within}
use Rattle.member_groups.specs.group_numbers.Numbers.{HoldsEach}
use Rattle.member_groups.proofs.mapping_asks.Adding.{adds_as, adds_both, adds_key, adds_nothing, below_next, each_next}
use Rattle.member_groups.proofs.group_numbers.Holding.{holds_as}

abbrev Sets : Type 0
Sets = List (BTreeSet Value)

-- the order of values tells them apart
pub tells_value : (one other : Value) → Decides (is_eq (value_cmp one other)) (one ≡ other)
tells_value one other = (
  λ is. value_cmp_apart one other (is_equal (value_cmp one other) is),
  λ same. subst (λ (value : Value). is_eq (value_cmp one value) ≡ true) same (ap is_eq (tied_itself value_cmp_total one)),
)

-- one kind comes, and then another
pub adds_in_both : (P Q : ℕ × Value → Type 0) (before between after : Sets) → AddsIn P before between → AddsIn Q between after → AddsIn (λ entry. P entry ⊎ Q entry) before after
adds_in_both P Q before between after first second =
    let n = length before in
    let Comes : ℕ → Type 0 = λ count. Adds (Within count Q) (HasIn between) (HasIn after) in
    record {
      size = second.size ∙ first.size;
      more = adds_as (λ entry. Within n P entry ⊎ Within n Q entry) (Within n (λ entry. P entry ⊎ Q entry)) (HasIn before) (HasIn after)
          (λ entry. (
            λ either. elim either [
              | inl of_first ↦ (of_first.0, inl of_first.1)
              | inr of_second ↦ (of_second.0, inr of_second.1)
            ],
            λ some. elim some.1 [
              | inl of_first ↦ inl (some.0, of_first)
              | inr of_second ↦ inr (some.0, of_second)
            ],
          ))
          (adds_both (Within n P) (Within n Q) (HasIn before) (HasIn between) (HasIn after) first.more (subst Comes first.size second.more));
    }

-- of what comes another word may be said
pub adds_in_as : (P Q : ℕ × Value → Type 0) (before after : Sets) → Tells P Q → AddsIn P before after → AddsIn Q before after
adds_in_as P Q before after same added = record {
  size = added.size;
  more = adds_as (Within (length before) P) (Within (length before) Q) (HasIn before) (HasIn after)
      (λ entry. (λ some. (some.0, (same entry).0 some.1), λ some. (some.0, (same entry).1 some.1))) added.more;
}

-- nothing comes
pub adds_in_nothing : (P : ℕ × Value → Type 0) (sets : Sets) → ((entry : ℕ × Value) → entry.0 < length sets → ¬ P entry) → AddsIn P sets sets
adds_in_nothing P sets none = record { size = refl; more = adds_nothing (Within (length sets) P) (HasIn sets) (λ entry some. none entry some.0 some.1) }

-- by the next item of a list
pub adds_in_next : {X : Type 0} (P : X → ℕ × Value → Type 0) (xs : List X) (i : ℕ) (x : X) (before between after : Sets) → At xs i x → AddsIn (Each P (take i xs)) before between
    → AddsIn (P x) between after → AddsIn (Each P (take (i + 1) xs)) before after
adds_in_next P xs i x before between after here so_far more =
    adds_in_as (λ entry. Each P (take i xs) entry ⊎ P x entry) (Each P (take (i + 1) xs)) before after (each_next P xs i x here)
    (adds_in_both (Each P (take i xs)) (P x) before between after so_far more)

-- by the next number
pub adds_in_below : (P : ℕ → ℕ × Value → Type 0) (n : ℕ) (before between after : Sets) → AddsIn (EachBelow P n) before between → AddsIn (P n) between after
    → AddsIn (EachBelow P (n + 1)) before after
adds_in_below P n before between after so_far more =
    adds_in_as (λ entry. EachBelow P n entry ⊎ P n entry) (EachBelow P (n + 1)) before after (below_next P n)
    (adds_in_both (EachBelow P n) (P n) before between after so_far more)

-- one value comes to the set at a place
pub adds_value : (sets : Sets) (i : ℕ) (values now : BTreeSet Value) (value : Value) → At sets i values → Updates value_cmp values now value true
    → AddsIn (λ entry. entry ≡ (i, value)) sets (set sets i now)
adds_value sets i values now value here updates = record {
  size = length-set sets i now;
  more = record { each = λ entry. (gives entry (cases_eq i entry.0), λ some. takes entry (cases_eq i entry.0) some) };
}
  where
    inside : i < length sets
    inside = slice_get_within sets i values here

    added : Adds (λ other. other ≡ value) (λ other. contains value_cmp values other ≡ true) (λ other. contains value_cmp now other ≡ true)
    added = adds_key value_cmp tells_value values now value updates

    gives : (entry : ℕ × Value) → (i ≡ entry.0) ⊎ (i ≢ entry.0) → HasIn (set sets i now) entry → HasIn sets entry ⊎ Within (length sets) (λ other. other ≡ (i, value)) entry
    gives entry (inl same) has =
        let At_i : ℕ → Type 0 = λ k. At (set sets i now) k has.0 in
        let is : has.0 ≡ now = at_once (set sets i now) i has.0 now (subst At_i (sym same) has.1) (at_set sets i now inside) in
        let Has : BTreeSet Value → Type 0 = λ some. contains value_cmp some entry.1 ≡ true in
        let Here : ℕ → Type 0 = λ k. At sets k values in
        let Inside : ℕ → Type 0 = λ k. k < length sets in
        elim ((added.each entry.1).0 (subst Has is has.2)) [
          | inl old ↦ inl (values, subst Here same here, old)
          | inr new ↦ inr (subst Inside same inside, λ k. (sym same k, new k))
        ]
    gives entry (inr other) has = inl (has.0, at_before_set sets i entry.0 now has.0 other has.1, has.2)

    takes : (entry : ℕ × Value) → (i ≡ entry.0) ⊎ (i ≢ entry.0) → HasIn sets entry ⊎ Within (length sets) (λ other. other ≡ (i, value)) entry → HasIn (set sets i now) entry
    takes entry (inl same) either =
        let Here : ℕ → Type 0 = λ k. At (set sets i now) k now in
        let Old : ℕ → BTreeSet Value → Type 0 = λ k some. At sets k some in (
          now,
          subst Here same (at_set sets i now inside),
          (added.each entry.1).1 (elim either [
            | inl old ↦ let Has : BTreeSet Value → Type 0 = λ some. contains value_cmp some entry.1 ≡ true in
                let Old : ℕ → Type 0 = λ k. At sets k old.0 in
                inl (subst Has (at_once sets i old.0 values (subst Old (sym same) old.1) here) old.2)
            | inr new ↦ inr (ap (λ (e : ℕ × Value). e.1) new.1)
          ]),
        )
    takes entry (inr other) either = elim either [
      | inl old ↦ (old.0, at_set_other sets i entry.0 now old.0 other old.1, old.2)
      | inr new ↦ absurd (other (sym (ap (λ (e : ℕ × Value). e.0) new.1)))
    ]

-- the lists of sets to which just values of this kind came have just these
pub lists_told : (P : ℕ × Value → Type 0) (count : ℕ) (empty sets : Sets) (lists : List (List Value)) → AreEmpty count empty → AddsIn P empty sets → AreListed sets lists
    → HoldsEach (λ k. ListsJust (λ value. P (k, value))) count lists
lists_told P count empty sets lists none added listed =
    let same : length sets ≡ count = added.size ∙ none.size in
    let Listed : ℕ → List Value → Type 0 = λ k one. (own : BTreeSet Value) × At sets k own × IsListOf own one in
    let Holds : ℕ → Type 0 = λ n. HoldsEach (λ k. ListsJust (λ value. P (k, value))) n lists in
    subst Holds same (holds_as Listed (λ k. ListsJust (λ value. P (k, value))) just (length sets) lists listed)
  where
    never : (entry : ℕ × Value) → ¬ HasIn empty entry
    never entry has = true≢false (sym has.2 ∙ ap (list_any (is_at (value_cmp entry.1))) (none.each entry.0 has.0 has.1))

    just : (k : ℕ) (list : List Value) → (own : BTreeSet Value) × At sets k own × IsListOf own list → ListsJust (λ value. P (k, value)) list
    just k list (own, at, is) = record {
      sorted = is.sorted;
      each = λ value. (
        λ has. elim ((added.more.each (k, value)).0 (own, at, (stands value).1 (subst (λ (some : List Value). Contains some value) is.same has))) [
          | inl old ↦ absurd (never (k, value) old)
          | inr by ↦ by.1
        ],
        λ holds.
            (let inside : k < length sets = slice_get_within sets k own at in
            let size : length sets ≡ length empty = added.size in
            let has = (added.more.each (k, value)).1 (inr ((let within : k < length empty = omega (arith, inside, size) in within), holds)) in
            let Has : BTreeSet Value → Type 0 = λ some. contains value_cmp some value ≡ true in
            subst (λ (some : List Value). Contains some value) (sym is.same) ((stands value).0 (subst Has (at_once sets k has.0 own has.1 at) has.2))),
      );
    }
      where
        stands : (value : Value) → (contains value_cmp own value ≡ true) ↔ Contains own.keys value
        stands = btree_set_contains_iff value_cmp_total value_cmp_apart own
