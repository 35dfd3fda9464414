-- The least breach that was found is the first breach, and what comes first among breaches of one rule.
use Rattle.std.proofs.Common.{◌≡◌, ◌≢◌, ⊎_elim, ℕ, ◌<◌, ◌≤◌, List, [], ◌∷◌, length, Some, None, refl, sym, subst, ◌∙◌, arith}
use Rattle.std.specs.declared.cmp.Ordering.{Ordering}
use Rattle.std.specs.declared.cmp.Ordering.TheVariants.{Less, Equal, Greater}
use Rattle.std.specs.Cmp.{nat_cmp_is, nat_cmp_total, tied_itself}
use Rattle.std.specs.Cmp.Lexicographic.{slice_cmp}
use Rattle.std.specs.Ordering.{nat_cmp, ordering_then}
use Rattle.std.proofs.lemmas.Bool.{cases_lt}
use Rattle.std.proofs.lemmas.Option.{get_or_from_slice_get, slice_get_within}
use Rattle.emc_base.specs.Lists.{At}
use Rattle.emc_base.proofs.Lists.{at_once}
use Rattle.emc_base.proofs.facts.Orderings.{not_greater}
use Rattle.groupings.specs.least_fault.Least.{IsLeast}
use Rattle.round_trip.specs.Words.{IsFirstBreach, Place}
use Rattle.entity_state.specs.breach_order.Founds.{found_cmp}
use Rattle.entity_state.specs.breach_order.Repeats.{IsRepeat, IsFirstRepeat, IsFoundRepeat}
use Rattle.entity_state.specs.declared.breach_order.found.Found.{Found}

-- of two orders, one after the other, the first alone may say Greater
first_not : (one rest : Ordering) → ordering_then one rest ≢ Greater → one ≢ Greater
first_not Less rest not = λ is. absurd cc
first_not Equal rest not = λ is. absurd cc
first_not Greater rest not = absurd (not refl)

-- numbers in their order, before whatever decides where they are equal and doesn't say Greater
upto_then : (one other : ℕ) (rest : Ordering) → one ≤ other → rest ≢ Greater → ordering_then (nat_cmp one other) rest ≢ Greater
upto_then one other rest upto not = ⊎_elim
    (λ (less : one < other). subst (λ (order : Ordering). ordering_then order rest ≢ Greater) (nat_cmp_is one other Less less) (λ is. absurd cc))
    (λ (late : other ≤ one). subst (λ (order : Ordering). ordering_then order rest ≢ Greater) (nat_cmp_is one other Equal (let is : one ≡ other = omega arith in is)) not)
    (cases_lt one other)

-- where no two are equal, nothing repeats
repeats_not : {X : Type 0} (items : List X) → IsFirstRepeat (λ (one : X) (other : X). one ≡ other) items None → (i : ℕ) → IsRepeat (λ (one : X) (other : X). one ≡ other) items i → ⊥
repeats_not items apart i repeat =
    let within : i < length items = slice_get_within items i repeat.item repeat.here in
    apart repeat.earlier i repeat.item repeat.before within
    (get_or_from_slice_get items repeat.earlier repeat.other repeat.item repeat.there ∙ repeat.like ∙ sym (get_or_from_slice_get items i repeat.item repeat.item repeat.here))

-- the least of what breaks the rules is the first breach
pub first_of_least : (Breaks : ℕ → List ℕ → Place → Type 0) (found : Found)
    → IsLeast found_cmp (λ other. Breaks other.rule other.spot other.place) (Some found)
    → IsFirstBreach Breaks (record { rule = found.rule; place = found.place })
first_of_least Breaks found is = record {
  spot = found.spot;
  broken = is.0;
  least = λ rule spot place breaks. not_greater found.rule rule
      (first_not (nat_cmp found.rule rule) (slice_cmp nat_cmp found.spot spot) (is.1 (record { rule = rule; spot = spot; place = place }) breaks));
  first = λ spot place breaks.
      (let P : Ordering → Type 0 = λ order. ordering_then order (slice_cmp nat_cmp found.spot spot) ≢ Greater in
      subst P (tied_itself nat_cmp_total found.rule) (is.1 (record { rule = found.rule; spot = spot; place = place }) breaks));
}

-- breaches of one rule in one list come in the order of their places in it
pub in_order : (rule n i k : ℕ) (one other : Place) → i ≤ k
    → found_cmp (record { rule = rule; spot = n ∷ i ∷ []; place = one }) (record { rule = rule; spot = n ∷ k ∷ []; place = other }) ≢ Greater
in_order rule n i k one other upto =
    let P : Ordering → Type 0 = λ order. ordering_then order (slice_cmp nat_cmp (n ∷ i ∷ []) (n ∷ k ∷ [])) ≢ Greater in
    let Q : Ordering → Type 0 = λ order. ordering_then order (slice_cmp nat_cmp (i ∷ []) (k ∷ [])) ≢ Greater in
    subst P (sym (tied_itself nat_cmp_total rule)) (subst Q (sym (tied_itself nat_cmp_total n)) (upto_then i k Equal upto (λ is. absurd cc)))

module _ {X : Type 0} (rule n : ℕ) (place_of : X → Place) (items : List X) where
  -- where no item repeats, none is found
  pub no_repeat_found : IsFirstRepeat (λ (one : X) (other : X). one ≡ other) items None → IsLeast found_cmp (IsFoundRepeat rule n place_of items) None
  no_repeat_found apart = λ found some. repeats_not items apart some.i some.repeat

  -- the first repeat is the least that is found
  pub first_repeat_found : (i : ℕ) (item : X) → At items i item → IsFirstRepeat (λ (one : X) (other : X). one ≡ other) items (Some i)
      → IsLeast found_cmp (IsFoundRepeat rule n place_of items) (Some (record { rule = rule; spot = n ∷ i ∷ []; place = place_of item }))
  first_repeat_found i item here first = (
    record { i = i; repeat = first.0; found_is = λ k. at_item (same k) },
    λ other some.
        (let late : i ≤ some.i = first.1 some.i some.repeat in
        let P : Found → Type 0 = λ found. found_cmp (at_item item) found ≢ Greater in
        subst P (sym some.found_is) (in_order rule n i some.i (place_of item) (place_of some.repeat.item) late)),
  )
    where
      same : item ≡ first.0.item
      same = at_once items i item first.0.item here first.0.here

      at_item : X → Found
      at_item x = record { rule = rule; spot = n ∷ i ∷ []; place = place_of x }
