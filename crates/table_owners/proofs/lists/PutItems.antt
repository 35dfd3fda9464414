-- Items that put something in places of a list, one after another.
use Rattle.std.proofs.Common.{◌≡◌, ◌≢◌, inl, inr, ℕ, ◌+◌, ◌<◌, ◌≤◌, List, length, set, length-set, refl, subst, ◌∙◌, arith}
use Rattle.std.proofs.lemmas.Bool.{cases_eq}
use Rattle.std.proofs.lemmas.Option.{slice_get_within}
use Rattle.emc_base.specs.Lists.{At}
use Rattle.emc_base.proofs.Lists.{at_once}
use Rattle.groupings.proofs.linked_places.Lists.{at_before_set, at_set}
use Rattle.table_owners.specs.Puts.{IsSpared, Puts}

module _ {X V : Type 0} (place : X → ℕ) (IsBy : ℕ → X → V → Type 0) (items : List X) where
  -- before the first
  pub none_put : (list : List V) → Puts place IsBy items 0 list list
  none_put list = record { size = refl; each = λ k value here. inr (here, λ i item before. absurd (omega arith)) }

  -- after the last
  pub all_put : (n : ℕ) (before now : List V) → length items ≤ n → Puts place IsBy items n before now → Puts place IsBy items (length items) before now
  all_put n before now end so_far = record {
    size = so_far.size;
    each = λ k value here. elim (so_far.each k value here) [
      | inl put ↦ inl (put.0, put.1, slice_get_within items put.0 put.1 put.3, put.3, put.4, put.5)
      | inr kept ↦ inr (kept.0, λ i item within. kept.1 i item (omega arith))
    ];
  }

  module _ (n : ℕ) (item : X) (here : At items n item) (value : V) (by : IsBy n item value) (before now : List V) (so_far : Puts place IsBy items n before now) where
    -- what stands at its place is what it puts there
    is_put : (k : ℕ) (other : V) → place item ≡ k → At (set now (place item) value) k other → IsBy n item other
    is_put k other same there =
        let P : ℕ → Type 0 = λ p. At (set now p value) k other in
        let too : At (set now k value) k other = subst P same there in
        let inside : k < length (set now k value) = slice_get_within (set now k value) k other too in
        subst (IsBy n item) (at_once (set now k value) k value other (at_set now k value (omega (arith, inside, length-set now k value))) too) by

    -- it spares the other places
    spares : (k : ℕ) → place item ≢ k → IsSpared place IsBy items n k → IsSpared place IsBy items (n + 1) k
    spares k apart spared i other within there = elim (cases_eq i n) [
      | inl last ↦
          let P : ℕ → Type 0 = λ j. At items j other in
          λ same. apart (subst (λ (x : X). place x ≡ k) (at_once items n other item (subst P last there) here) same)
      | inr earlier ↦ spared i other (omega arith) there
    ]

    -- one more
    pub one_put : Puts place IsBy items (n + 1) before (set now (place item) value)
    one_put = record {
      size = length-set now (place item) value ∙ so_far.size;
      each = λ k other there. elim (cases_eq (place item) k) [
        | inl same ↦ inl (n, item, (omega arith), here, same, is_put k other same there)
        | inr apart ↦ elim (so_far.each k other (at_before_set now (place item) k value other apart there)) [
          | inl put ↦ inl (put.0, put.1, (let within : put.0 < n = put.2 in omega arith), put.3, put.4, put.5)
          | inr kept ↦ inr (kept.0, spares k apart kept.1)
        ]
      ];
    }
