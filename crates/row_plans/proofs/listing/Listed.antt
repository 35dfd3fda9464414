-- Changes at places: one place more, and the places turned round.
use Rattle.std.proofs.Common.{◌≡◌, ⊎_elim, ℕ, suc, ◌+◌, ◌-◌, ◌<◌, List, [], ◌∷◌, ◌++◌, length, get_or, reverse, Some, refl, sym, ap, subst, ◌∙◌, arith}
use Rattle.std.proofs.lemmas.List.{get_or-reverse, length-append, length-reverse}
use Rattle.std.proofs.lemmas.Option.{get_or_from_slice_get, slice_get-get_or, slice_get_within}
use Rattle.emc_base.specs.Lists.{At}
use Rattle.emc_base.proofs.Joined.{at_left, at_right}
use Rattle.emc_base.proofs.Lists.{at_once}
use Rattle.emc_base.proofs.Members.{at_push_cases}
use Rattle.round_trip.specs.Words.{StoreModel}
use Rattle.row_changes.specs.declared.change.RowChange.{RowChange}
use Rattle.row_orders.specs.declared.alteration.Alteration.{Alteration}
use Rattle.row_orders.specs.Alterations.{AreChangesAt, AreChangesRound, change_of}

module _ (store : StoreModel) (alterations : List Alteration) where
  -- no places, no changes
  pub none_listed : AreChangesAt store alterations [] []
  none_listed = record { size = refl; each = λ i place one at_place at_one. (let within = slice_get_within [] i place at_place in absurd (omega (arith, within))) }

  -- one place more
  pub one_listed : (places : List ℕ) (changes : List RowChange) (place : ℕ) (one : Alteration) → AreChangesAt store alterations places changes → At alterations place one
      → AreChangesAt store alterations (places ++ place ∷ []) (changes ++ change_of store one ∷ [])
  one_listed places changes place one are at_one = record {
    size = length-append changes (change_of store one ∷ []) ∙ ap (λ n. n + 1) are.size ∙ sym (length-append places (place ∷ []));
    each = λ i other alteration at_place at_alteration. ⊎_elim
        (λ (earlier : At places i other). at_left changes (change_of store one ∷ []) i (change_of store alteration) (are.each i other alteration earlier at_alteration))
        (λ (last : (i ≡ length places) × (other ≡ place)).
        let size = are.size in
        let number = last.0 in
        let here : At alterations place alteration = subst (λ (n : ℕ). At alterations n alteration) last.1 at_alteration in
        let same : change_of store one ≡ change_of store alteration = ap (change_of store) (at_once alterations place one alteration at_one here) in
        at_right changes (change_of store one ∷ []) 0 i (change_of store alteration) (omega (arith, size, number)) (ap Some same))
        (at_push_cases places place i other at_place);
  }

  -- an item stands as far from the end of a list that is turned round
  at_reversed : (places : List ℕ) (i j place : ℕ) → i + suc j ≡ length places → At places i place → At (reverse places) j place
  at_reversed places i j place sum here =
      let size = length-reverse places in
      let inside : j < length places = omega (arith, sum) in
      let number : length places - 1 - j ≡ i = omega (arith, sum) in
      slice_get-get_or (reverse places) j place (omega (arith, size, inside))
      ∙ ap Some (get_or-reverse places j place inside ∙ ap (λ k. get_or places k place) number ∙ get_or_from_slice_get places i place place here)

  -- changes at places turned round are those from the last place to the first
  pub turned_round : (places : List ℕ) (changes : List RowChange) → AreChangesAt store alterations (reverse places) changes → AreChangesRound store alterations places changes
  turned_round places changes are = record {
    size = are.size ∙ length-reverse places;
    each = λ i j place one sum at_place at_one. are.each j place one (at_reversed places i j place sum at_place) at_one;
  }
