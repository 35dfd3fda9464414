-- The arrows by all keys, one key after another.
use Rattle.std.proofs.Common.{◌≡◌, ⊎_elim, inl, inr, ◌↔◌, ◌++◌, ◌∷◌, ◌<◌, ℕ, List, [], length, All, Contains, sym, subst}
use Rattle.std.proofs.lemmas.List.Elements.{Contains-append_cases, Contains-append_left, Contains-append_right, Contains-push, Contains-push_cases}
use Rattle.std.proofs.lemmas.Option.{slice_get_within}
use Rattle.emc_base.proofs.Lists.{all_from_members}
use Rattle.emc_base.proofs.Members.{contains_nil}
use Rattle.round_trip.specs.Words.{ForeignKey}
use Rattle.arrow_orders.specs.Orders.{EndWithin}
use Rattle.row_orders.specs.declared.alteration.Alteration.{Alteration}
use Rattle.row_orders.specs.Waiting.{TellWaits, WaitsFor}
use Rattle.row_plans.specs.Waits.{AddsArrows, AreArrowsBy, AreEnds, HasArrow, WaitsBy}
use Rattle.row_plans.specs.declared.waiting.arrows.Arrow.{Arrow}

module _ (alterations : List Alteration) where
  -- arrows put behind others
  pub adds_arrows : (key : ForeignKey) (before more after : List Arrow) → ((i j : ℕ) → HasArrow more i j ↔ WaitsBy key alterations i j) → after ≡ before ++ more
      → AddsArrows key alterations before after
  adds_arrows key before more after are is i j =
      let arrow : Arrow = record { from = i; to = j } in
      let P : List Arrow → Type 0 = λ list. Contains list arrow in (
        λ has. ⊎_elim
            (λ (old : Contains before arrow). inl old)
            (λ (new : Contains more arrow). inr ((are i j).0 new))
            (Contains-append_cases before more arrow (subst P is has)),
        λ one. subst P (sym is) (⊎_elim
            (λ (old : Contains before arrow). Contains-append_left before more arrow old)
            (λ (waits : WaitsBy key alterations i j). Contains-append_right before more arrow ((are i j).1 waits))
            one),
      )

  -- no keys give none
  pub no_arrows : (arrows : List Arrow) → arrows ≡ [] → AreArrowsBy [] alterations arrows
  no_arrows arrows none i j =
      let P : List Arrow → Type 0 = λ list. Contains list (record { from = i; to = j }) in (
        λ has. absurd (contains_nil (record { from = i; to = j }) (subst P none has)),
        λ waits. absurd (contains_nil waits.key waits.is_key),
      )

  by_one : (keys : List ForeignKey) (key : ForeignKey) → Contains keys key → (i j : ℕ) → WaitsBy key alterations i j → WaitsFor keys alterations i j
  by_one keys key is_key i j waits = record {
    apart = waits.apart;
    one = waits.one;
    at_one = waits.at_one;
    other = waits.other;
    at_other = waits.at_other;
    key = key;
    is_key = is_key;
    by_key = waits.by_key;
  }

  by_key : (keys : List ForeignKey) (i j : ℕ) (waits : WaitsFor keys alterations i j) → WaitsBy waits.key alterations i j
  by_key keys i j waits = record { apart = waits.apart; one = waits.one; at_one = waits.at_one; other = waits.other; at_other = waits.at_other; by_key = waits.by_key }

  -- one more key
  pub one_key : (keys : List ForeignKey) (key : ForeignKey) (before after : List Arrow) → AreArrowsBy keys alterations before → AddsArrows key alterations before after
      → AreArrowsBy (keys ++ key ∷ []) alterations after
  one_key keys key before after so_far adds i j = (
    λ has. ⊎_elim
        (λ (old : HasArrow before i j).
        let waits = (so_far i j).0 old in
        by_one (keys ++ key ∷ []) waits.key (Contains-append_left keys (key ∷ []) waits.key waits.is_key) i j (by_key keys i j waits))
        (λ (new : WaitsBy key alterations i j). by_one (keys ++ key ∷ []) key (Contains-push keys key) i j new)
        ((adds i j).0 has),
    λ waits.
        let own = by_key (keys ++ key ∷ []) i j waits in
        let P : ForeignKey → Type 0 = λ one. WaitsBy one alterations i j in
        (adds i j).1 (⊎_elim
        (λ (old : Contains keys waits.key). inl ((so_far i j).1 (by_one keys waits.key old i j own)))
        (λ (last : key ≡ waits.key). inr (subst P (sym last) own))
        (Contains-push_cases keys key waits.key waits.is_key)),
  )

  module _ (keys : List ForeignKey) (arrows : List Arrow) (are : AreArrowsBy keys alterations arrows) where
    -- each arrow begins and ends at a place
    pub begin_within : All (λ arrow. arrow.from < length alterations) arrows
    begin_within = all_from_members (λ arrow. arrow.from < length alterations) arrows (λ arrow has.
        let waits = (are arrow.from arrow.to).0 has in
        slice_get_within alterations arrow.from waits.one waits.at_one)

    module _ (ends : List (List ℕ)) (listed : AreEnds (length alterations) arrows ends) where
      pub tell_waits : TellWaits keys alterations ends
      tell_waits = record { size = listed.size; waits = λ i j. (λ waits. (are i j).0 (listed.only i j waits), λ waits. listed.each i j ((are i j).1 waits)) }

      pub end_within : EndWithin ends
      end_within i j waits =
          let found = (are i j).0 (listed.only i j waits) in
          let P : ℕ → Type 0 = λ n. j < n in
          subst P (sym listed.size) (slice_get_within alterations j found.other found.at_other)
