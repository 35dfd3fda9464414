-- Changes of the alterations at some places, each place once.
use Rattle.std.proofs.Common.{◌≡◌, ℕ, ◌<◌, List, get_or, AllPairs, sym, subst, ◌∙◌, arith}
use Rattle.std.proofs.lemmas.Option.{slice_get-get_or}
use Rattle.emc_base.specs.Lists.{AreApart, At}
use Rattle.emc_base.proofs.Lists.{same_place}
use Rattle.round_trip.specs.Words.{StoreModel, Tables}
use Rattle.arrow_orders.specs.Orders.{Waits}
use Rattle.row_changes.specs.declared.change.RowChange.{RowChange}
use Rattle.row_changes.specs.Differences.{AreBothLegal, IsChange}
use Rattle.row_changes.specs.Orders.{MustPrecede}
use Rattle.row_orders.specs.declared.alteration.Alteration.{Alteration}
use Rattle.row_orders.specs.Alterations.{AreAlterations, change_of}
use Rattle.row_orders.specs.Waiting.{TellWaits}
use Rattle.row_orders.proofs.matching.Altered.{is_change, same_altered}
use Rattle.row_orders.proofs.matching.Waited.{awaits, precedes}

-- what is so of the items at each two places is so by pairs
pub pairs_by_places : {X : Type 0} (R : X → X → Type 0) (xs : List X) → ((i j : ℕ) (x y : X) → At xs i x → At xs j y → i < j → R x y) → AllPairs R xs
pairs_by_places R xs holds = λ i j d below within.
    holds i j (get_or xs i d) (get_or xs j d) (slice_get-get_or xs i d (omega (arith, below, within))) (slice_get-get_or xs j d within) below

-- the change is that of the alteration at the place of this number
pub record IsFrom (store : StoreModel) (alterations : List Alteration) (places : List ℕ) (i : ℕ) (change : RowChange) : Type 0 where
  pub place : ℕ
  pub at_place : At places i place
  pub alteration : Alteration
  pub at_alteration : At alterations place alteration
  pub is : change ≡ change_of store alteration

module _ (store : StoreModel) (old new : Tables) (both : AreBothLegal store old new) (alterations : List Alteration) (are : AreAlterations store old new alterations)
    (ends : List (List ℕ)) (tell : TellWaits store.keys alterations ends) (places : List ℕ) where
  pub change_from : (i : ℕ) (change : RowChange) → IsFrom store alterations places i change → IsChange store old new change
  change_from i change from = subst (IsChange store old new) (sym from.is) (is_change store old new alterations are from.place from.alteration from.at_alteration)

  -- one number has each
  pub same_from : AreApart places → (i j : ℕ) (one other : RowChange) → IsFrom store alterations places i one → IsFrom store alterations places j other → one ≡ other → i ≡ j
  same_from once i j one other from to same =
      let changes : change_of store from.alteration ≡ change_of store to.alteration = sym from.is ∙ same ∙ to.is in
      let numbers : from.place ≡ to.place = same_altered store old new alterations are from.place to.place from.alteration to.alteration from.at_alteration to.at_alteration changes in
      same_place (λ (v : ℕ). v) places i j from.place to.place once from.at_place to.at_place numbers

  -- what is waited for has to come first, and the other way round
  module _ (i j : ℕ) (one other : RowChange) (from : IsFrom store alterations places i one) (to : IsFrom store alterations places j other) where
    pub first_of : Waits ends from.place to.place → MustPrecede store old new other one
    first_of waits =
        let P : RowChange × RowChange → Type 0 = λ p. MustPrecede store old new p.0 p.1 in
        let must = precedes store old new both alterations are from.place to.place from.alteration to.alteration from.at_alteration to.at_alteration ((tell.waits from.place to.place).0 waits) in
        subst P (λ k. (sym to.is k, sym from.is k)) must

    pub waits_of : MustPrecede store old new other one → Waits ends from.place to.place
    waits_of must =
        let P : RowChange × RowChange → Type 0 = λ p. MustPrecede store old new p.0 p.1 in
        let changes : MustPrecede store old new (change_of store to.alteration) (change_of store from.alteration) = subst P (λ k. (to.is k, from.is k)) must in
        (tell.waits from.place to.place).1 (awaits store old new both alterations are from.place to.place from.alteration to.alteration from.at_alteration to.at_alteration changes)
