-- What is told of an order of alterations is told of the changes.
use Rattle.std.proofs.Common.{◌≡◌, ⊎_elim, ℕ, zero, suc, ◌<◌, ◌≤◌, List, length, All, subst, arith}
use Rattle.std.proofs.lemmas.Bool.{cases_lt}
use Rattle.std.proofs.lemmas.Option.{slice_get_within}
use Rattle.emc_base.proofs.Joined.{all_from_places}
use Rattle.emc_base.proofs.Lists.{all_from_members, item_at}
use Rattle.round_trip.specs.Words.{StoreModel, Tables}
use Rattle.arrow_orders.specs.Orders.{IsLine, IsRing, TellsOrder, Waits}
use Rattle.arrow_orders.specs.declared.order.Order.{Order}
use Rattle.arrow_orders.specs.declared.order.Order.TheVariants.{Line, Ring}
use Rattle.row_changes.specs.Differences.{AreBothLegal}
use Rattle.row_orders.specs.declared.alteration.Alteration.{Alteration}
use Rattle.row_orders.specs.Alterations.{AreAlterations}
use Rattle.row_orders.specs.Waiting.{TellWaits}
use Rattle.row_orders.proofs.matching.Lined.{in_line}
use Rattle.row_orders.proofs.matching.Ringed.{in_ring}
use Rattle.row_plans.specs.Planned.{HasPlacesBelow, IsPlanOf}
use Rattle.row_plans.specs.Plans.{IsPlan, TellsPlan}
use Rattle.row_plans.specs.declared.plan.RowPlan.{RowPlan}
use Rattle.row_plans.specs.declared.plan.RowPlan.TheVariants.{Steps, Circular}
use Rattle.row_plans.proofs.altering.Joined.{same_alterations}

-- what waits is a place
waits_within : (ends : List (List ℕ)) (one other : ℕ) → Waits ends one other → one < length ends
waits_within ends one other waits = slice_get_within ends one waits.0 waits.1

-- the places of an order are places
module _ (ends : List (List ℕ)) where
  in_line_below : (places : List ℕ) → IsLine ends places → All (λ place. place < length ends) places
  in_line_below places line = all_from_members (λ place. place < length ends) places line.only

  in_ring_below : (places : List ℕ) → IsRing ends places → All (λ place. place < length ends) places
  in_ring_below places ring = all_from_places (λ place. place < length ends) places (λ i place here. ⊎_elim
      (λ (more : suc i < length places). let next = item_at places (suc i) more in waits_within ends place next.0 (ring.next i place next.0 here next.1))
      (λ (last : length places ≤ suc i).
      let within = slice_get_within places i place here in
      let some = ring.some in
      let first = item_at places zero (omega (arith, some)) in
      waits_within ends place first.0 (ring.closes first.0 place i first.1 here (omega (arith, within, last))))
      (cases_lt (suc i) (length places)))

  pub places_below : (n : ℕ) (order : Order) → length ends ≡ n → TellsOrder ends order → HasPlacesBelow n order
  places_below n (Line places) size line = subst (λ (m : ℕ). All (λ place. place < m) places.items) size (in_line_below places.items line)
  places_below n (Ring places) size ring = subst (λ (m : ℕ). All (λ place. place < m) places.items) size (in_ring_below places.items ring)

module _ (store : StoreModel) (old new : Tables) (alterations : List Alteration) (are : AreAlterations store old new alterations) (ends : List (List ℕ)) (tell : TellWaits store.keys alterations ends) where
  -- of the tables themselves, where they are legal
  is_plan : (before afterwards : Tables) → AreBothLegal store before afterwards → AreAlterations store before afterwards alterations → (order : Order) (plan : RowPlan)
      → TellsOrder ends order → IsPlanOf store alterations order plan → IsPlan store before afterwards plan
  is_plan before afterwards both whole (Line places) (Steps changes) line is = in_line store before afterwards both alterations whole ends tell places.items line changes is
  is_plan before afterwards both whole (Ring places) (Circular changes) ring is = in_ring store before afterwards both alterations whole ends tell places.items ring changes is
  is_plan before afterwards both whole (Line places) (Circular changes) line is = absurd is
  is_plan before afterwards both whole (Ring places) (Steps changes) ring is = absurd is

  -- and of all of which they are a part
  pub tells_plan : (order : Order) (plan : RowPlan) → TellsOrder ends order → IsPlanOf store alterations order plan → TellsPlan store old new plan
  tells_plan order plan tells is = λ rest before afterwards joined both.
      is_plan before afterwards both (same_alterations store old new rest before afterwards joined alterations are) order plan tells is
