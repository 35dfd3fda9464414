-- The changes of alterations in an order of their places.
-- Source: this project's.
use Rattle.std.specs.Prelude.{◌<◌, ℕ, List, All}
use Rattle.round_trip.specs.Words.{StoreModel}
use Rattle.arrow_orders.specs.declared.order.Order.{Order}
use Rattle.arrow_orders.specs.declared.order.Order.TheVariants.{Line, Ring}
use Rattle.row_orders.specs.declared.alteration.Alteration.{Alteration}
use Rattle.row_orders.specs.Alterations.{AreChangesAt, AreChangesRound}
use Rattle.row_plans.specs.declared.plan.RowPlan.{RowPlan}
use Rattle.row_plans.specs.declared.plan.RowPlan.TheVariants.{Steps, Circular}

-- the places are below a number
abbrev pub HasPlacesBelow : ℕ → Order → Type 0
HasPlacesBelow n (Line places) = All (λ place. place < n) places.items
HasPlacesBelow n (Ring places) = All (λ place. place < n) places.items

-- the changes along a line, or along a ring that is turned round
abbrev pub IsPlanOf : StoreModel → List Alteration → Order → RowPlan → Type 0
IsPlanOf store alterations (Line places) (Steps changes) = AreChangesAt store alterations places.items changes
IsPlanOf store alterations (Ring places) (Circular changes) = AreChangesRound store alterations places.items changes
IsPlanOf store alterations (Line places) (Circular changes) = ⊥
IsPlanOf store alterations (Ring places) (Steps changes) = ⊥
