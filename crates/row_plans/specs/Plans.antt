-- What is planned for the rows that differ.
-- Source: this project's; foreign keys that are checked at each statement.
use Rattle.std.specs.Prelude.{All}
use Rattle.round_trip.specs.Words.{AreTables, StoreModel, Tables}
use Rattle.round_trip.specs.soundness.Stores.{IsSoundStore}
use Rattle.keyed_rows.specs.row_differences.SameButFree.{HaveRowsApart}
use Rattle.row_changes.specs.Differences.{AreBothLegal, AreDifference, IsChange}
use Rattle.row_changes.specs.Joined.{AreWithOneRest}
use Rattle.row_changes.specs.Orders.{IsCycle, StepLegal}
use Rattle.row_plans.specs.declared.plan.RowPlan.{RowPlan}
use Rattle.row_plans.specs.declared.plan.RowPlan.TheVariants.{Steps, Circular}

-- tables of a sound store, before and afterwards, of which no two rows of a table have one key
pub record AreKeyed (store : StoreModel) (old new : Tables) : Type 0 where
  pub sound : IsSoundStore store
  pub old_tables : AreTables store old
  pub new_tables : AreTables store new
  pub old_apart : HaveRowsApart store old
  pub new_apart : HaveRowsApart store new

-- all changes from the old tables to the new ones, in an order that keeps all keys; or a cycle of such changes
abbrev pub IsPlan : StoreModel → Tables → Tables → RowPlan → Type 0
IsPlan store old new (Steps changes) = AreDifference store old new changes × StepLegal store changes old
IsPlan store old new (Circular ring) = IsCycle store old new ring × All (IsChange store old new) ring

-- the same of all legal tables of which the old and the new ones are a part, with one rest
abbrev pub TellsPlan : StoreModel → Tables → Tables → RowPlan → Type 0
TellsPlan store old new plan = (rest before afterwards : Tables) → AreWithOneRest store old new rest before afterwards
    → AreBothLegal store before afterwards → IsPlan store before afterwards plan
