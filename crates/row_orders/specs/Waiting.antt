-- Which alterations wait for which.
-- Source: SSDL version 3, ReferentialConstraint; foreign keys that are checked at each statement.
use Rattle.std.specs.Prelude.{◌≡◌, ◌≢◌, ◌⊎◌, ◌↔◌, ℕ, List, Contains, Some, None, length}
use Rattle.emc_base.specs.Lists.{At}
use Rattle.round_trip.specs.Words.{ForeignKey, Row}
use Rattle.arrow_orders.specs.Orders.{Waits}
use Rattle.row_changes.specs.Orders.{RefersTo}
use Rattle.row_orders.specs.declared.alteration.Alteration.{Alteration}
use Rattle.row_orders.specs.Alterations.{new_row, old_row}

-- the one's row refers afterwards to the other's, which comes
pub record WaitsToRefer (key : ForeignKey) (one other : Alteration) : Type 0 where
  pub from : one.table ≡ key.from
  pub row : Row
  pub shows : new_row one ≡ Some row
  pub to : other.table ≡ key.to
  pub target : Row
  pub missing : old_row other ≡ None
  pub comes : new_row other ≡ Some target
  pub refers : RefersTo key row target

-- the one's row goes, to which the other's referred before
pub record WaitsToGo (key : ForeignKey) (one other : Alteration) : Type 0 where
  pub to : one.table ≡ key.to
  pub target : Row
  pub stood : old_row one ≡ Some target
  pub gone : new_row one ≡ None
  pub from : other.table ≡ key.from
  pub row : Row
  pub showed : old_row other ≡ Some row
  pub refers : RefersTo key row target

-- the alteration at a place waits for that at another, by one of the keys
pub record WaitsFor (keys : List ForeignKey) (alterations : List Alteration) (i j : ℕ) : Type 0 where
  pub apart : i ≢ j
  pub one : Alteration
  pub at_one : At alterations i one
  pub other : Alteration
  pub at_other : At alterations j other
  pub key : ForeignKey
  pub is_key : Contains keys key
  pub by_key : WaitsToRefer key one other ⊎ WaitsToGo key one other

-- for each alteration those that it waits for are listed
pub record TellWaits (keys : List ForeignKey) (alterations : List Alteration) (ends : List (List ℕ)) : Type 0 where
  pub size : length ends ≡ length alterations
  pub waits : (i j : ℕ) → Waits ends i j ↔ WaitsFor keys alterations i j
