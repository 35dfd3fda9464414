-- When changes of rows are planned for what is touched, and what is told then.
-- Source: this project's, as in the tables that an update keeps.
use Rattle.std.specs.Prelude.{◌≡◌, ◌+◌, ⊤, ℕ, List, Result, Ok, Err}
use Rattle.round_trip.specs.Words.{AreLegalTables, EntityModel, IsLegal, KeepsFree, State, StoreModel, Tables}
use Rattle.round_trip.specs.soundness.Stores.{IsSoundStore}
use Rattle.cells.specs.declared.cells.Cells.{Cells}
use Rattle.cells.specs.Cells.{is_free_in}
use Rattle.cells.specs.Parts.{CoverModel}
use Rattle.keyed_rows.specs.row_differences.SameButFree.{AreSameButFree, HasKeptKeys, HaveRowsApart}
use Rattle.entity_changes.specs.declared.touched.Touched.{Touched}
use Rattle.entity_changes.specs.Touching.{DifferOnlyAt}
use Rattle.row_changes.specs.declared.change.RowChange.{RowChange}
use Rattle.row_plans.specs.declared.plan.RowPlan.{RowPlan}
use Rattle.row_plans.specs.declared.plan.RowPlan.TheVariants.{Steps, Circular}
use Rattle.row_plans.specs.Plans.{IsPlan, TellsPlan}
use Rattle.delta_plan.specs.Keeping.{Free, HoldsHeld, HoldsKept}
use Rattle.delta_plan.specs.RowsOf.{AreTablesOf, Giving, rows_of}
use Rattle.delta_plan.specs.Steps.{raised}
use Rattle.delta_plan.specs.Units.{count_at}
use Rattle.delta_plan.specs.declared.planning.PlanFault.{PlanFault}
use Rattle.delta_plan.specs.declared.planning.PlanFault.TheVariants as fault

-- the tables hold the rows of a state, before, but for free cells; another state follows, which differs from it only at what is touched; and the kept
-- tables hold the rows of this, with free columns kept
pub record MayBePlanned (gives : Giving) (model : EntityModel) (store : StoreModel) (cells : Cells) (tables : Tables) (touched : Touched) (before after : State)
    (old_rows new_rows kept : Tables) : Type 0 where
  pub sound : IsSoundStore store
  pub cover : CoverModel model cells
  -- no column of a primary key is free
  pub keys_kept : HasKeptKeys store (is_free_in cells)
  pub old_legal : IsLegal model before
  pub new_legal : IsLegal model after
  pub differ : DifferOnlyAt model cells touched before after
  -- no two rows that the views give for a state have one key
  pub are_old : AreTablesOf store (rows_of gives model cells before) old_rows
  pub old_apart : HaveRowsApart store old_rows
  pub are_new : AreTablesOf store (rows_of gives model cells after) new_rows
  pub new_apart : HaveRowsApart store new_rows
  pub legal : AreLegalTables store tables
  pub same : AreSameButFree store (is_free_in cells) tables old_rows
  pub keeps : KeepsFree store (Free cells) tables new_rows kept
  pub kept_legal : AreLegalTables store kept

-- there are such rows and such tables
abbrev pub CanBePlanned : Giving → EntityModel → StoreModel → Cells → Tables → Touched → State → State → Type 0
CanBePlanned gives model store cells tables touched before after =
    (old_rows new_rows kept : Tables) × MayBePlanned gives model store cells tables touched before after old_rows new_rows kept

-- what is told of a plan: of its steps or its cycle; want of memory is free
abbrev pub TellsSteps : (RowPlan → Type 0) → Result (List RowChange) PlanFault → Type 0
TellsSteps P (Ok changes) = P (Steps changes)
TellsSteps P (Err (fault.Circular ring)) = P (Circular ring)
TellsSteps P (Err fault.Memory) = ⊤

-- a plan that leads from the tables to the kept ones
abbrev pub LeadsToKept : Giving → EntityModel → StoreModel → Cells → Tables → Touched → State → State → RowPlan → Type 0
LeadsToKept gives model store cells tables touched before after plan = (old_rows new_rows kept : Tables)
    → MayBePlanned gives model store cells tables touched before after old_rows new_rows kept → IsPlan store tables kept plan

-- the views were asked once for each entity at a touched key, before and afterwards; and no more often at any answer
abbrev pub AsksOnce : EntityModel → Touched → State → State → ℕ → ℕ → RowPlan → Type 0
AsksOnce model touched before after old now plan = now ≡ raised (count_at model touched before + count_at model touched after) old

-- a plan from the rows that stand where some are asked for to wanted ones with what those hold in free cells
pub record IsPlanOfAsked (store : StoreModel) (cells : Cells) (tables asked wanted : Tables) (plan : RowPlan) : Type 0 where
  pub held : Tables
  pub is_held : HoldsHeld store tables asked held
  pub kept : Tables
  pub is_kept : HoldsKept store cells held wanted kept
  pub tells : TellsPlan store held kept plan
