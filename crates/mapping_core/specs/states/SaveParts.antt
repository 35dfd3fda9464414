-- What the parts of saving answer. Only for the proof.
use Rattle.std.specs.Prelude.{◌≡◌, ◌⊎◌, ℕ, List, Result, Ok, Err, ⊤}
use Rattle.round_trip.specs.Words.{AreKept, AreLegalTables, IsBreachOf, IsLegal, Schema, State, StoreModel, EntityModel, Tables}
use Rattle.round_trip.specs.legality.TableBreaches.{IsBreachOfTables}
use Rattle.entity_changes.specs.Changes.{after}
use Rattle.entity_changes.specs.Refusals.{AreAccepted, IsRefusal}
use Rattle.entity_changes.specs.declared.change.Change.{Change}
use Rattle.entity_changes.specs.declared.making.applied.ApplyFault.{ApplyFault}
use Rattle.entity_changes.specs.declared.making.applied.ApplyFault.TheVariants as apply
use Rattle.row_changes.specs.declared.change.RowChange.{RowChange}
use Rattle.row_plans.specs.Plans.{IsPlan}
use Rattle.row_plans.specs.declared.plan.RowPlan.TheVariants.{Steps, Circular as Ring}
use Rattle.mapping_core.specs.declared.loading.LoadFault.{LoadFault}
use Rattle.mapping_core.specs.declared.loading.LoadFault.TheVariants as load
use Rattle.mapping_core.specs.declared.saving.fault.SaveFault.{SaveFault}
use Rattle.mapping_core.specs.declared.saving.fault.SaveFault.TheVariants.{Load, Refused, Breach, FreeReference, Circular, Memory}
use Rattle.mapping_core.specs.states.Saves.{AreInKeyOrder, LeadTo}
use Rattle.mapping_core.specs.states.SaveSteps.{RoseForEntities, RoseForTouched}

-- the fault tells what loading told, or what applying the changes told
abbrev pub IsOfLoad : LoadFault → SaveFault → Type 0
IsOfLoad load.Memory fault = fault ≡ Memory
IsOfLoad told fault = fault ≡ Load told

abbrev pub IsOfApply : ApplyFault → SaveFault → Type 0
IsOfApply (apply.Refused index why) fault = fault ≡ Refused index why
IsOfApply apply.Memory fault = fault ≡ Memory

-- the legal state after the changes; or the first that is refused, or the first breach
abbrev pub ChangesTo : EntityModel → List Change → State → Result State SaveFault → Type 0
ChangesTo model changes old (Ok new) = AreAccepted model old changes × (new ≡ after model old changes) × IsLegal model new
ChangesTo model changes old (Err (Refused index why)) = IsRefusal model old changes index why
ChangesTo model changes old (Err (Breach breach)) = AreAccepted model old changes × IsBreachOf model (after model old changes) breach
ChangesTo model changes old (Err Memory) = ⊤
ChangesTo model changes old (Err _) = ⊥

-- the tables of a state in which the free cells are kept, in key order
pub record AreKeptInKeyOrder (schema : Schema) (tables : Tables) (state : State) (kept : Tables) : Type 0 where
  pub are : AreKept schema tables state kept
  pub in_order : AreInKeyOrder schema.store kept

-- these, which are legal; or the first row that refers to none
abbrev pub KeepsTables : Schema → Tables → State → Result Tables SaveFault → Type 0
KeepsTables schema tables state (Ok kept) = AreKeptInKeyOrder schema tables state kept × AreLegalTables schema.store kept
KeepsTables schema tables state (Err (FreeReference place)) = (kept : Tables) × AreKeptInKeyOrder schema tables state kept
    × IsBreachOfTables schema.store kept (record { rule = 4; place = place })
KeepsTables schema tables state (Err Memory) = ⊤
KeepsTables schema tables state (Err _) = ⊥

-- the changes lead from the state of the tables to a legal one, whose tables with free columns kept are legal
pub record CanBePlannedFor (schema : Schema) (tables : Tables) (changes : List Change) (old new : State) : Type 0 where
  pub lead : LeadTo schema tables changes old new
  pub legal : IsLegal schema.model new
  pub kept : Tables
  pub are_kept : AreKept schema tables new kept
  pub legal_kept : AreLegalTables schema.store kept

-- all row changes that lead to the kept tables, in order, or a ring of such
abbrev pub PlansTo : StoreModel → Tables → Tables → Result (List RowChange) SaveFault → Type 0
PlansTo store tables kept (Ok changes) = IsPlan store tables kept (Steps changes)
PlansTo store tables kept (Err (Circular ring)) = IsPlan store tables kept (Ring ring)
PlansTo store tables kept (Err Memory) = ⊤
PlansTo store tables kept (Err _) = ⊥

-- of whatever kept tables
abbrev pub PlansForKept : Schema → Tables → State → Result (List RowChange) SaveFault → Type 0
PlansForKept schema tables new result = (kept : Tables) → AreKept schema tables new kept → AreLegalTables schema.store kept → PlansTo schema.store tables kept result

-- and how many steps that counted
abbrev pub CountsPlanned : Schema → Tables → List Change → ℕ → ℕ → Result (List RowChange) SaveFault → Type 0
CountsPlanned schema tables changes before now (Ok planned) = RoseForEntities schema changes tables before now
CountsPlanned schema tables changes before now (Err (Circular ring)) = RoseForEntities schema changes tables before now
CountsPlanned schema tables changes before now (Err Memory) = (now ≡ before) ⊎ RoseForTouched schema changes before now
CountsPlanned schema tables changes before now (Err _) = ⊥
