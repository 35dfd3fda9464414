-- What saving changes by an accepted mapping answers.
-- Source: update views that are maintained as those of Melnik, Adya and Bernstein, SIGMOD 2007; foreign keys that are checked at each statement. What a free column holds
-- in a row that stays is kept.
use Rattle.std.specs.Prelude.{◌≡◌, ◌≢◌, ℕ, List, All, Result, Ok, Err, ⊤}
use Rattle.round_trip.specs.Words.{AreKept, AreLegalTables, AreSameTables, At, Breach, IsBreachOf, IsLegal, Place, Schema, State, StoreModel, Table, TableId, Tables, rows_in}
use Rattle.round_trip.specs.legality.TableBreaches.{IsBreachOfTables}
use Rattle.entity_changes.specs.Changes.{after}
use Rattle.entity_changes.specs.Refusals.{AreAccepted, IsRefusal}
use Rattle.entity_changes.specs.declared.change.Change.{Change}
use Rattle.entity_changes.specs.declared.change.Reason.{Reason}
use Rattle.row_changes.specs.Changes as rows
use Rattle.row_changes.specs.Differences.{AreDifference, IsChange}
use Rattle.row_changes.specs.Orders.{IsCycle, StepLegal}
use Rattle.row_changes.specs.declared.change.RowChange.{RowChange}
use Rattle.delta_plan.specs.Keeping.{HaveRisingKeys}
use Rattle.mapping_core.specs.declared.loading.LoadFault.TheVariants as load
use Rattle.mapping_core.specs.declared.saving.fault.SaveFault.{SaveFault}
use Rattle.mapping_core.specs.declared.saving.fault.SaveFault.TheVariants.{Load, Refused, Breach as NotLegal, FreeReference, Circular, Memory}
use Rattle.mapping_core.specs.declared.saving.saved.Saved.{Saved}
use Rattle.mapping_core.specs.states.Loads.{IsLoaded, Loads}

-- the rows of each table stand in the order of their keys
abbrev pub AreInKeyOrder : StoreModel → Tables → Type 0
AreInKeyOrder store tables = (t : TableId) (table : Table) → At store.tables t.index table → HaveRisingKeys table.key (rows_in tables t)

module _ (schema : Schema) (tables : Tables) where
  -- the tables are legal, and this is the state that they tell
  pub record Tell (state : State) : Type 0 where
    pub legal : AreLegalTables schema.store tables
    pub loaded : IsLoaded schema tables state

  -- no change of the state that the tables tell is refused, and this is the state afterwards
  pub record LeadTo (changes : List Change) (old new : State) : Type 0 where
    pub told : Tell old
    pub accepted : AreAccepted schema.model old changes
    pub leads : new ≡ after schema.model old changes

  -- this state is legal, and these are its tables, in which the free cells are kept; their rows stand in the order of their keys
  pub record AreKeptAfter (changes : List Change) (old new : State) (kept : Tables) : Type 0 where
    pub lead : LeadTo changes old new
    pub legal : IsLegal schema.model new
    pub are : AreKept schema tables new kept
    pub in_order : AreInKeyOrder schema.store kept

  -- they are legal too; the row changes are all those that lead to them, each once, and keep all keys after each of them; after all of them the tables are these,
  -- up to the order of rows
  pub record AreSaved (changes : List Change) (saved : Saved) : Type 0 where
    pub old : State
    pub new : State
    pub kept : AreKeptAfter changes old new saved.tables
    pub legal : AreLegalTables schema.store saved.tables
    pub all : AreDifference schema.store tables saved.tables saved.changes
    pub steps : StepLegal schema.store saved.changes tables
    pub leads : AreSameTables (rows.after schema.store tables saved.changes) saved.tables

  -- the first change that is refused
  pub record IsRefusedOf (changes : List Change) (index : ℕ) (why : Reason) : Type 0 where
    pub state : State
    pub told : Tell state
    pub refusal : IsRefusal schema.model state changes index why

  -- the first breach of the state afterwards
  pub record IsBreachAfter (changes : List Change) (breach : Breach) : Type 0 where
    pub old : State
    pub new : State
    pub lead : LeadTo changes old new
    pub breaks : IsBreachOf schema.model new breach

  -- the first row of the kept tables, by table and key, that refers to none by a foreign key
  pub record IsFreeReference (changes : List Change) (place : Place) : Type 0 where
    pub old : State
    pub new : State
    pub kept : Tables
    pub are : AreKeptAfter changes old new kept
    pub breaks : IsBreachOfTables schema.store kept (record { rule = 4; place = place })

  -- some of the row changes that lead to the kept tables, of which each has to come before the next, and the last before the first
  pub record IsCircleOf (changes : List Change) (ring : List RowChange) : Type 0 where
    pub old : State
    pub new : State
    pub kept : Tables
    pub are : AreKeptAfter changes old new kept
    pub legal : AreLegalTables schema.store kept
    pub cycle : IsCycle schema.store tables kept ring
    pub changes_are : All (IsChange schema.store tables kept) ring

  -- what is saved; or the first of these that is so: the tables tell no state, a change is refused, the state afterwards isn't legal, a kept row refers to none, no order keeps
  -- all keys. Memory says nothing.
  abbrev pub Saves : List Change → Result Saved SaveFault → Type 0
  Saves changes (Ok saved) = AreSaved changes saved
  Saves changes (Err (Load fault)) = Loads schema tables (Err fault) × (fault ≢ load.Memory)
  Saves changes (Err (Refused index why)) = IsRefusedOf changes index why
  Saves changes (Err (NotLegal breach)) = IsBreachAfter changes breach
  Saves changes (Err (FreeReference place)) = IsFreeReference changes place
  Saves changes (Err (Circular ring)) = IsCircleOf changes ring
  Saves changes (Err Memory) = ⊤
