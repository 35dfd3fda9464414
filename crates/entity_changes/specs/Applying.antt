-- What is answered to some changes of a state.
-- Source: this project's.
use Rattle.std.specs.Prelude.{◌≡◌, List, All, Result, Ok, Err, ⊤}
use Rattle.round_trip.specs.Words.{EntityModel, State, IsState}
use Rattle.entity_changes.specs.declared.making.applied.ApplyFault.{ApplyFault}
use Rattle.entity_changes.specs.declared.making.applied.ApplyFault.TheVariants as fault
use Rattle.entity_changes.specs.declared.change.Change.{Change}
use Rattle.entity_changes.specs.Changes.{after, IsChange}
use Rattle.entity_changes.specs.Refusals.{AreAccepted, IsRefusal}

-- the state and its changes are of the model
pub record AreGoodChanges (model : EntityModel) (state : State) (changes : List Change) : Type 0 where
  pub is_state : IsState model state
  pub are_changes : All (IsChange model) changes

-- all changes are made, or the first that is refused is told
abbrev pub TellsApplied : EntityModel → State → List Change → Result State ApplyFault → Type 0
TellsApplied model state changes (Ok new) = AreAccepted model state changes × (new ≡ after model state changes)
TellsApplied model state changes (Err (fault.Refused index reason)) = IsRefusal model state changes index reason
TellsApplied model state changes (Err fault.Memory) = ⊤
