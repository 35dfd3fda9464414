-- Which change is refused, and why.
-- Source: this project's.
use Rattle.std.specs.Prelude.{◌≡◌, ◌≢◌, List, ◌∷◌, ◌++◌, Contains, length, ℕ}
use Rattle.round_trip.specs.Words.{SetId, Value, EntityModel, Entity, State, entities_in, links_in, key_of}
use Rattle.entity_changes.specs.declared.change.Change.{Change}
use Rattle.entity_changes.specs.declared.change.Change.TheVariants as change
use Rattle.entity_changes.specs.declared.change.Reason.{Reason}
use Rattle.entity_changes.specs.declared.change.Reason.TheVariants as reason
use Rattle.entity_changes.specs.Changes.{after}

module _ (model : EntityModel) where
  -- an entity of the set that has the key; and that none has it
  abbrev pub HasEntity : State → SetId → List Value → Entity → Type 0
  HasEntity state s key entity = Contains (entities_in state s) entity × (key_of model entity ≡ key)

  abbrev pub HasNoEntity : State → SetId → List Value → Type 0
  HasNoEntity state s key = (entity : Entity) → ¬ HasEntity state s key entity

  -- the change can't be made in this state, for this reason
  abbrev pub IsRefused : State → Change → Reason → Type 0
  IsRefused state (change.Insert s entity) reason.Exists = (old : Entity) × HasEntity state s (key_of model entity) old
  IsRefused state (change.Update s entity) reason.Absent = HasNoEntity state s (key_of model entity)
  IsRefused state (change.Update s entity) reason.TypeChanged = (old : Entity) × HasEntity state s (key_of model entity) old × (old.ty ≢ entity.ty)
  IsRefused state (change.Delete s key) reason.Absent = HasNoEntity state s key
  IsRefused state (change.Link a link) reason.LinkExists = Contains (links_in state a) link
  IsRefused state (change.Unlink a link) reason.LinkAbsent = ¬ Contains (links_in state a) link
  IsRefused state _ _ = ⊥

  -- no change is refused at its turn
  abbrev pub AreAccepted : State → List Change → Type 0
  AreAccepted state changes = (before later : List Change) (one : Change) (why : Reason) → changes ≡ before ++ one ∷ later
      → ¬ IsRefused (after model state before) one why

  -- the change at this place is the first that is refused at its turn, for this reason
  pub record IsRefusal (state : State) (changes : List Change) (index : ℕ) (why : Reason) : Type 0 where
    pub before : List Change
    pub one : Change
    pub later : List Change
    pub here : changes ≡ before ++ one ∷ later
    pub place : index ≡ length before
    pub first : AreAccepted state before
    pub refused : IsRefused (after model state before) one why
