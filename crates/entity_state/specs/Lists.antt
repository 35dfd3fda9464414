-- States without entities, with one entity or link more, and the first entity of a key.
-- Source: CSDL version 3, EntitySet, AssociationSet and Key.
use Rattle.std.specs.Prelude.{◌≡◌, ℕ, List, [], ◌∷◌, ◌++◌, map, Option, Some, None, take, All, slice_set}
use Rattle.round_trip.specs.Words.{SetId, AssocId, Value, EntityModel, Entity, Link, At, State, entities_in, links_in, key_of}

-- an empty list for each entity set and each association set of the model
abbrev pub empty_state : EntityModel → State
empty_state model = record { entities = map (λ _. []) model.sets; links = map (λ _. []) model.assocs }

-- the entity stands behind those of its set, and all else is as it was
abbrev pub with_entity : State → SetId → Entity → State
with_entity state set entity = record { entities = slice_set state.entities set.index (entities_in state set ++ entity ∷ []); links = state.links }

-- the link stands behind those of its association set, and all else is as it was
abbrev pub with_link : State → AssocId → Link → State
with_link state assoc link = record { entities = state.entities; links = slice_set state.links assoc.index (links_in state assoc ++ link ∷ []) }

-- the first of the items of which P holds, or none, where P holds of none
abbrev pub IsFirstOf : {X : Type 0} → (X → Type 0) → List X → Option X → Type 0
IsFirstOf P items None = All (λ item. ¬ P item) items
IsFirstOf {X} P items (Some item) = (place : ℕ) × At items place item × P item × All (λ other. ¬ P other) (take place items)

-- the entity's key is this
abbrev pub HasKey : EntityModel → List Value → Entity → Type 0
HasKey model key entity = key_of model entity ≡ key
