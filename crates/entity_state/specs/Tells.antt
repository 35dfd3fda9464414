-- What a state's tree tells, by names: which members it has, and what stands under each.
-- Source: this project's entity documents.
use Rattle.std.specs.Prelude.{◌≡◌, ◌≢◌, ℕ, List, [], ◌∷◌, ◌++◌, map, filter, codes, Option, Some, IsSome, AllPairs, Contains}
use Rattle.std.specs.List.{AllZip}
use Rattle.serde_json.specs.Data.{Data, string}
use Rattle.serde_json.specs.Find.{get}
use Rattle.json_form.specs.Trees.{value_tree, key_tree, array_of}
use Rattle.round_trip.specs.Words.{SetId, TypeId, PropId, AssocId, EntityModel, EntitySet, Assoc, Entity, Link, At, props_of, value_of, State, entities_in, links_in, IsIndependent}
use Rattle.entity_state.specs.InOrder.{IsSortedState}
use Rattle.entity_state.specs.StateTree.{name_of, full_name, is_independent, state_tree}

-- the names by which an entity of a type is told: that of its type's member, and those of its properties
abbrev pub entity_names : EntityModel → TypeId → List (List ℕ)
entity_names model ty = codes "$type" ∷ map (name_of model) (props_of model ty)

-- the names by which a state is told: those of the entity sets and of the independent association sets
abbrev pub state_names : EntityModel → List (List ℕ)
state_names model = map (λ set. set.name) model.sets ++ map (λ assoc. assoc.set_name) (filter is_independent model.assocs)

-- no two members of a tree that is told of this model would have one name
pub record HasApartNames (model : EntityModel) : Type 0 where
  pub members : AllPairs ◌≢◌ (state_names model)
  pub props : (ty : TypeId) → AllPairs ◌≢◌ (entity_names model ty)
  pub roles : (id : AssocId) (assoc : Assoc) → At model.assocs id.index assoc → assoc.first.role ≢ assoc.second.role

-- the tree tells an entity: its type's full name, under each property's name the entity's value of it, and nothing else
pub record TellsEntity (model : EntityModel) (entity : Entity) (tree : Data) : Type 0 where
  pub type : get (codes "$type") tree ≡ Some (string (full_name model entity.ty))
  pub values : (prop : PropId) → Contains (props_of model entity.ty) prop → get (name_of model prop) tree ≡ Some (value_tree (value_of model entity prop))
  pub only : (name : List ℕ) → IsSome (get name tree) → Contains (entity_names model entity.ty) name

-- the tree tells a link: under each end's role the end's key, and nothing else
pub record TellsLink (assoc : Assoc) (link : Link) (tree : Data) : Type 0 where
  pub first : get assoc.first.role tree ≡ Some (key_tree link.first)
  pub second : get assoc.second.role tree ≡ Some (key_tree link.second)
  pub only : (name : List ℕ) → IsSome (get name tree) → Contains (assoc.first.role ∷ assoc.second.role ∷ []) name

-- a member that is an array of as many trees as there are items, each of which tells the item at its place
abbrev pub TellsEach : {X : Type 0} → (X → Data → Type 0) → List X → Option Data → Type 0
TellsEach tells items member = (trees : List Data) × (member ≡ Some (array_of trees)) × AllZip tells items trees

-- the tree tells a state: under each entity set's name its entities, under each independent association set's name its links, each in the
-- order of their list, and nothing else
pub record TellsState (model : EntityModel) (state : State) (tree : Data) : Type 0 where
  pub sets : (id : SetId) (set : EntitySet) → At model.sets id.index set → TellsEach (TellsEntity model) (entities_in state id) (get set.name tree)
  pub assocs : (id : AssocId) (assoc : Assoc) → At model.assocs id.index assoc → IsIndependent assoc
      → TellsEach (TellsLink assoc) (links_in state id) (get assoc.set_name tree)
  pub only : (name : List ℕ) → IsSome (get name tree) → Contains (state_names model) name

-- the tree of the state, with the entities of each set and the links of each association set in key order
pub record IsTreeInKeyOrder (model : EntityModel) (state : State) (tree : Data) : Type 0 where
  pub sorted : State
  pub order : IsSortedState model state sorted
  pub is : tree ≡ state_tree model sorted
  pub tells : HasApartNames model → TellsState model sorted tree
