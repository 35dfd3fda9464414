-- Entity states. Source: the client state of Melnik, Adya and Bernstein, SIGMOD 2007; CSDL version 3, EntitySet and
-- AssociationSet.
use Rattle.std.specs.Prelude.{◌≡◌, List, [], length, slice_get, None, All, IsPermutation, unwrap_or}
use Rattle.edm_types.specs.Types.{SetId, AssocId, EntityModel, Assoc, Entity, Link, At}
use Rattle.edm_types.specs.Entities.{key_props, IsEntity}

-- entities for each entity set, links for each association set
pub record State : Type 0 where
  pub entities : List (List Entity)
  pub links : List (List Link)

-- the entities of a set
abbrev pub entities_in : State → SetId → List Entity
entities_in state set = unwrap_or (slice_get state.entities set.index) []

-- the links of an association set
abbrev pub links_in : State → AssocId → List Link
links_in state assoc = unwrap_or (slice_get state.links assoc.index) []

-- the association is independent: it has no constraint, and its links are stored facts
abbrev pub IsIndependent : Assoc → Type 0
IsIndependent assoc = assoc.constraint ≡ None

-- a link of an independent association: at each end as many values as the end's key has parts
pub record IsLink (model : EntityModel) (assoc : Assoc) (link : Link) : Type 0 where
  pub independent : IsIndependent assoc
  pub first : length link.first ≡ length (key_props model assoc.first.ty)
  pub second : length link.second ≡ length (key_props model assoc.second.ty)

-- a list for each set and each association set of the model, of its entities and its links
pub record IsState (model : EntityModel) (state : State) : Type 0 where
  pub sets : length state.entities ≡ length model.sets
  pub assocs : length state.links ≡ length model.assocs
  pub entities : (set : SetId) → All (IsEntity model) (entities_in state set)
  pub links : (a : AssocId) (assoc : Assoc) → At model.assocs a.index assoc → All (IsLink model assoc) (links_in state a)

-- the same entities in each set and the same links in each association set, in any order
pub record IsSameState (c d : State) : Type 0 where
  pub entities : (set : SetId) → IsPermutation (entities_in c set) (entities_in d set)
  pub links : (assoc : AssocId) → IsPermutation (links_in c assoc) (links_in d assoc)
