-- The order in which a state's entities and links are printed.
-- Source: this project's entity documents, which hold entities in the order of their keys, and links in that of the keys at their ends.
use Rattle.std.specs.Prelude.{◌≡◌, List, map, AllPairs, IsPermutation, IsSorted}
use Rattle.std.specs.Borrow.{Bor}
use Rattle.std.specs.List.{AllZip}
use Rattle.std.specs.List.Sorted.{IsStable}
use Rattle.std.specs.Cmp.Lexicographic.{slice_cmp}
use Rattle.std.specs.Ordering.{on, then_cmp}
use Rattle.std.specs.declared.cmp.Ordering.{Ordering}
use Rattle.std.specs.declared.cmp.Ordering.TheVariants.{Less}
use Rattle.emc_base.specs.Order.{value_cmp}
use Rattle.round_trip.specs.Words.{SetId, AssocId, EntityModel, Entity, Link, State, entities_in, links_in, key_of}
use Rattle.entity_state.specs.declared.key_order.SortedState.{SortedState}

-- entities by their keys
abbrev pub entity_cmp : EntityModel → Entity → Entity → Ordering
entity_cmp model = on (key_of model) (slice_cmp value_cmp)

-- links by the key at their first end, and then by that at their second
abbrev pub link_cmp : Link → Link → Ordering
link_cmp = then_cmp (on (λ link. link.first) (slice_cmp value_cmp)) (on (λ link. link.second) (slice_cmp value_cmp))

-- the same items, risen; those that are alike stand as they stood
pub record IsInOrderOf {X : Type 0} (cmp : X → X → Ordering) (items sorted : List X) : Type 0 where
  pub same : IsPermutation items sorted
  pub rising : IsSorted cmp sorted
  pub stable : IsStable cmp items sorted

-- the same state, with the entities of each set in the order of their keys, and the links of each association set in that of their ends' keys
pub record IsSortedState (model : EntityModel) (state sorted : State) : Type 0 where
  pub entities : AllZip (IsInOrderOf (entity_cmp model)) state.entities sorted.entities
  pub links : AllZip (IsInOrderOf link_cmp) state.links sorted.links

-- the items that are lent
abbrev pub lent : {X : Type 0} → List (Bor X) → List X
lent items = map (λ item. item.now) items

-- the state whose lists are lent
abbrev pub lent_state : SortedState → State
lent_state sorted = record { entities = map (λ list. lent list.items) sorted.entities.items; links = map (λ list. lent list.items) sorted.links.items }

-- the entities of each set stand in the order of their keys, no two of one key, and the links in that of their ends' keys
pub record IsInKeyOrder (model : EntityModel) (state : State) : Type 0 where
  pub entities : (set : SetId) → AllPairs (λ x y. entity_cmp model x y ≡ Less) (entities_in state set)
  pub links : (assoc : AssocId) → AllPairs (λ x y. link_cmp x y ≡ Less) (links_in state assoc)
