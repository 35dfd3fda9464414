-- The entities and links of a state that are marked as touched.
-- Source: this project's.
use Rattle.std.specs.Prelude.{◌≡◌, List, [], ◌∷◌, filter, Bool}
use Rattle.round_trip.specs.Words.{SetId, AssocId, EntityModel, Entity, Link, key_of}
use Rattle.delta_plan.specs.declared.marked.MarkedEntity.{MarkedEntity}
use Rattle.delta_plan.specs.declared.marked.MarkedLink.{MarkedLink}
use Rattle.delta_plan.specs.declared.marks.Marks.{Marks}
use Rattle.delta_plan.specs.Marks.{holds_key, holds_link}
use Rattle.delta_plan.specs.Units.{Unit, of_entity, of_link}

-- what they are in the state
abbrev pub unit_of : MarkedEntity → Unit
unit_of one = of_entity one.set one.entity.now

abbrev pub unit_of_link : MarkedLink → Unit
unit_of_link one = of_link one.assoc one.link.now

-- the key beside the entity is its own
abbrev pub HasOwnKey : EntityModel → MarkedEntity → Type 0
HasOwnKey model one = one.key ≡ key_of model one.entity.now

module _ (model : EntityModel) (marks : Marks) where
  -- whether an entity or a link is marked
  abbrev pub is_marked : Unit → Bool
  is_marked (of_entity s entity) = holds_key marks s (key_of model entity)
  is_marked (of_link a link) = holds_link marks a link

  -- the entity, and the link, if it is marked
  abbrev pub entities_of : SetId → Entity → List Unit
  entities_of s entity = filter is_marked (of_entity s entity ∷ [])

  abbrev pub links_of : AssocId → Link → List Unit
  links_of a link = filter is_marked (of_link a link ∷ [])
