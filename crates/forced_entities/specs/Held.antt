-- What a legal state with a focus holds of what is forced.
-- Source: CSDL version 3, ReferentialConstraint, AssociationSet and End.
use Rattle.std.specs.Prelude.{◌≡◌, ◌≢◌, List, Contains, Some}
use Rattle.round_trip.specs.Words.{PropId, Null, Entity, IsA, State, entities_in, value_of}
use Rattle.regions.specs.Basis.{Basis}
use Rattle.regions.specs.Patterns.{Valuation, by_entity, by_link, value_under}
use Rattle.regions.specs.declared.pattern.Symbol.{Symbol}
use Rattle.regions.specs.region_laws.Held.{LinkedEntity, StandingLink}
use Rattle.forced_entities.specs.Forced.{part_in}
use Rattle.forced_entities.specs.declared.member.Forced.{Forced}

module _ (basis : Basis) where
  -- the state holds an entity that is meant: in the set, of the type or one under it, and each part of its key that is known has the symbol's value
  pub record HoldsForced (state : State) (values : Valuation) (one : Forced) : Type 0 where
    pub entity : Entity
    pub stands : Contains (entities_in state one.set) entity
    pub typed : IsA basis.schema.model entity.ty one.ty
    pub parts : (p : PropId) (symbol : Symbol) → part_in basis one p ≡ Some symbol → value_of basis.schema.model entity p ≡ value_under values symbol

  -- no property of these is null in the entity
  abbrev pub HasNoNull : List PropId → Entity → Type 0
  HasNoNull not_null entity = (p : PropId) → Contains not_null p → value_of basis.schema.model entity p ≢ Null

  -- the values of an entity and of its partners' keys
  abbrev pub values_at : LinkedEntity basis → Valuation
  values_at at = by_entity basis.schema.model at.entity at.part

  -- the values of a link's keys
  abbrev pub values_at_link : StandingLink basis → Valuation
  values_at_link at = by_link basis.schema.model at.assoc at.link
