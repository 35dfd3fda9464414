-- Entities of regions, by their values.
-- Source: this project's choice of the states that it shows.
use Rattle.std.specs.Prelude.{map}
use Rattle.round_trip.specs.Words.{TypeId, PropId, Value, EntityModel, Entity, props_of}
use Rattle.regions.specs.declared.region.Region.{Region}
use Rattle.regions.specs.Basis.{Basis}
use Rattle.regions.specs.Patterns.{Valuation}

-- the entity of a type that has these values
abbrev pub entity_for : EntityModel → TypeId → (PropId → Value) → Entity
entity_for model t values = record { ty = t; values = map values (props_of model t) }

-- the entity of a region that has them
abbrev pub focus_entity : Basis → Region → Valuation → Entity
focus_entity basis region values = entity_for basis.schema.model region.ty values.prop
