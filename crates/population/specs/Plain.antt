-- Plain entities: those of which nothing is asked but where they stand, a key, and a number for what they must refer to.
-- Source: this project's choice of the states that it shows; CSDL version 3, EntityType, Property and ReferentialConstraint.
use Rattle.std.specs.Prelude.{◌&&◌, ℕ, pos, List, [], false, map, filter, slice_get, unwrap_or, not, if◌then◌else◌}
use Rattle.std.specs.List.{enumerate_from}
use Rattle.std.specs.Option.{option_map_or}
use Rattle.emc_base.specs.declared.value.Value.TheVariants as value
use Rattle.emc_base.specs.declared.value.Kind.TheVariants as kind
use Rattle.round_trip.specs.Words.{TypeId, PropId, Value, Null, Whole, Kind, EntityModel, Prop, Entity, key_props, props_of, value_beside}
use Rattle.schema_laws.specs.sound_demand.Deriving.{derives}
use Rattle.schema_laws.specs.short_values.Fresh.{added_value, fresh}
use Rattle.schema_laws.specs.short_values.Places.{is_among, is_dependent}

-- the value of a kind where nothing is asked: false, the empty text, no bytes, the first number of an enumeration, or zero
abbrev pub first_value : Kind → Value
first_value kind.Boolean = value.Flag false
first_value (kind.Text bound) = value.Text []
first_value (kind.Binary bound) = value.Bytes []
first_value (kind.Enum enumeration) = Whole (unwrap_or (slice_get enumeration.members 0) (pos 0))
first_value _ = Whole (pos 0)

module _ (model : EntityModel) where
  -- the concrete types at or below a type, in the order of the model
  abbrev pub concrete_types : TypeId → List TypeId
  concrete_types t = map (λ placed. record { index = placed.0 })
      (filter (λ placed. not placed.1.is_abstract && derives model (record { index = placed.0 }) t) (enumerate_from 0 model.types))

  -- the first of them
  abbrev pub first_concrete : TypeId → TypeId
  first_concrete t = unwrap_or (slice_get (concrete_types t) 0) t

  module _ (outer number : ℕ) where
    -- the value of a property that is no part of the key: null where it may be, of a dependent one the value of the number
    abbrev pub needed_value : PropId → Prop → Value
    needed_value p declared = if declared.nullable then Null else (if is_dependent model p then fresh declared.kind outer (added_value number) else first_value declared.kind)

    -- the value of a property, where the key has these parts
    abbrev pub plain_value : List PropId → List Value → PropId → Value
    plain_value props key p = if is_among p props then value_beside p props key else option_map_or (needed_value p) (slice_get model.props p.index) Null

    -- the plain entity of the first concrete type at or below a type, with this key
    abbrev pub plain : TypeId → List Value → Entity
    plain t key = record {
      ty = first_concrete t;
      values = map (plain_value (key_props model (first_concrete t)) key) (props_of model (first_concrete t));
    }
