-- Which properties are parts of keys.
-- Source: CSDL version 3, EntityType, Key and PropertyRef.
use Rattle.std.specs.Prelude.{Contains}
use Rattle.round_trip.specs.Words.{PropId, EntityModel, Prop, At, key_props}

-- the property is a part of the key of the type that declares it, and so of all types that have it
abbrev pub IsPartOfKey : EntityModel → PropId → Type 0
IsPartOfKey model p = (declared : Prop) × At model.props p.index declared × Contains (key_props model declared.owner) p
