-- Properties by their names.
-- Source: CSDL version 3, Property.
use Rattle.std.specs.Prelude.{◌≢◌}
use Rattle.round_trip.specs.Words.{EntityModel, Prop, PropId, At}

-- two properties have different names
abbrev pub HaveOtherNames : EntityModel → PropId → PropId → Type 0
HaveOtherNames model one other = (this that : Prop) → At model.props one.index this → At model.props other.index that → this.name ≢ that.name
