-- Whether a numbered property is a dependent one in the group of another.
use Rattle.std.proofs.Common.{◌&&◌, ℕ, Bool}
use Rattle.round_trip.specs.Words.{PropId, Prop}
use Rattle.schema_laws.specs.short_values.Places.{is_dependent}
use Rattle.regions.specs.Basis.{Basis}
use Rattle.conflict_laws.specs.rival.RivalValues.{in_one_group}

abbrev pub tells_at : Basis → PropId → ℕ × Prop → Bool
tells_at basis p placed = is_dependent basis.schema.model (record { index = placed.0 }) && in_one_group basis p (record { index = placed.0 })
