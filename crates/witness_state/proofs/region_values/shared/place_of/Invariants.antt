use Rattle.std.proofs.Common.{◌≡◌, ◌+◌, ℕ, Option, Some, None, drop}
use Rattle.std.specs.Option.{option_map_or}
use Rattle.round_trip.specs.Words.{props_of}
use Rattle.region_states.specs.region_basis.BasisOf.{basis_of}
use Rattle.conflict_laws.specs.rival.RivalValues.{group_place}
use Rattle.witness_state.proofs.region_values.shared.place_of.Given as goal

-- a place so many further on
abbrev further : ℕ → Option ℕ → Option ℕ
further i place = option_map_or (λ n. Some (i + n)) place None

-- none of the properties so far is in the group
abbrev pub invariant-loop-place : goal.invariant-loop-place
invariant-loop-place l = group_place (basis_of l.parts) l.property (props_of l.parts.model.now l.region.ty)
    ≡ further l.place (group_place (basis_of l.parts) l.property (drop l.place (props_of l.parts.model.now l.region.ty)))
