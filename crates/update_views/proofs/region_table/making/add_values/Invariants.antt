use Rattle.std.proofs.Common.{◌≡◌, ◌++◌, filter, map, take}
use Rattle.round_trip.specs.soundness.mappings.Joined.{prop}
use Rattle.region_states.specs.region_basis.BasisOf.{basis_of}
use Rattle.update_views.specs.region_table.Made.{value_test}
use Rattle.update_views.proofs.region_table.making.add_values.Given as goal

-- those of the properties so far have come
abbrev pub invariant-loop-property : goal.invariant-loop-property
invariant-loop-property l = l.tests ≡ l.initial.tests
    ++ map (value_test (basis_of l.parts) l.properties) (filter (λ p. (basis_of l.parts).tested (prop p)) (take l.property-index l.properties))
