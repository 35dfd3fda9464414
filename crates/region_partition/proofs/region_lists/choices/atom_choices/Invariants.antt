use Rattle.std.proofs.Common.{◌≡◌, filter, map, take}
use Rattle.round_trip.specs.soundness.mappings.Joined.{prop}
use Rattle.regions.specs.Lists.{choices}
use Rattle.regions.specs.Regions.{atoms_at}
use Rattle.region_states.specs.region_basis.BasisOf.{basis_of}
use Rattle.region_partition.proofs.region_lists.choices.atom_choices.Given as goal

-- the choices among the atoms of the properties so far
abbrev pub invariant-loop-property : goal.invariant-loop-property
invariant-loop-property l = l.chosen
    ≡ choices (map (atoms_at (basis_of l.parts)) (filter (λ p. (basis_of l.parts).tested (prop p)) (take l.property-index l.properties)))
