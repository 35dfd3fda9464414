use Rattle.std.proofs.Common.{◌≡◌, filter, length, map, take}
use Rattle.round_trip.specs.soundness.mappings.Joined.{prop}
use Rattle.regions.specs.Regions.{atoms_at}
use Rattle.regions.specs.region_laws.Counting.{product_of}
use Rattle.region_states.specs.region_basis.BasisOf.{basis_of}
use Rattle.region_partition.specs.region_lists.Counts.{capped}
use Rattle.region_partition.proofs.region_lists.counting.count_atom_choices.Given as goal

-- the number of choices among the atoms of the properties so far
abbrev pub invariant-loop-property : goal.invariant-loop-property
invariant-loop-property l = l.product
    ≡ capped (product_of (map (λ p. length (atoms_at (basis_of l.parts) p)) (filter (λ p. (basis_of l.parts).tested (prop p)) (take l.property-index l.properties))))
