use Rattle.std.proofs.Common.{◌≡◌, drop}
use Rattle.region_states.specs.region_basis.BasisOf.{basis_of}
use Rattle.region_partition.specs.region_search.Standing.{all_cmp, told_cmp}
use Rattle.region_partition.proofs.region_search.standing.compare_all.Given as goal

-- the atoms that were passed are those of the entity's values
abbrev pub invariant-loop-told : goal.invariant-loop-told
invariant-loop-told l = all_cmp (told_cmp (basis_of l.parts) l.entity) l.atoms ≡ all_cmp (told_cmp (basis_of l.parts) l.entity) (drop l.told-index l.atoms)
