use Rattle.std.proofs.Common.{◌≡◌, [], flat_map, take}
use Rattle.region_partition.specs.mapping_limits.Checked.{of_type}
use Rattle.region_partition.proofs.mapping_limits.documents.check_types.Given as goal

-- none of the types so far passes the limit
abbrev pub invariant-loop-ty : goal.invariant-loop-ty
invariant-loop-ty l = flat_map of_type (take l.ty-index l.types) ≡ []
