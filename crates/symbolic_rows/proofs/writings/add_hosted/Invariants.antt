use Rattle.std.proofs.Common.{◌≡◌, ◌++◌, map, take, flat_map}
use Rattle.std.specs.List.{enumerate_from}
use Rattle.region_states.specs.region_basis.BasisOf.{basis_of}
use Rattle.symbolic_rows.specs.Written.{in_symbols, writings_by}
use Rattle.symbolic_rows.proofs.writings.add_hosted.Given as goal

-- what the links of the associations so far write has come
abbrev pub invariant-loop-index : goal.invariant-loop-index
invariant-loop-index l = map in_symbols l.writings.items ≡ map in_symbols l.initial.writings.items
    ++ flat_map (writings_by (basis_of l.parts) l.parts.cells.now.places l.region) (take l.index (enumerate_from 0 l.parts.model.now.assocs))
