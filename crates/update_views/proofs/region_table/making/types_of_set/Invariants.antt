use Rattle.std.proofs.Common.{◌≡◌, map, take}
use Rattle.std.specs.List.{enumerate_from}
use Rattle.region_states.specs.region_basis.BasisOf.{basis_of}
use Rattle.update_views.specs.region_table.Made.{count_before, type_tests}
use Rattle.update_views.proofs.region_table.making.types_of_set.Given as goal

-- the tests of the types so far have come, and the regions of these are counted
abbrev pub invariant-loop-index : goal.invariant-loop-index
invariant-loop-index l =
    (l.types ≡ map (type_tests (basis_of l.parts) l.set l.entry) (take l.index (enumerate_from 0 l.parts.model.now.types)))
    × (l.first ≡ count_before (basis_of l.parts) l.set l.entry l.index)
