use Rattle.std.proofs.Common.{◌≡◌, flat_map, take}
use Rattle.region_states.specs.region_basis.BasisOf.{basis_of}
use Rattle.dangling_keys.specs.Showing.{cell_at, nullable_in}
use Rattle.dangling_search.proofs.shown.not_null_for.Given as goal

-- the properties of the columns so far have come
abbrev pub invariant-loop-col : goal.invariant-loop-col
invariant-loop-col l = l.list ≡ flat_map (λ col. nullable_in (cell_at (basis_of l.parts) l.look.of.now l.key.from col)) (take l.col-index l.col-items)
