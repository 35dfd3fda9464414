use Rattle.std.proofs.Common.{◌≡◌, map, take}
use Rattle.region_states.specs.region_basis.BasisOf.{basis_of}
use Rattle.dangling_keys.specs.Outer.{outer_value}
use Rattle.dangling_keys.specs.Showing.{cell_at}
use Rattle.dangling_states.proofs.outer.outer_values.Given as goal

-- the values of the columns so far have come
abbrev pub invariant-loop-col : goal.invariant-loop-col
invariant-loop-col l = l.values ≡ map (λ col. outer_value (basis_of l.parts) (cell_at (basis_of l.parts) l.look.of.now l.key.from col)) (take l.col-index l.col-items)
