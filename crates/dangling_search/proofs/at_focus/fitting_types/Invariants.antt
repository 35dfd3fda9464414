use Rattle.std.proofs.Common.{◌≡◌, take}
use Rattle.std.specs.List.{filter_map}
use Rattle.region_states.specs.region_basis.BasisOf.{basis_of}
use Rattle.dangling_search.specs.Found.{fitting_type}
use Rattle.dangling_search.proofs.at_focus.fitting_types.Given as goal

-- the types of those so far that have the key have come
abbrev pub invariant-loop-one : goal.invariant-loop-one
invariant-loop-one l = l.types ≡ filter_map (fitting_type (basis_of l.parts) l.look.of.now l.key l.owned) (take l.one-index l.list)
