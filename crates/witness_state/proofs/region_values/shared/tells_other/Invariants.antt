use Rattle.std.proofs.Common.{◌≡◌, false, take}
use Rattle.std.specs.List.{enumerate_from, list_any}
use Rattle.region_states.specs.region_basis.BasisOf.{basis_of}
use Rattle.witness_state.proofs.region_values.Telling.{tells_at}
use Rattle.witness_state.proofs.region_values.shared.tells_other.Given as goal

-- none of the properties so far is a dependent one of the group
abbrev pub invariant-loop-index : goal.invariant-loop-index
invariant-loop-index l = list_any (tells_at (basis_of l.parts) l.property) (take l.index (enumerate_from 0 l.parts.model.now.props)) ≡ false
