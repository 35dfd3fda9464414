use Rattle.region_states.proofs.region_basis.Bases.{basis_is}
use Rattle.region_states.proofs.region_basis.parts_are_a_basis.Goals as goal

pub returns : goal.returns
returns c = record { basis = basis_is }
