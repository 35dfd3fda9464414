use Rattle.regions.proofs.region_laws.values.Told.{atom_one, atom_only, atoms_once}
use Rattle.regions.proofs.region_laws.atoms_part_values.Goals as goal

pub returns-clause-one : goal.returns-clause-one
returns-clause-one c = atom_one

pub returns-clause-only : goal.returns-clause-only
returns-clause-only c = atom_only

pub returns-clause-once : goal.returns-clause-once
returns-clause-once c = atoms_once
