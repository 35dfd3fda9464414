use Rattle.region_states.specs.region_basis.BasisOf.{basis_of}
use Rattle.region_states.proofs.region_basis.Bases.{basis_is}
use Rattle.dangling_search.proofs.Searching.{found_exactly}
use Rattle.dangling_search.proofs.first.first_dangling.Goals as goal

pub returns-clause-exact : goal.returns-clause-exact
returns-clause-exact c none =
    found_exactly (basis_of c.args.parts.now) (basis_is c.args.parts.now c.requires.parts) c.requires.parts.limits none c.search.result c.search.ensures.told c.search.ensures.free
