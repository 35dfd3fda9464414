use Rattle.std.proofs.Common.{sym}
use Rattle.region_states.specs.region_basis.BasisOf.{basis_of}
use Rattle.witness_state.proofs.links_small.Written.{none_to, one_to}
use Rattle.witness_state.proofs.small_links.written.fragment_of.Goals as goal

pub unreachable-requires : goal.unreachable-requires
unreachable-requires c = none_to (basis_of c.args.parts.now) c.args.table c.requires.0 c.requires.1 (sym c.in-None.ensures)

pub returns : goal.returns
returns c = λ assoc of. one_to (basis_of c.args.parts.now) c.args.table assoc of c.in-Some.fragment.now (sym c.in-Some.ensures)
