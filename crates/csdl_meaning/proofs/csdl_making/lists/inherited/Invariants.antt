use Rattle.std.proofs.Common.{length}
use Rattle.graphs.specs.base_chains.Chains.{base_at}
use Rattle.csdl_meaning.proofs.csdl_making.Joins.{IsJoining}
use Rattle.csdl_meaning.proofs.csdl_making.lists.inherited.Given as goal

-- the lists of the places that were passed
abbrev pub invariant-loop-place : goal.invariant-loop-place
invariant-loop-place l = IsJoining (base_at l.bases) (length l.bases) l.initial.lists.items l.order l.place-index l.lists.items
