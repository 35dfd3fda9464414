use Rattle.csdl_meaning.proofs.csdl_making.Below.{AreBelow}
use Rattle.csdl_meaning.proofs.csdl_making.forest.children_in.Given as goal

-- the lists hold the types that were passed
abbrev pub invariant-loop-place : goal.invariant-loop-place
invariant-loop-place l = AreBelow l.lookups.model.now l.place l.children.items
