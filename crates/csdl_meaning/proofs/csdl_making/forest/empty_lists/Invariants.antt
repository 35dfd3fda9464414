use Rattle.std.proofs.Common.{◌≡◌, replicate, []}
use Rattle.csdl_meaning.proofs.csdl_making.forest.empty_lists.Given as goal

-- so many lists
abbrev pub invariant-loop : goal.invariant-loop
invariant-loop l = l.lists.items ≡ replicate l.counter []
