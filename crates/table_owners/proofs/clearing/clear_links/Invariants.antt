use Rattle.std.proofs.Common.{take}
use Rattle.table_owners.specs.Clearing.{Clears, Each, IsNamedByLinks}
use Rattle.table_owners.proofs.clearing.clear_links.Given as goal

-- the columns of the fragments so far are passed
abbrev pub invariant-loop-fragment : goal.invariant-loop-fragment
invariant-loop-fragment l = Clears (Each IsNamedByLinks (take l.fragment-index l.fragments)) l.initial.free.items l.free.items
