use Rattle.std.proofs.Common.{take}
use Rattle.table_owners.specs.Clearing.{Clears, Each, IsNamedByEntities}
use Rattle.table_owners.proofs.clearing.clear_entities.Given as goal

-- the columns of the fragments so far are passed
abbrev pub invariant-loop-fragment : goal.invariant-loop-fragment
invariant-loop-fragment l = Clears (Each IsNamedByEntities (take l.fragment-index l.fragments)) l.initial.free.items l.free.items
