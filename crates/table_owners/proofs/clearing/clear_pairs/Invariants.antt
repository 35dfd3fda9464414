use Rattle.std.proofs.Common.{take}
use Rattle.table_owners.specs.Clearing.{Clears, Each, IsPairOn}
use Rattle.table_owners.proofs.clearing.clear_pairs.Given as goal

-- the columns of the pairs so far are passed
abbrev pub invariant-loop-pair : goal.invariant-loop-pair
invariant-loop-pair l = Clears (Each (IsPairOn l.table) (take l.pair-index l.pairs)) l.initial.free.items l.free.items
