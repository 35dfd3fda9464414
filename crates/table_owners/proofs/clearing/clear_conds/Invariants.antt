use Rattle.std.proofs.Common.{take}
use Rattle.table_owners.specs.Clearing.{Clears, Each, IsCondOn}
use Rattle.table_owners.proofs.clearing.clear_conds.Given as goal

-- the columns of the conditions so far are passed
abbrev pub invariant-loop-cond : goal.invariant-loop-cond
invariant-loop-cond l = Clears (Each (IsCondOn l.table) (take l.cond-index l.conds)) l.initial.free.items l.free.items
