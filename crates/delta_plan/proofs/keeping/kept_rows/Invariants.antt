use Rattle.delta_plan.proofs.grouped.Tabled.{IsKept, IsMade}
use Rattle.delta_plan.proofs.keeping.kept_rows.Given as goal

-- the tables so far are made
abbrev pub invariant-loop-index : goal.invariant-loop-index
invariant-loop-index l = IsMade (IsKept l.store l.tables l.fresh l.cells) l.index l.lists.items
