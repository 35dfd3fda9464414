use Rattle.delta_plan.proofs.grouped.Tabled.{IsHeld, IsMade}
use Rattle.delta_plan.proofs.keeping.held_rows.Given as goal

-- the tables so far are made
abbrev pub invariant-loop-index : goal.invariant-loop-index
invariant-loop-index l = IsMade (IsHeld l.store l.tables l.wanted) l.index l.lists.items
