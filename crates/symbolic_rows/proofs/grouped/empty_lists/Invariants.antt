use Rattle.symbolic_rows.specs.Grouped.{AreEmpty}
use Rattle.symbolic_rows.proofs.grouped.empty_lists.Given as goal

-- the lists so far are empty
abbrev pub invariant-loop : goal.invariant-loop
invariant-loop g l = AreEmpty l.counter l.lists.items
