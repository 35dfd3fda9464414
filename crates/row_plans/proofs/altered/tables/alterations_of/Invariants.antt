use Rattle.row_plans.proofs.altering.Tables.{AreAlterationsBelow}
use Rattle.row_plans.proofs.altered.tables.alterations_of.Given as goal

-- the alterations of the tables so far
abbrev pub invariant-loop-index : goal.invariant-loop-index
invariant-loop-index l = AreAlterationsBelow l.store l.old l.new l.index l.found.items
