use Rattle.ssdl_model.proofs.ssdl_lists.Tabled.{KnowsTables}
use Rattle.ssdl_model.proofs.ssdl_lists.tables.tables_of.Given as goal

-- the tables that were passed are noted
abbrev pub invariant-loop-place : goal.invariant-loop-place
invariant-loop-place l = KnowsTables l.lookups.model.now l.place l.tables.items
