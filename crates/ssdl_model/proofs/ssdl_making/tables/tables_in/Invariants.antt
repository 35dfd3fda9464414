use Rattle.std.proofs.Common.{◌≡◌, map, take}
use Rattle.ssdl_model.specs.ssdl_making.StoreMeaning.{table_meant}
use Rattle.ssdl_model.proofs.ssdl_making.tables.tables_in.Given as goal

-- the tables that were passed
abbrev pub invariant-loop-set : goal.invariant-loop-set
invariant-loop-set l = l.tables ≡ map (table_meant l.lookups.model.now) (take l.set-index l.set-items)
