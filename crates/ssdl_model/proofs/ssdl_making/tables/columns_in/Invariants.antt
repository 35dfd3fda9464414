use Rattle.std.proofs.Common.{◌≡◌, map, take}
use Rattle.ssdl_model.specs.ssdl_making.StoreMeaning.{column_of}
use Rattle.ssdl_model.proofs.ssdl_making.tables.columns_in.Given as goal

-- the columns that were passed
abbrev pub invariant-loop-prop : goal.invariant-loop-prop
invariant-loop-prop l = l.columns ≡ map column_of (take l.prop-index l.prop-items)
