use Rattle.std.proofs.Common.{take}
use Rattle.std.specs.List.{AllZip}
use Rattle.keyed_rows.specs.set_rows.Owning.{IsBeside}
use Rattle.keyed_rows.proofs.set_rows.owning.columns_beside.Given as goal

-- the columns beside the properties that were passed
abbrev pub invariant-loop-prop : goal.invariant-loop-prop
invariant-loop-prop l = AllZip (IsBeside l.props l.cols) (take l.prop-index l.wanted) l.found.items
