use Rattle.std.proofs.Common.{◌≡◌, take}
use Rattle.std.specs.List.{filter_map}
use Rattle.ssdl_model.specs.ssdl_making.StoreMeaning.{col_named}
use Rattle.ssdl_model.proofs.ssdl_making.ids.cols_in.Given as goal

-- the columns of the names that were passed
abbrev pub invariant-loop-name : goal.invariant-loop-name
invariant-loop-name l = l.cols ≡ filter_map (col_named l.lookups.model.now l.ty) (take l.name-index l.name-items)
