use Rattle.std.proofs.Common.{◌≡◌, false, take}
use Rattle.std.specs.List.{list_any}
use Rattle.schema_laws.specs.state_demand.Selecting.{is_picked}
use Rattle.schema_laws.specs.sound_demand.Deriving.{derives}
use Rattle.symbolic_rows.proofs.selects.has_picked.Given as goal

-- none of the picks so far fits
abbrev pub invariant-loop-pick : goal.invariant-loop-pick
invariant-loop-pick l = list_any (is_picked (derives l.model) l.ty) (take l.pick-index l.picks) ≡ false
