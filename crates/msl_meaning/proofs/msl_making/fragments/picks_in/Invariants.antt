use Rattle.std.proofs.Common.{◌≡◌, take}
use Rattle.std.specs.List.{filter_map}
use Rattle.msl_rules.specs.Found.{pick_in}
use Rattle.msl_meaning.proofs.msl_making.fragments.picks_in.Given as goal

-- the items that were passed
abbrev pub invariant-loop-pick : goal.invariant-loop-pick
invariant-loop-pick l = l.found ≡ filter_map (pick_in l.names.model.now) (take l.pick-index l.pick-items)
