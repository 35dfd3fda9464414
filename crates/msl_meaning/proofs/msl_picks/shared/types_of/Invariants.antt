use Rattle.std.proofs.Common.{◌≡◌, map, take}
use Rattle.msl_meaning.specs.msl_picks.PickedProps.{pick_type}
use Rattle.msl_meaning.proofs.msl_picks.shared.types_of.Given as goal

-- the types of the picks that were passed
abbrev pub invariant-loop-pick : goal.invariant-loop-pick
invariant-loop-pick l = l.types.items ≡ map (pick_type l.names.model.now) (take l.pick-index l.picks)
