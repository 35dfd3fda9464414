use Rattle.std.proofs.Common.{◌≡◌, map}
use Rattle.std.specs.List.{range_with_len}
use Rattle.round_trip.specs.soundness.models.Inheritance.{prop_numbered}
use Rattle.csdl_meaning.specs.Meaning.{declared_before}
use Rattle.csdl_meaning.proofs.csdl_making.types.own_props.Given as goal

-- the ids of the properties that were passed
abbrev pub invariant-loop-place : goal.invariant-loop-place
invariant-loop-place l = l.ids ≡ map prop_numbered (range_with_len (declared_before l.lookups.model.now l.owner) l.place)
