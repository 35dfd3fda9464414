use Rattle.std.proofs.Common.{◌≡◌, map}
use Rattle.std.specs.List.{range_with_len}
use Rattle.csdl_meaning.specs.Meaning.{own_props}
use Rattle.csdl_meaning.proofs.csdl_making.types.all_own_props.Given as goal

-- the properties of the types that were passed
abbrev pub invariant-loop-place : goal.invariant-loop-place
invariant-loop-place l = l.props.items ≡ map (own_props l.lookups.model.now) (range_with_len 0 l.place)
