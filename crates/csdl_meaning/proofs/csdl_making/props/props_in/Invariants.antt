use Rattle.std.proofs.Common.{◌≡◌, map, take}
use Rattle.std.specs.List.{enumerate_from, flat_map}
use Rattle.csdl_meaning.specs.Meaning.{prop_of}
use Rattle.csdl_meaning.proofs.csdl_making.props.props_in.Given as goal

-- the properties of the types that were passed
abbrev pub invariant-loop-place : goal.invariant-loop-place
invariant-loop-place l = l.props ≡ flat_map (λ place. map (prop_of l.lookups.model.now place.0) place.1.props) (take l.place (enumerate_from 0 l.lookups.model.now.types))
