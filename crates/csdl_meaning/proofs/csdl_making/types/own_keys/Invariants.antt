use Rattle.std.proofs.Common.{◌≡◌, map}
use Rattle.std.specs.List.{range_with_len}
use Rattle.csdl_meaning.specs.Meaning.{own_key}
use Rattle.csdl_meaning.proofs.csdl_making.types.own_keys.Given as goal

-- the keys of the types that were passed
abbrev pub invariant-loop-place : goal.invariant-loop-place
invariant-loop-place l = l.keys.items ≡ map (own_key l.lookups.model.now) (range_with_len 0 l.place)
