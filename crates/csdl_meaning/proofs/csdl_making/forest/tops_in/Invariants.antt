use Rattle.std.proofs.Common.{◌≡◌, filter}
use Rattle.std.specs.List.{range_with_len}
use Rattle.csdl_meaning.specs.Meaning.{is_top}
use Rattle.csdl_meaning.proofs.csdl_making.forest.tops_in.Given as goal

-- the types without a base among those that were passed
abbrev pub invariant-loop-place : goal.invariant-loop-place
invariant-loop-place l = l.tops ≡ filter (is_top l.lookups.model.now) (range_with_len 0 l.place)
