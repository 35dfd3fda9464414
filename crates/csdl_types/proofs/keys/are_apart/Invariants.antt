use Rattle.std.proofs.Common.{◌≢◌, AllPairs, take}
use Rattle.csdl_types.proofs.keys.are_apart.Given as goal

-- the names that were passed are apart
abbrev pub invariant-loop-place : goal.invariant-loop-place
invariant-loop-place l = AllPairs (λ one other. one ≢ other) (take l.place l.names)
