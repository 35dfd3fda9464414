use Rattle.std.proofs.Common.{◌≡◌, take}
use Rattle.ssdl_model.proofs.ssdl_rules.foreign.are_same.Given as goal

-- the names that were passed are the same
abbrev pub invariant-loop-place : goal.invariant-loop-place
invariant-loop-place l = take l.place l.ones ≡ take l.place l.others
