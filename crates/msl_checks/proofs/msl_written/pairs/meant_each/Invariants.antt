use Rattle.std.proofs.Common.{◌≡◌, map, take}
use Rattle.msl_checks.specs.msl_written.Within.{meant_in}
use Rattle.msl_checks.proofs.msl_written.pairs.meant_each.Given as goal

-- what the pairs that were passed stand for
abbrev pub invariant-loop-pair : goal.invariant-loop-pair
invariant-loop-pair l = l.each ≡ map (meant_in l.writing) (take l.pair-index l.pairs)
