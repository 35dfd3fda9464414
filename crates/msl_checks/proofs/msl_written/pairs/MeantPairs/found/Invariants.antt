use Rattle.std.proofs.Common.{◌≡◌, take}
use Rattle.std.specs.List.{filter_map}
use Rattle.msl_checks.proofs.msl_written.pairs.MeantPairs.found.Given as goal

-- what was found of those that were passed
abbrev pub invariant-loop-meant : goal.invariant-loop-meant
invariant-loop-meant l = l.found ≡ filter_map (λ meant. meant) (take l.meant-index l.meant-items)
