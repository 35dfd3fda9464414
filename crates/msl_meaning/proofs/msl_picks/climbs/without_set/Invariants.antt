use Rattle.std.proofs.Common.{All, take}
use Rattle.msl_rules.specs.KeepsMapping.{IsShort}
use Rattle.msl_meaning.proofs.msl_picks.climbs.without_set.Given as goal

-- the type mappings that were passed have few fragments
abbrev pub invariant-loop-types : goal.invariant-loop-types
invariant-loop-types l = All (λ types. IsShort types.fragments) (take l.types-index l.set.types)
