use Rattle.std.proofs.Common.{All, take}
use Rattle.msl_rules.specs.KeepsMapping.{HasShortLists}
use Rattle.msl_meaning.proofs.msl_picks.climbs.allow_climbs.Given as goal

-- the mappings of entity sets that were passed have short lists
abbrev pub invariant-loop-set : goal.invariant-loop-set
invariant-loop-set l = All HasShortLists (take l.set-index l.raw.sets)
