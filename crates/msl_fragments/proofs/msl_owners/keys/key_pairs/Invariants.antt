use Rattle.std.proofs.Common.{◌≡◌, take}
use Rattle.msl_rules.specs.OwnerRules.{key_pairs}
use Rattle.msl_fragments.proofs.msl_owners.keys.key_pairs.Given as goal

-- those of the pairs that were passed are kept
abbrev pub invariant-loop-pair : goal.invariant-loop-pair
invariant-loop-pair l = l.kept ≡ key_pairs l.key l.cols (take l.pair-index l.pairs)
