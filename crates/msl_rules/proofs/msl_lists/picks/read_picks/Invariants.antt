use Rattle.std.proofs.Common.{◌≡◌, map}
use Rattle.msl_rules.specs.msl_lists.Picks.{pick_of}
use Rattle.msl_rules.proofs.msl_lists.picks.read_picks.Given as goal

-- the items that were passed are read
abbrev pub invariant-loop-item : goal.invariant-loop-item
invariant-loop-item l = l.picks ≡ map (λ item. pick_of item.now) l.yielded
