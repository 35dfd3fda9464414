use Rattle.std.proofs.Common.{◌≡◌, ℕ, List, map, take}
use Rattle.msl_rules.specs.declared.msl_lists.raw.RawPair.{RawPair}
use Rattle.msl_checks.proofs.msl_written.repeats.first_again_by.Given as goal

-- the names of the pairs that were passed, whatever names the closure lends; it may be called again
abbrev pub invariant-loop-pair : goal.invariant-loop-pair
invariant-loop-pair g l =
    ((name_in : RawPair → List ℕ) → ((x : _) (name : _) → goal.F-post g l.name_of x name → name.now ≡ name_in x.now)
    → map (λ given. given.now) l.names.items ≡ map name_in (take l.pair-index l.pairs))
    × goal.F-IsAlwaysCallable g l.name_of
