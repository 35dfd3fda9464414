use Rattle.std.proofs.Common.{◌≡◌, length}
use Rattle.csdl_types.proofs.sizes.own_counts.Given as goal

-- one for each type that was passed
abbrev pub invariant-loop-ty : goal.invariant-loop-ty
invariant-loop-ty l = length l.counts.items ≡ l.ty-index
