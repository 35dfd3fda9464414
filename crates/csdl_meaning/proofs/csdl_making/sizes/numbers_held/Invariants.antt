use Rattle.std.proofs.Common.{◌≡◌, ◌-◌, ◌^◌, min, sum_by, take}
use Rattle.csdl_meaning.proofs.csdl_making.HeldNumbers.{held_by}
use Rattle.csdl_meaning.proofs.csdl_making.sizes.numbers_held.Given as goal

-- what the properties of the types that were passed hold
abbrev pub invariant-loop-ty : goal.invariant-loop-ty
invariant-loop-ty l = l.held ≡ min (sum_by (held_by l.lookups.model.now) (take l.ty-index l.ty-items)) (2 ^ 64 - 1)
