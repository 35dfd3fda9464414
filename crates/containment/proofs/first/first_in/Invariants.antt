use Rattle.std.proofs.Common.{All, None, take}
use Rattle.region_states.specs.region_basis.BasisOf.{basis_of}
use Rattle.regions.specs.declared.pattern.Focus.TheVariants as focus
use Rattle.containment.specs.Found.{FindsOne}
use Rattle.containment.proofs.first.first_in.Given as goal

-- the regions so far have no conflict
abbrev pub invariant-loop-region : goal.invariant-loop-region
invariant-loop-region l = All (λ region. FindsOne (basis_of l.parts) (focus.Entity region) l.kind None) (take l.region-index l.region-items)
