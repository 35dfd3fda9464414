use Rattle.std.proofs.Common.{All, take}
use Rattle.regions.specs.declared.pattern.Focus.TheVariants as focus
use Rattle.region_states.specs.region_basis.BasisOf.{basis_of}
use Rattle.dangling_search.proofs.Searching.{NeverAt}
use Rattle.dangling_search.proofs.first.in_set.Given as goal

-- at the regions so far the key doesn't dangle
abbrev pub invariant-loop-of_region : goal.invariant-loop-of_region
invariant-loop-of_region l = All (λ rows. NeverAt (basis_of l.parts) l.key (focus.Entity rows.region)) (take l.of_region-index l.of_region-items)
