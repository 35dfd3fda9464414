use Rattle.round_trip.specs.Words.{At, ForeignKey}
use Rattle.regions.specs.declared.pattern.Focus.{Focus}
use Rattle.region_states.specs.region_basis.BasisOf.{basis_of}
use Rattle.dangling_search.proofs.Searching.{IsSoBelow, NeverAt}
use Rattle.dangling_search.proofs.first.by_keys.Given as goal

-- none of the keys so far dangles
abbrev pub invariant-loop-index : goal.invariant-loop-index
invariant-loop-index l = IsSoBelow (λ n. (key : ForeignKey) → At l.parts.store.now.keys n key → (of : Focus) → NeverAt (basis_of l.parts) key of) l.index
