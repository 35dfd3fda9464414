use Rattle.region_states.specs.region_basis.BasisOf.{basis_of}
use Rattle.region_states.specs.conflicts.There.{LinksFailThere}
use Rattle.mapping_core.proofs.mapping_verdict.Sets.{IsSoBefore}
use Rattle.mapping_core.proofs.mapping_verdict.failures.conflict_of_links.Given as goal

-- at the links of the associations so far no legal state fails by the kind
abbrev pub invariant-loop-index : goal.invariant-loop-index
invariant-loop-index l = IsSoBefore (λ n. ¬ LinksFailThere (basis_of l.parts) (record { index = n }) l.kind) l.index
