use Rattle.std.proofs.Common.{◌≡◌, flat_map, take}
use Rattle.region_states.specs.region_basis.BasisOf.{basis_of}
use Rattle.forced_entities.specs.Forced.{part_in}
use Rattle.forced_entities.specs.Listed.{asked_by, is_arrow}
use Rattle.forced_entities.proofs.stepping.steps.Given as goal

-- the principals by the associations so far have come
abbrev pub invariant-loop-assoc : goal.invariant-loop-assoc
invariant-loop-assoc l = l.list ≡ flat_map (asked_by (basis_of l.parts) (is_arrow (basis_of l.parts)) l.from.set l.from.ty (part_in (basis_of l.parts) l.from)) (take l.assoc-index l.assoc-items)
