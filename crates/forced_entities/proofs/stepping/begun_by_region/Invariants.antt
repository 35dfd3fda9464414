use Rattle.std.proofs.Common.{◌≡◌, ◌++◌, Some, flat_map, take}
use Rattle.std.specs.List.{list_all}
use Rattle.regions.specs.declared.pattern.Symbol.TheVariants as symbol
use Rattle.region_states.specs.region_basis.BasisOf.{basis_of}
use Rattle.forced_entities.specs.Listed.{asked_by, is_known}
use Rattle.forced_entities.proofs.stepping.begun_by_region.Given as goal

-- the principals by the associations so far have come
abbrev pub invariant-loop-assoc : goal.invariant-loop-assoc
invariant-loop-assoc l = l.list ≡ l.initial.list ++ flat_map (asked_by (basis_of l.parts) (λ _ constraint. list_all (is_known (basis_of l.parts) l.region l.not_null) constraint.dependent)
    l.region.set l.region.ty (λ p. Some (symbol.Prop p))) (take l.assoc-index l.assoc-items)
