use Rattle.std.proofs.Common.{◌≡◌, map, take}
use Rattle.region_states.specs.defaults.Defaults.{default_valuation}
use Rattle.region_states.specs.region_basis.BasisOf.{basis_of}
use Rattle.regions.specs.region_laws.pattern.Described.{row_for}
use Rattle.witness_state.specs.SmallLinks.{part_in_row}
use Rattle.witness_state.proofs.small_links.host_rows.end_in_row.Given as goal

-- the parts so far have come
abbrev pub invariant-loop-property : goal.invariant-loop-property
invariant-loop-property l = l.key ≡ map (part_in_row (row_for (default_valuation (basis_of l.parts) 0 l.region) l.row) l.pairs) (take l.property-index l.property-items)
