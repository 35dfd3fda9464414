use Rattle.std.proofs.Common.{flat_map}
use Rattle.std.specs.List.{enumerate_from}
use Rattle.region_states.specs.region_basis.BasisOf.{basis_of}
use Rattle.region_partition.specs.mapping_limits.Checked.{fault_of}
use Rattle.region_partition.specs.mapping_limits.FirstLimit.{regions_passed}
use Rattle.region_partition.proofs.mapping_limits.Told.{handed_on}
use Rattle.region_partition.proofs.mapping_limits.Turns.{first_here, none_at_all, none_further, numbered_here}
use Rattle.region_partition.proofs.mapping_limits.by_cells.check_regions.Goals as goal

-- the first set that passes the limit
pub returns-in_err-check_set : goal.returns-in_err-check_set
returns-in_err-check_set c =
    let regions = regions_passed (basis_of c.args.parts.now) in
    let sets = c.args.parts.now.model.now.sets in
    let i = c.loop-index.index in
    let set = c.set-item.result in
    let found = c.in_err-check_set.field-0.0 in
    let here = numbered_here sets c.as_slice-set-items.result.now c.as_slice-set-items.ensures.items i set c.loop-index-test.true c.set-item.is in
    handed_on (flat_map regions (enumerate_from 0 sets)) found c.from_residual.result c.from_residual.ensures
    (first_here regions (enumerate_from 0 sets) i (i, set) here c.loop-index.invariant (fault_of found) c.in_err-check_set.ensures)

pub loop-index-preserved : goal.loop-index-preserved
loop-index-preserved c =
    let sets = c.args.parts.now.model.now.sets in
    let i = c.loop-index.index in
    let set = c.set-item.result in
    let here = numbered_here sets c.as_slice-set-items.result.now c.as_slice-set-items.ensures.items i set c.loop-index-test.true c.set-item.is in
    none_further (regions_passed (basis_of c.args.parts.now)) (enumerate_from 0 sets) i (i, set) here c.loop-index.invariant c.in_ok-check_set.ensures

pub returns : goal.returns
returns c = none_at_all c.args.parts.now.model.now.sets c.as_slice-set-items.result.now c.as_slice-set-items.ensures.items c.loop-index.index
    (regions_passed (basis_of c.args.parts.now)) c.loop-index-test.false c.loop-index.invariant
