use Rattle.std.proofs.Common.{flat_map}
use Rattle.std.specs.List.{enumerate_from}
use Rattle.region_states.specs.region_basis.BasisOf.{basis_of}
use Rattle.region_partition.specs.mapping_limits.Checked.{fault_of}
use Rattle.region_partition.specs.mapping_limits.FirstLimit.{constants_passed}
use Rattle.region_partition.proofs.mapping_limits.Told.{handed_on}
use Rattle.region_partition.proofs.mapping_limits.Turns.{first_here, none_at_all, none_further, numbered_here}
use Rattle.region_partition.proofs.mapping_limits.by_cells.check_constants.Goals as goal

-- the first property whose group passes the limit
pub returns-in_err-check_group : goal.returns-in_err-check_group
returns-in_err-check_group c =
    let constants = constants_passed (basis_of c.args.parts.now) in
    let props = c.args.parts.now.model.now.props in
    let i = c.loop-index.index in
    let declared = c.declared-item.result in
    let found = c.in_err-check_group.field-0.0 in
    let here = numbered_here props c.as_slice-declared-items.result.now c.as_slice-declared-items.ensures.items i declared c.loop-index-test.true c.declared-item.is in
    handed_on (flat_map constants (enumerate_from 0 props)) found c.from_residual.result c.from_residual.ensures
    (first_here constants (enumerate_from 0 props) i (i, declared) here c.loop-index.invariant (fault_of found) c.in_err-check_group.ensures)

pub loop-index-preserved : goal.loop-index-preserved
loop-index-preserved c =
    let props = c.args.parts.now.model.now.props in
    let i = c.loop-index.index in
    let declared = c.declared-item.result in
    let here = numbered_here props c.as_slice-declared-items.result.now c.as_slice-declared-items.ensures.items i declared c.loop-index-test.true c.declared-item.is in
    none_further (constants_passed (basis_of c.args.parts.now)) (enumerate_from 0 props) i (i, declared) here c.loop-index.invariant c.in_ok-check_group.ensures

pub returns : goal.returns
returns c = none_at_all c.args.parts.now.model.now.props c.as_slice-declared-items.result.now c.as_slice-declared-items.ensures.items c.loop-index.index
    (constants_passed (basis_of c.args.parts.now)) c.loop-index-test.false c.loop-index.invariant
