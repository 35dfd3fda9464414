use Rattle.std.proofs.Common.{sym, arith}
use Rattle.emc_base.proofs.Lists.{item_at}
use Rattle.region_states.specs.region_basis.BasisOf.{basis_of}
use Rattle.witness_state.proofs.region_values.Passed.{none_more, none_there, one_there}
use Rattle.witness_state.proofs.region_values.Telling.{tells_at}
use Rattle.witness_state.proofs.region_values.shared.tells_other.Goals as goal

pub returns-then-tells : goal.returns-then-tells
returns-then-tells c =
    let props = c.args.parts.now.model.now.props in
    let size = c.len-index-end.ensures.count in
    let below = c.loop-index-test.true in
    let one = item_at props c.loop-index.index (omega (arith, size, below)) in
    one_there (tells_at (basis_of c.args.parts.now) c.args.property) props c.loop-index.index one.0 one.1 (sym c.if-tells.ensures)

pub loop-index-preserved : goal.loop-index-preserved
loop-index-preserved c =
    let props = c.args.parts.now.model.now.props in
    let size = c.len-index-end.ensures.count in
    let below = c.loop-index-test.true in
    let one = item_at props c.loop-index.index (omega (arith, size, below)) in
    none_more (tells_at (basis_of c.args.parts.now) c.args.property) props c.loop-index.index one.0 one.1 c.loop-index.invariant (sym c.if-tells.ensures)

pub returns : goal.returns
returns c =
    let size = c.len-index-end.ensures.count in
    let end = c.loop-index-test.false in
    none_there (tells_at (basis_of c.args.parts.now) c.args.property) c.args.parts.now.model.now.props c.loop-index.index (omega (arith, size, end)) c.loop-index.invariant
