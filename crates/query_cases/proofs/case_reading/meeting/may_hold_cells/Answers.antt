use Rattle.std.proofs.Common.{length, refl, subst}
use Rattle.std.proofs.lemmas.Bool.{both_ways}
use Rattle.std.proofs.lemmas.Option.{slice_get_read}
use Rattle.emc_base.proofs.Lists.{at_once}
use Rattle.region_states.specs.region_basis.BasisOf.{basis_of}
use Rattle.round_trip.specs.Words.{cell_of}
use Rattle.query_cases.specs.case_cells.Holding.{MayHold}
use Rattle.query_cases.proofs.case_reading.Turns.{CellMay, cells_may, one_below}
use Rattle.query_cases.proofs.case_reading.meeting.may_hold_cells.Goals as goal

pub returns-then-not-may_hold_cell : goal.returns-then-not-may_hold_cell
returns-then-not-may_hold_cell c = (
  λ never. absurd cc,
  λ may.
      let cells = c.args.cells.now in
      let here = slice_get_read cells (length cells) c.loop-i.i c.index-cells-i.result refl c.loop-i-test.true c.index-cells-i.is in
      absurd (both_ways c.may_hold_cell.result c.if-not-may_hold_cell.true
      (c.may_hold_cell.ensures.1 (may (record { index = c.loop-i.i }) c.index-cells-i.result here))),
)

pub loop-i-preserved : goal.loop-i-preserved
loop-i-preserved c =
    let cells = c.args.cells.now in
    let basis = basis_of c.args.parts.now in
    let region = c.args.region.now in
    let held = c.args.held.now in
    let i = c.loop-i.i in
    let here = slice_get_read cells (length cells) i c.index-cells-i.result refl c.loop-i-test.true c.index-cells-i.is in
    one_below (CellMay basis region cells held) i c.loop-i.invariant (λ told at.
    subst (λ one. MayHold basis region one (cell_of held (record { index = i }))) (at_once cells i c.index-cells-i.result told here at)
    (c.may_hold_cell.ensures.0 c.if-not-may_hold_cell.false))

pub returns : goal.returns
returns c = (
  λ is. cells_may (basis_of c.args.parts.now) c.args.region.now c.args.cells.now c.args.held.now c.loop-i.i c.loop-i-test.false c.loop-i.invariant,
  λ may. refl,
)
