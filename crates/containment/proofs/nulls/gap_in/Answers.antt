use Rattle.std.proofs.Common.{All, refl, sym, subst}
use Rattle.std.proofs.lemmas.List.{take_all}
use Rattle.std.proofs.lemmas.Option.{slice_get_read}
use Rattle.region_states.specs.region_basis.BasisOf.{basis_of}
use Rattle.containment.specs.Cells.{HasNoGap}
use Rattle.containment.proofs.Turns.{all_further}
use Rattle.containment.specs.Lent.{focus_in}
use Rattle.containment.proofs.nulls.gap_in.Goals as goal

pub loop-row-preserved : goal.loop-row-preserved
loop-row-preserved c =
    let i = c.loop-row.row-index in
    all_further (HasNoGap (basis_of c.args.parts.now) (focus_in c.args.of)) c.args.rows.now i c.row-item.result (slice_get_read _ _ i _ refl c.loop-row-test.true c.row-item.is)
    c.loop-row.invariant c.in_default.ensures.none

pub returns-in-Some-clause-found : goal.returns-in-Some-clause-found
returns-in-Some-clause-found c = (c.loop-row.row-index, c.row-item.result, c.loop-row-test.true, sym c.row-item.is, c.in-Some.ensures.found)

pub returns-clause-none : goal.returns-clause-none
returns-clause-none c = subst (All (HasNoGap (basis_of c.args.parts.now) (focus_in c.args.of))) (take_all c.loop-row.row-index c.args.rows.now c.loop-row-test.false) c.loop-row.invariant
