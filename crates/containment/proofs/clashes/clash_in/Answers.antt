use Rattle.std.proofs.Common.{sym, subst}
use Rattle.std.proofs.lemmas.List.{take_all}
use Rattle.std.proofs.lemmas.List.Elements.{All-more, All-same}
use Rattle.containment.specs.Cells.{HasNoClash}
use Rattle.containment.proofs.clashes.clash_in.Goals as goal

pub loop-row-preserved : goal.loop-row-preserved
loop-row-preserved c =
    let NoClash = HasNoClash c.args.model.now c.args.atoms.now in
    All-more NoClash c.args.rows.now c.loop-row.row-index c.row-item.result c.loop-row-test.true c.loop-row.invariant (subst NoClash c.row-item.is c.in_default.ensures.none)

pub returns-clause-none : goal.returns-clause-none
returns-clause-none c =
    let rows = c.args.rows.now in
    All-same (HasNoClash c.args.model.now c.args.atoms.now) rows _ (sym (take_all c.loop-row.row-index rows c.loop-row-test.false)) c.loop-row.invariant
