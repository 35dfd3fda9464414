use Rattle.std.proofs.Common.{sym}
use Rattle.state_legality.proofs.set_legality.Leaves.{fits_told, no_prop_fits}
use Rattle.state_legality.proofs.set_legality.legal.fits_at.Goals as goal

pub returns-in-Some : goal.returns-in-Some
returns-in-Some c =
    fits_told c.args.model.now c.args.entity.now c.args.j c.args.prop c.in-Some.declared.now (sym c.in-Some.ensures.item) c.broken_rule.result c.is_none.result c.is_none.ensures c.broken_rule.ensures

pub returns-in-None : goal.returns-in-None
returns-in-None c = no_prop_fits c.args.model.now c.args.entity.now c.args.j c.args.prop (sym c.in-None.ensures.item)
