use Rattle.std.proofs.Common.{ap, sym, ◌∙◌}
use Rattle.std.specs.Ordering.{is_eq}
use Rattle.emc_base.proofs.facts.Keys.{tied_keys}
use Rattle.state_legality.proofs.link_legality.in_order.is_it.Goals as goal

pub returns : goal.returns
returns c is = (tied_keys c.args.one.now c.args.other.now).0 (sym (c.is_eq.ensures ∙ ap is_eq c.compare.ensures) ∙ is)
