use Rattle.std.proofs.Common.{sym, ◌∙◌}
use Rattle.emc_base.proofs.facts.Keys.{tied_keys}
use Rattle.state_legality.proofs.link_legality.legal.is_same_key.Goals as goal

pub returns : goal.returns
returns c =
    let tied = tied_keys c.args.one.now c.args.other.now in
    (λ is. tied.0 (sym c.eq.ensures ∙ is), λ same. c.eq.ensures ∙ tied.1 same)
