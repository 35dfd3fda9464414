use Rattle.state_legality.proofs.set_legality.Conditions.{legal_fits, set_legal}
use Rattle.state_legality.proofs.set_legality.legal.is_legal_set.Goals as goal

pub returns : goal.returns
returns c =
    let model = c.args.model.now in
    let set = c.args.set.now in
    let entities = c.args.entities.now in (
      λ is. set_legal model c.requires set entities (c.keep_set_rules.ensures.0 is).0 (c.keep_set_rules.ensures.0 is).1,
      λ legal. c.keep_set_rules.ensures.1 (legal_fits model c.requires set entities legal, legal.keys),
    )
