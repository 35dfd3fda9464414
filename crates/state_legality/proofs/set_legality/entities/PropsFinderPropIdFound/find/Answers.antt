use Rattle.std.proofs.Common.{[], ◌∷◌, sym, ◌∙◌}
use Rattle.state_legality.proofs.set_legality.Leaves.{prop_found}
use Rattle.state_legality.proofs.set_legality.entities.PropsFinderPropIdFound.find.Goals as goal

pub returns : goal.returns
returns c =
    let search = c.args.self.now in
    prop_found search.model.now search.s search.set.now search.i search.entity.now c.args.j c.args.prop.now c.in-Some.declared.now c.in-Some-broken_rule.rule c.in_ok-found.found
    (sym c.in-Some.ensures.item) c.in-Some-broken_rule.ensures
    (c.in_ok-found.ensures ∙ (λ k. record { rule = c.number.ensures k; spot = search.s ∷ search.i ∷ c.args.j ∷ []; place = c.in_ok-place.ensures k }))
