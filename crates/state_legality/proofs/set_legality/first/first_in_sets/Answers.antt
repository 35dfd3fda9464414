use Rattle.std.proofs.lemmas.Result.{IfOk-weaker}
use Rattle.entity_state.proofs.breach_order.Finds.{along}
use Rattle.state_legality.specs.set_legality.Tells.{state_of}
use Rattle.state_legality.proofs.set_legality.Flat.{least_breach}
use Rattle.state_legality.proofs.set_legality.first.first_in_sets.Goals as goal

pub returns : goal.returns
returns c = IfOk-weaker c.first_in_lists.result _ _
    (λ found is links. least_breach c.args.model.now c.requires (state_of c.args.entities.now links) found (along _ _ _ found c.as_slice.ensures.items is))
    c.first_in_lists.ensures
