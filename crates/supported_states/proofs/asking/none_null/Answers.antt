use Rattle.std.proofs.Common.{List, ap, ◌∙◌}
use Rattle.std.proofs.lemmas.Bool.Decides.{same_from_decides}
use Rattle.round_trip.specs.Words.{PropId, Value, values_of}
use Rattle.population.specs.Principals.{none_null}
use Rattle.population.proofs.principals.Asked.{Decides-none_null}
use Rattle.supported_states.proofs.asking.none_null.Goals as goal

pub returns : goal.returns
returns c =
    let model = c.args.model.now in
    let values : List PropId → List Value = values_of model c.args.entity.now in
    same_from_decides c.have_no_null.result (none_null model (values c.as_slice.result.now)) c.have_no_null.ensures (Decides-none_null model (values c.as_slice.result.now))
    ∙ ap (λ (props : List PropId). none_null model (values props)) c.as_slice.ensures.items
