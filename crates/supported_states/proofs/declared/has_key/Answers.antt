use Rattle.std.proofs.Common.{List, sym, ◌∙◌, ap}
use Rattle.std.proofs.lemmas.Bool.Decides.{same_from_decides}
use Rattle.round_trip.specs.Words.{PropId, key_of, values_of}
use Rattle.schema_laws.specs.state_demand.Selecting.{same_key}
use Rattle.schema_laws.proofs.state_demand.writings.Selecting.{Decides-key}
use Rattle.supported_states.proofs.declared.has_key.Goals as goal

pub returns : goal.returns
returns c =
    let model = c.args.model.now in
    let entity = c.args.entity.now in
    let key = c.args.key.now in
    let decided = Decides-key key (key_of model entity) in
    let own = ap (λ (props : List PropId). values_of model entity props) c.key_props.ensures.key in
    same_from_decides c.has_values.result (same_key key (key_of model entity)) c.has_values.ensures (
      (λ told. own ∙ sym (decided.0 told) ∙ sym c.as_slice.ensures.items),
      (λ same. decided.1 (sym c.as_slice.ensures.items ∙ sym same ∙ own)),
    )
