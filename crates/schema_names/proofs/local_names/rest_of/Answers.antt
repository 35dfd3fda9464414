use Rattle.std.proofs.Common.{◌∷◌, [], ◌∙◌, sym, ap}
use Rattle.std.specs.Option.{option_and_then, option_map}
use Rattle.groupings.specs.name_places.Fronts.{rest_after}
use Rattle.schema_names.proofs.Rests.{rest_append}
use Rattle.schema_names.proofs.local_names.rest_of.Goals as goal

pub returns-in_err-rest_after : goal.returns-in_err-rest_after
returns-in_err-rest_after c =
    ap (option_map (λ rest. rest.now)) c.from_residual.ensures
    ∙ ap (option_and_then (rest_after (46 ∷ []))) c.in_err-rest_after.ensures
    ∙ sym (rest_append c.args.schema.now (46 ∷ []) c.args.reference.now)

pub returns : goal.returns
returns c =
    c.rest_after-2.ensures
    ∙ ap (option_and_then (rest_after (46 ∷ []))) c.in_ok-rest_after.ensures
    ∙ sym (rest_append c.args.schema.now (46 ∷ []) c.args.reference.now)
