use Rattle.std.proofs.Common.{◌∙◌, ap}
use Rattle.std.specs.Option.{option_and_then}
use Rattle.groupings.specs.name_places.GivenNames.{first_place}
use Rattle.data_documents.proofs.entity_documents.names.ModelNames.type_named.Goals as goal

pub returns : goal.returns
returns c =
    c.place_of.ensures
    ∙ (λ k. c.args.self.now.tabled.types k c.in_ok-local_name.field-0.now)
    ∙ ap (option_and_then (first_place (λ type. type.name) c.args.self.now.model.now.types)) c.in_ok-local_name.ensures
