use Rattle.std.proofs.Common.{ℕ, List, Option, ap, ◌∙◌}
use Rattle.std.specs.Option.{option_and_then}
use Rattle.groupings.specs.name_places.GivenNames.{first_place}
use Rattle.groupings.specs.name_places.PlacesIn.{place_in}
use Rattle.entity_state.specs.StateTree.{name_of}
use Rattle.schema_names.proofs.LookUps.{look_up}
use Rattle.data_documents.proofs.entity_documents.names.ModelNames.place_among.Goals as goal

pub returns : goal.returns
returns c =
    let self = c.args.self.now in
    let model = self.model.now in
    c.place_of.ensures
    ∙ ap (option_and_then (λ places. place_in places c.args.name.now)) c.in_ok-get.ensures.item
    ∙ look_up place_in (λ type. first_place (name_of model) type.props) (λ (known : List ℕ → Option ℕ). known c.args.name.now) self.tables.props model.types c.args.ty.index self.tabled.props
