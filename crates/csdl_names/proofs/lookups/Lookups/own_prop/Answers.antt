use Rattle.std.proofs.Common.{Some, None, sym, ap, ◌∙◌}
use Rattle.groupings.specs.name_places.PlacesIn.{place_in}
use Rattle.csdl_names.proofs.PropTables.{own_is}
use Rattle.csdl_names.proofs.lookups.Lookups.own_prop.Goals as goal

pub returns-in_err-place : goal.returns-in_err-place
returns-in_err-place c =
    let self = c.args.self.now in
    let places = c.in_ok-get.field-0.now in
    c.from_residual-in_err-place.ensures
    ∙ own_is self.model.now self.props.now self.declared c.args.owner c.args.name.now places None c.in_ok-get.ensures.item
    (sym c.in_err-place.was ∙ c.place_of.ensures ∙ ap (place_in places) c.as_str.ensures.text)

pub returns : goal.returns
returns c =
    let self = c.args.self.now in
    let places = c.in_ok-get.field-0.now in
    own_is self.model.now self.props.now self.declared c.args.owner c.args.name.now places (Some c.in_ok-place.place) c.in_ok-get.ensures.item
    (sym c.in_ok-place.was ∙ c.place_of.ensures ∙ ap (place_in places) c.as_str.ensures.text)
